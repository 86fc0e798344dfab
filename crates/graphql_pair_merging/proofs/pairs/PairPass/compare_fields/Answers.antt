use Rattle.std.proofs.Common.{◌∷◌, [], ap, subst, ◌∙◌}
use Rattle.std.specs.Prelude.{MatchOption}
use Rattle.std.proofs.lemmas.List.{map-append}
use Rattle.graphql_merging.specs.Groups.{pass_of}
use Rattle.graphql_pair_merging.specs.Pairs.{AllAgree, DisagreeAmong, lists_at}
use Rattle.graphql_pair_merging.proofs.SettleLemmas.{finds_together, settles_all}
use Rattle.graphql_pair_merging.proofs.pairs.PairPass.compare_fields.Goals as goal

pub returns-in-Some-clause-found : goal.returns-in-Some-clause-found
returns-in-Some-clause-found g c together numbers =
    let schema = c.args.self.now.schema.now in
    let pass = pass_of c.args.self.now.pass in
    let fields = c.args.fields.now in
    finds_together schema pass fields c.in-Some.conflict together
    (subst (λ o. MatchOption o (AllAgree schema pass fields) (DisagreeAmong schema pass fields fields)) c.in-Some.is (c.in_ok-conflict.ensures.found numbers))

pub returns-clause-found : goal.returns-clause-found
returns-clause-found g c together numbers =
    let schema = c.args.self.now.schema.now in
    let pass = pass_of c.args.self.now.pass in
    let fields = c.args.fields.now in
    let below = c.in_ok-below.below in
    settles_all schema pass fields below.items (lists_at c.args.waiting.now.items) (lists_at c.push.new.self.items)
    (ap lists_at c.in_ok-push.ensures.items ∙ map-append (λ v. v.items) c.args.waiting.now.items (below ∷ [])) together
    (subst (λ o. MatchOption o (AllAgree schema pass fields) (DisagreeAmong schema pass fields fields)) c.in_default.is (c.in_ok-conflict.ensures.found numbers)) c.in_ok-below.ensures.below
