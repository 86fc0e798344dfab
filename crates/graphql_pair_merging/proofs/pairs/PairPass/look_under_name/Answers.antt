use Rattle.std.proofs.Common.{◌≡◌, [], Contains, ap, subst, sym, true, ◌∙◌}
use Rattle.std.specs.Prelude.{filter}
use Rattle.graphql_documents.proofs.ListLemmas.{kept_by_filter, none_stands}
use Rattle.graphql_merging.specs.Groups.{pass_of}
use Rattle.graphql_pair_merging.specs.FieldGroups.{IsGroupOf, fields_in, has_name}
use Rattle.graphql_pair_merging.specs.Pairs.{Both, lists_at}
use Rattle.graphql_pair_merging.specs.declared.field_groups.GroupedBy.TheVariants.{ResponseKey}
use Rattle.graphql_pair_merging.proofs.ArgumentNumberLemmas.{numbers_among}
use Rattle.graphql_pair_merging.proofs.SettleLemmas.{both_in_group, of_group, one_name, settled_named, settles_nothing}
use Rattle.graphql_pair_merging.proofs.pairs.PairPass.look_under_name.Goals as goal

pub returns-in-Some-clause-found : goal.returns-in-Some-clause-found
returns-in-Some-clause-found g c fields numbers grouped =
    let schema = c.args.self.now.schema.now in
    let pass = pass_of c.args.self.now.pass in
    let name = c.args.key.now in
    let group = c.deref.result.now in
    let is : IsGroupOf ResponseKey fields group = (name, c.deref.ensures.value ∙ ap fields_in c.in-Some.ensures.value ∙ grouped name) in
    settled_named schema pass c.look_under_key.result fields group (λ x y. Both fields x y × (has_name ResponseKey name x ≡ true)) (lists_at c.args.waiting.now.items) (lists_at c.look_under_key.new.waiting.items)
    (of_group ResponseKey fields group is) (λ x y p put. both_in_group schema pass fields group is x y p.0 p.1 put)
    (c.look_under_key.ensures.found (record { one_key = one_name ResponseKey fields group is; numbers = numbers_among fields group (of_group ResponseKey fields group is) numbers }))

pub returns-in-None-clause-found : goal.returns-in-None-clause-found
returns-in-None-clause-found g c fields numbers grouped =
    let name = c.args.key.now in
    let none : [] ≡ filter (has_name ResponseKey name) fields = ap fields_in c.in-None.ensures.value ∙ grouped name in
    settles_nothing c.args.self.now.schema.now (pass_of c.args.self.now.pass) fields (λ x y. Both fields x y × (has_name ResponseKey name x ≡ true)) (lists_at c.args.waiting.now.items)
    (λ x y p put. none_stands x (subst (λ l. Contains l x) (sym none) (kept_by_filter (has_name ResponseKey name) fields x p.0.0 p.1)))
