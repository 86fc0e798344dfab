use Rattle.std.proofs.Common.{sym}
use Rattle.graphql_merging.specs.Groups.{pass_of}
use Rattle.graphql_pair_merging.proofs.ArgumentNumberLemmas.{numbers_with}
use Rattle.graphql_pair_merging.proofs.PlaceLemmas.{stands_at}
use Rattle.graphql_pair_merging.proofs.SettleLemmas.{first_or_found}
use Rattle.graphql_pair_merging.proofs.pairs.PairPass.conflict_among.Goals as goal

pub returns-in-Some-clause-found : goal.returns-in-Some-clause-found
returns-in-Some-clause-found g c numbers =
    let there = stands_at c.args.fields.now 0 c.in-Some.first.now (sym c.in-Some.ensures.value) in
    first_or_found c.args.self.now.schema.now (pass_of c.args.self.now.pass) c.conflict_with_each.result c.in-Some.first.now c.args.fields.now
    there (c.requires c.if-not-alone.false c.in-Some.first.now (sym c.in-Some.ensures.value)) (c.conflict_with_each.ensures.found (numbers_with c.in-Some.first.now c.args.fields.now there numbers))
