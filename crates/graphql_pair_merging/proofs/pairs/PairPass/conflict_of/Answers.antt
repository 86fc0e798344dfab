use Rattle.std.proofs.Common.{[], refl, subst}
use Rattle.std.specs.Prelude.{MatchOption}
use Rattle.graphql_documents.proofs.ListLemmas.{stands_first}
use Rattle.graphql_field_conflicts.specs.FieldSelections.{selection_of}
use Rattle.graphql_merging.specs.Groups.{pass_of}
use Rattle.graphql_specification.specs.MergedSets.{Agree}
use Rattle.graphql_pair_merging.specs.Disagreements.{Disagrees}
use Rattle.graphql_pair_merging.proofs.pairs.PairPass.conflict_of.Goals as goal

pub returns-in-Some : goal.returns-in-Some
returns-in-Some c numbers =
    let schema = c.args.self.now.schema.now in
    let pass = pass_of c.args.self.now.pass in
    let x = selection_of c.args.first.field in
    let y = selection_of c.args.second.field in
    record {
      x = c.args.first;
      y = c.args.second;
      in_first = stands_first c.args.first [];
      in_second = stands_first c.args.second [];
      first_is = refl;
      second_is = refl;
      disagree = subst (λ o. MatchOption o (Agree schema pass x y) (Disagrees schema pass x y)) c.in-Some.is (c.in_ok-found.ensures numbers);
    }
