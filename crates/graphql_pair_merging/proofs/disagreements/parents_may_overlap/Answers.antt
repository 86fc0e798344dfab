use Rattle.std.proofs.Common.{sym}
use Rattle.graphql_field_conflicts.specs.FieldSelections.{selection_of}
use Rattle.graphql_pair_merging.proofs.DisagreementLemmas.{parents_overlap}
use Rattle.graphql_pair_merging.proofs.disagreements.parents_may_overlap.Goals as goal

pub returns-in-Some-Some : goal.returns-in-Some-Some
returns-in-Some-Some c =
    parents_overlap c.args.schema.now (selection_of c.args.first) (selection_of c.args.second) c.in-Some-Some.first.now c.in-Some-Some.second.now c.may_overlap.result
    (sym c.in-Some-Some.ensures.value) (sym c.in-Some-Some.ensures'.value) c.may_overlap.ensures
