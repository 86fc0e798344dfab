use Rattle.std.proofs.Common.{subst}
use Rattle.graphql_documents.specs.declared.documents.schemas.Schema.{Schema}
use Rattle.graphql_specification.specs.Merging.{FieldSelection, Pass, SameResponseShape, field_pass, shape_pass, type_of}
use Rattle.graphql_field_conflicts.specs.Comparisons.{Conflicts}
use Rattle.graphql_field_conflicts.specs.FieldSelections.{selection_of}
use Rattle.graphql_field_conflicts.specs.declared.comparisons.FieldConflict.{FieldConflict}
use Rattle.graphql_pair_merging.specs.Disagreements.{Disagrees}
use Rattle.graphql_pair_merging.specs.declared.disagreements.Disagreement.TheVariants.{NamesOrArguments, Shapes}
use Rattle.graphql_pair_merging.proofs.disagreements.Conflict.report.Goals as goal

shapes_differ : (schema : Schema) (pass : Pass) (x y : FieldSelection) → Disagrees schema pass x y Shapes → ¬ SameResponseShape schema (type_of x) (type_of y)
shapes_differ schema shape_pass x y disagree = disagree
shapes_differ schema field_pass x y disagree = absurd disagree

fields_conflict : (schema : Schema) (pass : Pass) (x y : FieldSelection) (conflict : FieldConflict) → Disagrees schema pass x y (NamesOrArguments conflict) →
    Conflicts x.field.value.value y.field.value.value conflict
fields_conflict schema field_pass x y conflict disagree = disagree
fields_conflict schema shape_pass x y conflict disagree = absurd disagree

pub report_types-requires : goal.report_types-requires
report_types-requires c =
    let h = c.requires in
    let x = selection_of c.args.self.first in
    let y = selection_of c.args.self.second in
    (h.0, shapes_differ h.0 h.1 x y (subst (Disagrees h.0 h.1 x y) c.in-Shapes.is h.2))

pub report_conflict-requires : goal.report_conflict-requires
report_conflict-requires c =
    let h = c.requires in
    let x = selection_of c.args.self.first in
    let y = selection_of c.args.self.second in
    fields_conflict h.0 h.1 x y c.in-NamesOrArguments.conflict (subst (Disagrees h.0 h.1 x y) c.in-NamesOrArguments.is h.2)
