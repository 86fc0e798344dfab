-- What a true report cannot say.
use Rattle.std.proofs.Common.{◌≡◌, ℕ, ◌≤◌, List, Some, ◌∙◌, sym, ap, arith}
use Rattle.std.specs.Prelude.{◌≢◌, Option}
use Rattle.std.specs.Borrow.{Bor}
use Rattle.std.proofs.lemmas.Option.{same_Some}
use Rattle.graphql_nodes.specs.Names.{NameText}
use Rattle.graphql_documents.specs.Selections.{fragments_of}
use Rattle.graphql_specification.specs.Fields.{FieldFormReport}
use Rattle.graphql_documents.specs.Walks.{Walk, Descent, PassesDepth}
use Rattle.graphql_specification.specs.Documents.{DocumentLimit, fragment_nests, walk_of_variables, walk_of_root, walk_of_labels, walk_of_conditions, walk_of_fragments, merging_limit}
use Rattle.graphql_diagnostics.specs.declared.data.DiagnosticData.TheVariants as report
use Rattle.graphql_diagnostics.specs.declared.details.Details.{Details}
use Rattle.graphql_diagnostics.specs.declared.details.Details.TheVariants as details
use Rattle.graphql_coordinates.specs.declared.coordinates.SchemaCoordinate.{SchemaCoordinate}
use Rattle.graphql_coordinates.specs.declared.coordinates.SchemaCoordinate.TheVariants as coordinate
use Rattle.graphql_coordinates.specs.declared.coordinates.TypeAttributeCoordinate.{TypeAttributeCoordinate}
use Rattle.graphql_documents.specs.declared.documents.executables.ExecutableDocument.{ExecutableDocument}
use Rattle.graphql_documents.specs.declared.documents.executables.Field.{Field}
use Rattle.graphql_documents.specs.declared.documents.executables.SelectionSet.{SelectionSet}
use Rattle.graphql_nodes.specs.declared.nodes.Node.{Node}
use Rattle.graphql_documents.specs.declared.documents.schemas.Schema.{Schema}
use Rattle.graphql_nodes.specs.declared.spans.SourceSpan.{SourceSpan}

module _ (document : ExecutableDocument)
    (shallow : (walk : Walk) (set : SelectionSet) (depth : ℕ) (visited_fragments : List NameText) →
    Descent (fragments_of document) walk set depth visited_fragments → depth ≤ 500) where
  no_descent_passes : (walk : Walk) (set : SelectionSet) → ¬ PassesDepth (fragments_of document) walk set
  no_descent_passes walk set p =
      let within = shallow walk set p.depth p.visited_fragments p.descent in
      let over = p.passes in
      let f : ⊥ = omega arith in f

  pub no_limit : (schema : Option Schema) (d : Details) (at : Option SourceSpan) →
      d ≡ details.Diagnostic report.RecursionError → ¬ DocumentLimit schema document d at
  no_limit schema d at is (fragment_nests in' nests) = let f : ⊥ = cc in f
  no_limit schema d at is (walk_of_variables {o = o} in' p) = no_descent_passes _ _ p
  no_limit schema d at is (walk_of_root {o = o} in' other p) = no_descent_passes _ _ p
  no_limit schema d at is (walk_of_labels deep) = no_descent_passes _ _ deep.2
  no_limit schema d at is (walk_of_conditions {o = o} in' one p) = no_descent_passes _ _ p
  no_limit schema d at is (walk_of_fragments in' p) = let f : ⊥ = cc in f
  no_limit schema d at is (merging_limit after has split nests) = let f : ⊥ = cc in f

pub other_place : (schema : Option Schema) (place : Option NameText) (f : Node Field)
    (owner : TypeAttributeCoordinate) (output : NameText) (describe : Bor (List ℕ)) (at : Option SourceSpan) →
    at ≢ f.location → ¬ FieldFormReport schema place f (report.MissingSubselection owner output describe) at
other_place schema place f owner output describe at elsewhere broken = elsewhere broken.3.at_is

pub other_coordinate : (schema : Option Schema) (parent : NameText) (f : Node Field)
    (name : NameText) (owner : SchemaCoordinate) (location at : Option SourceSpan) →
    owner ≢ coordinate.TypeAttribute (record { ty = parent; attribute = f.value.value.name }) →
    ¬ FieldFormReport schema (Some parent) f (report.UndefinedArgument name owner location) at
other_coordinate schema parent f name owner location at other broken =
    other (broken.3.coordinate_is ∙
    ap (λ ty. coordinate.TypeAttribute (record { ty = ty; attribute = f.value.value.name })) (sym (same_Some parent broken.0 broken.2.parent_is)))
