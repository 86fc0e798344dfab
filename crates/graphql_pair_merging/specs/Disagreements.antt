-- What two fields that were put together do not agree on.
use Rattle.std.specs.Prelude.{◌≡◌, Some}
use Rattle.graphql_documents.specs.Schemas.{type_definition}
use Rattle.graphql_documents.specs.TypeReferences.{inner_named_type}
use Rattle.graphql_documents.specs.declared.documents.schemas.ExtendedType.{ExtendedType}
use Rattle.graphql_documents.specs.declared.documents.type_references.Type.{«Type»}
use Rattle.graphql_specification.specs.Merging.{FieldSelection, Pass, SameResponseShape, field_pass, shape_pass, type_of}
use Rattle.graphql_documents.specs.declared.documents.schemas.Schema.{Schema}
use Rattle.graphql_field_conflicts.specs.Comparisons.{Conflicts}
use Rattle.graphql_pair_merging.specs.declared.disagreements.Disagreement.{Disagreement}
use Rattle.graphql_pair_merging.specs.declared.disagreements.Disagreement.TheVariants.{NamesOrArguments, Shapes}

-- two fields that are put together in this pass do not agree on this
abbrev pub Disagrees : Schema → Pass → FieldSelection → FieldSelection → Disagreement → Type 0
Disagrees schema shape_pass x y Shapes = ¬ SameResponseShape schema (type_of x) (type_of y)
Disagrees schema field_pass x y (NamesOrArguments conflict) = Conflicts x.field.value.value y.field.value.value conflict
Disagrees schema _ x y _ = ⊥

-- the type is defined, inside its lists
abbrev pub HasDefinition : Schema → «Type» → Type 0
HasDefinition schema ty = (d : ExtendedType) × (type_definition schema (inner_named_type ty) ≡ Some d)
