use Rattle.std.proofs.Common.{◌≡◌, ◌∷◌, take}
use Rattle.std.specs.Prelude.{filter}
use Rattle.graphql_documents.specs.declared.documents.components.ComponentOrigin.TheVariants as origin
use Rattle.graphql_schema_checking.specs.Definitions.{kind_of, same_kind}
use Rattle.graphql_schema_building.specs.TypeParts.{originated}
use Rattle.graphql_schema_building.proofs.type_parts.parts_with.Given as goal

abbrev pub invariant-loop-extension : goal.invariant-loop-extension
invariant-loop-extension l = originated l.parts.items ≡
    (origin.Definition, l.definition) ∷ filter (λ part. same_kind l.kind (kind_of part.1)) (originated (take l.extension-index l.extensions))
