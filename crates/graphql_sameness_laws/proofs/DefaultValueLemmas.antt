-- Default values hold in schemas that are the same. Specification: 3.6.1 Field Arguments, 3.10 Input Objects.
use Rattle.std.proofs.Common.{[], sym}
use Rattle.std.specs.List.{AllZip}
use Rattle.graphql_nodes.specs.declared.nodes.Node.{Node}
use Rattle.graphql_documents.specs.Schemas.{fields_of, input_fields_of, is_input_type}
use Rattle.graphql_documents.specs.declared.documents.definitions.InputValueDefinition.{InputValueDefinition}
use Rattle.graphql_documents.specs.declared.documents.schemas.ExtendedType.{ExtendedType}
use Rattle.graphql_documents.specs.declared.documents.schemas.Schema.{Schema}
use Rattle.graphql_specification.specs.DefaultValues.{DefaultValueHolds, DefaultValuesHold, inputs_of, inputs_of_type}
use Rattle.graphql_document_building.specs.SameDocuments.{SameUnderName}
use Rattle.graphql_document_building.specs.SameLeaves.{SameDirectiveDefinition, SameField, SameInputValue, SameValue}
use Rattle.graphql_building_laws.specs.SameSchemas.{SameComponent, SameSchema, SameType}
use Rattle.graphql_sameness_laws.proofs.AcceptLemmas.{accepts_too}
use Rattle.graphql_sameness_laws.proofs.LeafLemmas.{input_value_back}
use Rattle.graphql_sameness_laws.proofs.NamedLemmas.{default_alike}
use Rattle.graphql_sameness_laws.proofs.SchemaLookupLemmas.{names_kind_too}
use Rattle.graphql_sameness_laws.proofs.SchemaSamenessLemmas.{schema_back}
use Rattle.graphql_sameness_laws.proofs.TypeKindLemmas.{both_input_type, fields_alike, input_fields_alike}
use Rattle.graphql_sameness_laws.proofs.TypeLemmas.{one_name}
use Rattle.graphql_sameness_laws.proofs.ValueLemmas.{contents_back}
use Rattle.graphql_sameness_laws.proofs.ZipLemmas.{other_side, zip_all, zip_flat, zip_joined, zip_mapped}

inputs_of_type_alike : (x y : ExtendedType) → SameType x y → AllZip SameInputValue (inputs_of_type x) (inputs_of_type y)
inputs_of_type_alike x y same = zip_joined SameInputValue _ _ _ _
    (zip_flat (SameUnderName (SameComponent SameField)) SameInputValue (λ entry. entry.1.node.value.value.arguments.items) (λ s t p. p.1.1.arguments)
    (fields_of x) (fields_of y) (fields_alike x y same))
    (zip_mapped (SameUnderName (SameComponent SameInputValue)) SameInputValue (λ entry. entry.1.node) (λ s t p. p.1.1)
    (input_fields_of x) (input_fields_of y) (input_fields_alike x y same))

inputs_alike : (a b : Schema) → SameSchema a b → AllZip SameInputValue (inputs_of a) (inputs_of b)
inputs_alike a b same = zip_joined SameInputValue _ _ _ _
    (zip_flat (SameUnderName SameDirectiveDefinition) SameInputValue (λ entry. entry.1.value.value.arguments.items) (λ s t p. p.1.arguments)
    a.directive_definitions.entries b.directive_definitions.entries same.directive_definitions)
    (zip_flat (SameUnderName SameType) SameInputValue (λ entry. inputs_of_type entry.1) (λ s t p. inputs_of_type_alike s.1 t.1 p.1)
    a.types.entries b.types.entries same.types)

module _ (a b : Schema) (schemas : SameSchema a b) where
  default_holds_too : (d e : Node InputValueDefinition) → SameInputValue d e → DefaultValueHolds a d.value.value → DefaultValueHolds b e.value.value
  default_holds_too d e same h kind value is =
      let back = schema_back a b schemas in
      let before = names_kind_too b a back is_input_type both_input_type _ _ (sym (one_name _ _ same.ty.written)) kind in
      let x = other_side SameValue e.value.value.default_value d.value.value.default_value value (default_alike _ _ (input_value_back d e same).default_value) is in
      accepts_too a b schemas [] [] tt (h before x.0 x.1) e.value.value.ty.value.value value.value.value same.ty.written (contents_back x.2.contents)

  pub default_values_too : DefaultValuesHold a → DefaultValuesHold b
  default_values_too = zip_all SameInputValue (λ d. DefaultValueHolds a d.value.value) (λ d. DefaultValueHolds b d.value.value)
      default_holds_too _ _ (inputs_alike a b schemas)
