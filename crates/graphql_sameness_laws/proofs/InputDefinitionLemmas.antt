-- Definitions of arguments, input fields and fields that are the same hold in schemas that are the same. Specification: 3.6 Objects,
-- 3.6.1 Field Arguments, 3.10 Input Objects.
use Rattle.std.proofs.Common.{◌≡◌, inl, inr, Bool, List, [], None, Some, map, subst}
use Rattle.std.specs.Prelude.{IsTrue}
use Rattle.std.specs.List.{AllZip}
use Rattle.graphql_nodes.specs.Names.{AreDistinct, IsFreeName, NameText}
use Rattle.graphql_nodes.specs.declared.directive_locations.DirectiveLocation.{DirectiveLocation}
use Rattle.graphql_nodes.specs.declared.directive_locations.DirectiveLocation.TheVariants as allowed_at
use Rattle.graphql_nodes.specs.declared.nodes.Node.{Node}
use Rattle.graphql_documents.specs.Schemas.{is_output_type, type_definition}
use Rattle.graphql_documents.specs.TypeReferences.{inner_named_type}
use Rattle.graphql_documents.specs.declared.documents.components.Component.{Component}
use Rattle.graphql_documents.specs.declared.documents.definitions.FieldDefinition.{FieldDefinition}
use Rattle.graphql_documents.specs.declared.documents.definitions.InputValueDefinition.{InputValueDefinition}
use Rattle.graphql_documents.specs.declared.documents.directives.Directive.{Directive}
use Rattle.graphql_documents.specs.declared.documents.schemas.ExtendedType.{ExtendedType}
use Rattle.graphql_documents.specs.declared.documents.schemas.Schema.{Schema}
use Rattle.graphql_specification.specs.BuiltInScalars.{names_built_in_scalar}
use Rattle.graphql_specification.specs.FieldDefinitions.{FieldDefinitionHolds, FieldDefinitionsHold}
use Rattle.graphql_specification.specs.InputValueDefinitions.{ArgumentDefinitionsHold, DirectivesHoldAt, InputValueDefinitionHolds, NamesType}
use Rattle.graphql_document_building.specs.SameDocuments.{SameUnderName}
use Rattle.graphql_document_building.specs.SameLeaves.{SameDirective, SameDirectives, SameField, SameInputValue, SameInputValues}
use Rattle.graphql_building_laws.specs.SameSchemas.{SameComponent, SameComponents, SameEntries, SameSchema, SameType}
use Rattle.graphql_sameness_laws.proofs.DirectiveLemmas.{applications_too}
use Rattle.graphql_sameness_laws.proofs.SchemaLookupLemmas.{names_kind_too, no_type_too}
use Rattle.graphql_sameness_laws.proofs.TypeKindLemmas.{both_input_type, both_output_type}
use Rattle.graphql_sameness_laws.proofs.TypeLemmas.{one_name}
use Rattle.graphql_sameness_laws.proofs.ZipLemmas.{zip_all, zip_mapped, zip_one}

pub nodes_alike : {X : Type 0} (R : Node X → Node X → Type 0) (xs ys : List (Component X)) → SameComponents R xs ys → AllZip R (map (λ c. c.node) xs) (map (λ c. c.node) ys)
nodes_alike R xs ys same = zip_mapped (SameComponent R) R (λ c. c.node) (λ x y p. p.1) xs ys same

module _ (a b : Schema) (schemas : SameSchema a b) where
  pub directives_at_too : (location : DirectiveLocation) (xs ys : List (Node Directive)) → SameDirectives xs ys → DirectivesHoldAt a location xs → DirectivesHoldAt b location ys
  directives_at_too location xs ys same h = applications_too (Some a) (Some b) schemas [] [] tt location xs ys same h

  pub component_directives_too : (location : DirectiveLocation) (xs ys : List (Component Directive)) → SameComponents SameDirective xs ys →
      DirectivesHoldAt a location (map (λ c. c.node) xs) → DirectivesHoldAt b location (map (λ c. c.node) ys)
  component_directives_too location xs ys same = directives_at_too location _ _ (nodes_alike SameDirective xs ys same)

  pub names_type_too : (test : ExtendedType → Bool) → ((x y : ExtendedType) → SameType x y → test x ≡ test y) → (name other : NameText) → name ≡ other →
      NamesType a test name → NamesType b test other
  names_type_too test alike name other is h = elim h [
    | inl kind ↦ inl (names_kind_too a b schemas test alike name other is kind)
    | inr added ↦ inr (subst (λ n. type_definition b n ≡ None) is (no_type_too a b schemas name added.0), subst (λ (n : NameText). IsTrue (names_built_in_scalar n.text)) is added.1)
  ]

  pub input_value_too : (location : DirectiveLocation) (d e : Node InputValueDefinition) → SameInputValue d e →
      InputValueDefinitionHolds a location d.value.value → InputValueDefinitionHolds b location e.value.value
  input_value_too location d e same h = record {
    name = subst IsFreeName same.name h.name;
    directives = directives_at_too location _ _ same.directives h.directives;
    ty = names_type_too _ both_input_type _ _ (one_name _ _ same.ty.written) h.ty;
  }

  pub argument_definitions_too : (location : DirectiveLocation) (xs ys : List (Node InputValueDefinition)) → SameInputValues xs ys →
      ArgumentDefinitionsHold a location xs → ArgumentDefinitionsHold b location ys
  argument_definitions_too location xs ys same h = record {
    each = zip_all SameInputValue (λ d. InputValueDefinitionHolds a location d.value.value) (λ d. InputValueDefinitionHolds b location d.value.value)
        (input_value_too location) xs ys same h.each;
    distinct = subst AreDistinct (zip_one SameInputValue (λ d. d.value.value.name) (λ x y p. p.name) xs ys same) h.distinct;
  }

  field_definition_too : (d e : Node FieldDefinition) → SameField d e → FieldDefinitionHolds a d.value.value → FieldDefinitionHolds b e.value.value
  field_definition_too d e same h = record {
    name = subst IsFreeName same.name h.name;
    directives = directives_at_too allowed_at.FieldDefinition _ _ same.directives h.directives;
    arguments = argument_definitions_too allowed_at.ArgumentDefinition _ _ same.arguments h.arguments;
  }

  pub field_definitions_too : (xs ys : List (NameText × Component FieldDefinition)) → SameEntries SameField xs ys → FieldDefinitionsHold a xs → FieldDefinitionsHold b ys
  field_definitions_too xs ys same =
      zip_all (SameUnderName (SameComponent SameField))
      (λ x. FieldDefinitionHolds a x.1.node.value.value × NamesType a is_output_type (inner_named_type x.1.node.value.value.ty))
      (λ y. FieldDefinitionHolds b y.1.node.value.value × NamesType b is_output_type (inner_named_type y.1.node.value.value.ty))
      (λ x y p h. (field_definition_too x.1.node y.1.node p.1.1 h.0, names_type_too _ both_output_type _ _ (one_name _ _ p.1.1.ty) h.1)) xs ys same
