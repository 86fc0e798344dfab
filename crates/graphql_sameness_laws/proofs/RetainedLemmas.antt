-- Schemas that are the same have the same used built-in scalars. Specification: 3.5 Scalars, Built-in Scalars.
use Rattle.std.proofs.Common.{◌≡◌, ◌∙◌, ◌&&◌, ◌++◌, ℕ, List, [], ◌∷◌, Some, not, sym, ap, ap₂, subst, subst₂}
use Rattle.std.specs.List.{AllZip, list_any}
use Rattle.std.specs.Str.{bytes_eq}
use Rattle.std.proofs.lemmas.List.Elements.{filter_agree}
use Rattle.graphql_nodes.specs.Names.{NameText}
use Rattle.graphql_nodes.specs.declared.nodes.Node.{Node}
use Rattle.graphql_nodes.specs.declared.spans.SourceSpan.{SourceSpan}
use Rattle.graphql_documents.specs.Schemas.{fields_of, input_fields_of}
use Rattle.graphql_documents.specs.TypeReferences.{inner_named_type}
use Rattle.graphql_documents.specs.declared.documents.components.Component.{Component}
use Rattle.graphql_documents.specs.declared.documents.definitions.FieldDefinition.{FieldDefinition}
use Rattle.graphql_documents.specs.declared.documents.definitions.InputValueDefinition.{InputValueDefinition}
use Rattle.graphql_documents.specs.declared.documents.directives.Directive.{Directive}
use Rattle.graphql_documents.specs.declared.documents.schemas.ExtendedType.{ExtendedType}
use Rattle.graphql_documents.specs.declared.documents.schemas.ExtendedType.TheVariants.{Scalar}
use Rattle.graphql_documents.specs.declared.documents.schemas.Schema.{Schema}
use Rattle.graphql_specification.specs.BuiltInScalars.{IsAddedScalar, SchemaRetainsUsedBuiltInScalars, argument_types, built_in_scalar_names, field_types, has_type, is_unused_built_in, kept_types, missing_scalars, names_built_in_scalar, types_referred, types_referred_by, uses_type}
use Rattle.graphql_document_building.proofs.SameLeafLemmas.{both_said}
use Rattle.graphql_document_building.specs.SameDocuments.{SameUnderName}
use Rattle.graphql_document_building.specs.SameLeaves.{SameDirective, SameDirectiveDefinition, SameField, SameInputValue, SameInputValues}
use Rattle.graphql_building_laws.specs.SameSchemas.{SameComponent, SameComponents, SameMetaFields, SameScalar, SameSchema, SameSchemaDefinition, SameType}
use Rattle.graphql_sameness_laws.proofs.TypeKindLemmas.{both_built_in, fields_alike, input_fields_alike}
use Rattle.graphql_sameness_laws.proofs.TypeLemmas.{one_name}
use Rattle.graphql_sameness_laws.proofs.ZipLemmas.{zip_filter, zip_joined, zip_list_any, zip_one, zip_one_flat}

-- ==== the types that are referred to

one_argument_types : (xs ys : List (Node InputValueDefinition)) → SameInputValues xs ys → argument_types xs ≡ argument_types ys
one_argument_types xs ys same =
    zip_one SameInputValue (λ a. inner_named_type a.value.value.ty.value.value) (λ x y p. one_name _ _ p.ty.written) xs ys same

one_field_types : (d e : Node FieldDefinition) → SameField d e → field_types d.value.value ≡ field_types e.value.value
one_field_types d e same = ap₂ ◌∷◌ (one_name _ _ same.ty) (one_argument_types _ _ same.arguments)

one_types_referred_by : (x y : ExtendedType) → SameType x y → types_referred_by x ≡ types_referred_by y
one_types_referred_by x y same = ap₂ ◌++◌
    (zip_one_flat (SameUnderName (SameComponent SameField)) (λ entry. field_types entry.1.node.value.value)
    (λ s t p. one_field_types s.1.node t.1.node p.1.1) (fields_of x) (fields_of y) (fields_alike x y same))
    (zip_one (SameUnderName (SameComponent SameInputValue)) (λ entry. inner_named_type entry.1.node.value.value.ty.value.value)
    (λ s t p. one_name _ _ p.1.1.ty.written) (input_fields_of x) (input_fields_of y) (input_fields_alike x y same))

one_types_referred : (a b : Schema) → SameSchema a b → types_referred a ≡ types_referred b
one_types_referred a b same = ap₂ ◌++◌
    (zip_one_flat (SameUnderName SameDirectiveDefinition) (λ entry. argument_types entry.1.value.value.arguments.items)
    (λ s t p. one_argument_types _ _ p.1.arguments) a.directive_definitions.entries b.directive_definitions.entries same.directive_definitions)
    (zip_one_flat (SameUnderName SameType) (λ entry. types_referred_by entry.1) (λ s t p. one_types_referred_by s.1 t.1 p.1) a.types.entries b.types.entries same.types)

both_use : (a b : Schema) → SameSchema a b → (text : List ℕ) → uses_type a text ≡ uses_type b text
both_use a b same text = ap (λ (names : List NameText). list_any (λ name. bytes_eq name.text text) names) (one_types_referred a b same)

both_have : (a b : Schema) → SameSchema a b → (text : List ℕ) → has_type a text ≡ has_type b text
both_have a b same text = zip_list_any (SameUnderName SameType) (λ entry. bytes_eq entry.0.text text) (λ entry. bytes_eq entry.0.text text)
    (λ x y p. ap (λ (n : NameText). bytes_eq n.text text) p.0) a.types.entries b.types.entries same.types

-- ==== the types that are kept, and those that are added

kept_alike : (a b : Schema) → SameSchema a b → AllZip (SameUnderName SameType) (kept_types a) (kept_types b)
kept_alike a b same = zip_filter (SameUnderName SameType) (λ entry. not (is_unused_built_in a entry)) (λ entry. not (is_unused_built_in b entry))
    (λ x y p. ap not (ap₂ ◌&&◌ (both_built_in x.1 y.1 p.1)
    (ap₂ ◌&&◌ (ap (λ (n : NameText). names_built_in_scalar n.text) p.0)
    (ap not (both_use a b same x.0.text ∙ ap (λ (n : NameText). uses_type b n.text) p.0))))) a.types.entries b.types.entries same.types

one_missing : (a b : Schema) → SameSchema a b → missing_scalars a ≡ missing_scalars b
one_missing a b same = filter_agree (λ text. uses_type a text && not (has_type a text)) (λ text. uses_type b text && not (has_type b text))
    (λ text. ap₂ ◌&&◌ (both_use a b same text) (ap not (both_have a b same text))) built_in_scalar_names

one_text : (m n : NameText) → m.text ≡ n.text → m.location ≡ n.location → m ≡ n
one_text m n e f = ap₂ (λ text location. let name : NameText = record { text = text; location = location } in name) e f

one_place : (s t : SourceSpan) → s.file_id.0 ≡ t.file_id.0 → s.start ≡ t.start → s.end ≡ t.end → s ≡ t
one_place s t files starts ends =
    ap (λ (n : ℕ). let place : SourceSpan = record { file_id = record { 0 = n }; start = s.start; end = s.end } in place) files
    ∙ ap (λ (n : ℕ). let place : SourceSpan = record { file_id = t.file_id; start = n; end = s.end } in place) starts
    ∙ ap (λ (n : ℕ). let place : SourceSpan = record { file_id = t.file_id; start = t.start; end = n } in place) ends

no_directives : (xs ys : List (Component Directive)) → xs ≡ [] → ys ≡ [] → SameComponents SameDirective xs ys
no_directives xs ys e f = subst (λ l. SameComponents SameDirective l ys) (sym e) (subst (λ l. SameComponents SameDirective [] l) (sym f) tt)

added_alike : (text : List ℕ) (x y : NameText × ExtendedType) → IsAddedScalar text x → IsAddedScalar text y → SameUnderName SameType x y
added_alike text x y p q =
    let same : SameScalar p.scalar q.scalar = record {
      name = one_text _ _ (p.name ∙ sym q.name) (p.name_place ∙ sym q.name_place);
      directives = no_directives _ _ p.no_directives q.no_directives;
      location = p.is_at ∙ ap Some (one_place p.location q.location (p.in_built_in_file ∙ sym q.in_built_in_file) (p.starts ∙ sym q.starts) (p.ends ∙ sym q.ends)) ∙ sym q.is_at;
    } in
    let types : SameType (Scalar p.scalar) (Scalar q.scalar) = same in
    (one_text x.0 y.0 (p.key ∙ sym q.key) (p.key_place ∙ sym q.key_place), subst₂ SameType (sym p.is_scalar) (sym q.is_scalar) types)

pub retained_alike : (a b r s : Schema) → SameSchema a b → SchemaRetainsUsedBuiltInScalars a r → SchemaRetainsUsedBuiltInScalars b s → SameSchema r s
retained_alike a b r s same p q = record {
  schema_definition = subst₂ SameSchemaDefinition (sym p.definition) (sym q.definition) same.schema_definition;
  directive_definitions = subst₂ (λ x y. AllZip (SameUnderName SameDirectiveDefinition) x.entries y.entries) (sym p.directives) (sym q.directives) same.directive_definitions;
  types = subst₂ (AllZip (SameUnderName SameType)) (sym p.types.1) (sym q.types.1)
      (zip_joined (SameUnderName SameType) (kept_types a) (kept_types b) p.types.0 q.types.0 (kept_alike a b same)
      (both_said IsAddedScalar (SameUnderName SameType) added_alike (missing_scalars b) p.types.0 q.types.0
      (subst (λ texts. AllZip IsAddedScalar texts p.types.0) (one_missing a b same) p.types.2) q.types.2));
  meta_fields = subst₂ SameMetaFields (sym p.meta_fields) (sym q.meta_fields) same.meta_fields;
}
