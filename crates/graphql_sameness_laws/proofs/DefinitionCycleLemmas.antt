-- Directive definitions and input objects without cycles in one schema have none in a schema that is the same. Specification: 3.10 Input Objects,
-- Circular References, 3.13 Directives.
use Rattle.std.proofs.Common.{◌≡◌, ◌∙◌, ◌++◌, List, [], ◌∷◌, Option, None, Some, map, refl, sym, ap, subst, subst₂}
use Rattle.std.specs.Prelude.{option_map}
use Rattle.std.specs.List.{AllZip}
use Rattle.std.specs.Option.{option_and_then}
use Rattle.graphql_nodes.specs.Names.{NameText, SameName}
use Rattle.graphql_nodes.specs.declared.nodes.Node.{Node}
use Rattle.graphql_documents.specs.Contents.{SameIfAny}
use Rattle.graphql_documents.specs.Directives.{directive_definition, directives_of_type}
use Rattle.graphql_documents.specs.Schemas.{as_input_object, type_definition}
use Rattle.graphql_documents.specs.TypeReferences.{TypeText, as_written, inner_named_type, non_null_name_text}
use Rattle.graphql_documents.specs.declared.documents.definitions.DirectiveDefinition.{DirectiveDefinition}
use Rattle.graphql_documents.specs.declared.documents.definitions.InputValueDefinition.{InputValueDefinition}
use Rattle.graphql_documents.specs.declared.documents.directives.Directive.{Directive}
use Rattle.graphql_documents.specs.declared.documents.schemas.ExtendedType.{ExtendedType}
use Rattle.graphql_documents.specs.declared.documents.schemas.ExtendedType.TheVariants.{Scalar, Object, Interface, Union, Enum, InputObject}
use Rattle.graphql_documents.specs.declared.documents.schemas.InputObjectType.{InputObjectType}
use Rattle.graphql_documents.specs.declared.documents.schemas.Schema.{Schema}
use Rattle.graphql_documents.specs.declared.documents.type_references.Type.{«Type»}
use Rattle.graphql_documents.specs.declared.documents.type_references.Type.TheVariants.{Named, NonNullNamed, List', NonNullList'}
use Rattle.graphql_specification.specs.DirectiveCycles.{AppliesBack, DirectiveHasNoCycle, PartRefersBy, SchemaPart, SchemaReference, by_directive, by_type, directive_part, input_references, member_references, part_of, references_of, type_part}
use Rattle.graphql_specification.specs.InputObjectCycles.{InputObjectHasNoCycle, RequiresBack, RequiresBy, input_object_of, required_name}
use Rattle.graphql_document_building.specs.SameDocuments.{SameUnderName}
use Rattle.graphql_document_building.specs.SameLeaves.{SameDirective, SameDirectiveDefinition, SameDirectives, SameEnumValue, SameInputValue, SameInputValues}
use Rattle.graphql_building_laws.specs.SameSchemas.{SameComponent, SameInputObject, SameSchema, SameType}
use Rattle.graphql_sameness_laws.proofs.InputDefinitionLemmas.{nodes_alike}
use Rattle.graphql_sameness_laws.proofs.LeafLemmas.{directive_definition_back}
use Rattle.graphql_sameness_laws.proofs.PathLemmas.{no_cycle_too}
use Rattle.graphql_sameness_laws.proofs.SchemaLookupLemmas.{directive_alike, type_alike}
use Rattle.graphql_sameness_laws.proofs.SchemaSamenessLemmas.{input_object_back, schema_back}
use Rattle.graphql_sameness_laws.proofs.TypeKindLemmas.{as_input_object_alike}
use Rattle.graphql_sameness_laws.proofs.TypeLemmas.{one_name}
use Rattle.graphql_sameness_laws.proofs.ZipLemmas.{options_mapped, options_then, other_side, some_alike, zip_contains, zip_flat, zip_joined, zip_mapped}

-- ==== directive definitions

abbrev SamePart : SchemaPart → SchemaPart → Type 0
SamePart (directive_part d) (directive_part e) = SameDirectiveDefinition d e
SamePart (type_part x) (type_part y) = SameType x y
SamePart _ _ = ⊥

abbrev SameReference : SchemaReference → SchemaReference → Type 0
SameReference (by_directive d) (by_directive e) = SameDirective d e
SameReference (by_type m) (by_type n) = m ≡ n
SameReference _ _ = ⊥

applications : (xs ys : List (Node Directive)) → SameDirectives xs ys → AllZip SameReference (map by_directive xs) (map by_directive ys)
applications xs ys same = zip_mapped SameDirective SameReference by_directive (λ x y p. p) xs ys same

input_references_alike : (xs ys : List (Node InputValueDefinition)) → SameInputValues xs ys → AllZip SameReference (input_references xs) (input_references ys)
input_references_alike xs ys same =
    zip_flat SameInputValue SameReference (λ d. map by_directive d.value.value.directives.items ++ by_type (inner_named_type d.value.value.ty.value.value) ∷ [])
    (λ x y p. zip_joined SameReference _ _ _ _ (applications _ _ p.directives) (one_name _ _ p.ty.written, tt)) xs ys same

type_directives_alike : (x y : ExtendedType) → SameType x y → SameDirectives (directives_of_type x) (directives_of_type y)
type_directives_alike (Scalar d) (Scalar e) same = nodes_alike SameDirective _ _ same.directives
type_directives_alike (Object d) (Object e) same = nodes_alike SameDirective _ _ same.directives
type_directives_alike (Interface d) (Interface e) same = nodes_alike SameDirective _ _ same.directives
type_directives_alike (Union d) (Union e) same = nodes_alike SameDirective _ _ same.directives
type_directives_alike (Enum d) (Enum e) same = nodes_alike SameDirective _ _ same.directives
type_directives_alike (InputObject d) (InputObject e) same = nodes_alike SameDirective _ _ same.directives
type_directives_alike _ _ same = absurd same

member_references_alike : (x y : ExtendedType) → SameType x y → AllZip SameReference (member_references x) (member_references y)
member_references_alike (Enum d) (Enum e) same =
    zip_flat (SameUnderName (SameComponent SameEnumValue)) SameReference (λ entry. map by_directive entry.1.node.value.value.directives.items)
    (λ x y p. applications _ _ p.1.1.directives) d.value.value.values.entries e.value.value.values.entries same.values
member_references_alike (InputObject d) (InputObject e) same =
    input_references_alike (map (λ entry. entry.1.node) d.value.value.fields.entries) (map (λ entry. entry.1.node) e.value.value.fields.entries)
    (zip_mapped (SameUnderName (SameComponent SameInputValue)) SameInputValue (λ entry. entry.1.node) (λ x y p. p.1.1) _ _ same.fields)
member_references_alike (Scalar d) (Scalar e) same = tt
member_references_alike (Object d) (Object e) same = tt
member_references_alike (Interface d) (Interface e) same = tt
member_references_alike (Union d) (Union e) same = tt
member_references_alike _ _ same = absurd same

references_alike : (p q : SchemaPart) → SamePart p q → AllZip SameReference (references_of p) (references_of q)
references_alike (directive_part d) (directive_part e) same = input_references_alike d.value.value.arguments.items e.value.value.arguments.items same.arguments
references_alike (type_part x) (type_part y) same =
    zip_joined SameReference _ _ _ _ (applications (directives_of_type x) (directives_of_type y) (type_directives_alike x y same)) (member_references_alike x y same)
references_alike (directive_part d) (type_part y) same = absurd same
references_alike (type_part x) (directive_part e) same = absurd same

parts_alike : (a b : Schema) → SameSchema a b → (r s : SchemaReference) → SameReference r s → SameIfAny SamePart (part_of a r) (part_of b s)
parts_alike a b schemas (by_directive d) (by_directive e) same =
    subst (λ n. SameIfAny SamePart (option_map directive_part (directive_definition a d.value.value.name)) (option_map directive_part (directive_definition b n))) same.name
    (options_mapped SameDirectiveDefinition SamePart directive_part (λ x y p. p) _ _ (directive_alike a b schemas d.value.value.name))
parts_alike a b schemas (by_type m) (by_type n) same =
    subst (λ n. SameIfAny SamePart (option_map type_part (type_definition a m)) (option_map type_part (type_definition b n))) same
    (options_mapped SameType SamePart type_part (λ x y p. p) _ _ (type_alike a b schemas m))
parts_alike a b schemas (by_directive d) (by_type n) same = absurd same
parts_alike a b schemas (by_type m) (by_directive e) same = absurd same

applies_back_too : (p q : SchemaPart) (r s : SchemaReference) → SamePart p q → SameReference r s → AppliesBack p r → AppliesBack q s
applies_back_too (directive_part d) (directive_part e) (by_directive f) (by_directive g) same alike h = subst₂ SameName alike.name same.name h
applies_back_too (directive_part d) (directive_part e) (by_type m) (by_type n) same alike h = absurd h
applies_back_too (directive_part d) (directive_part e) (by_directive f) (by_type n) same alike h = absurd alike
applies_back_too (directive_part d) (directive_part e) (by_type m) (by_directive g) same alike h = absurd alike
applies_back_too (directive_part d) (type_part y) r s same alike h = absurd same
applies_back_too (type_part x) q r s same alike h = absurd h

pub directive_without_cycle : (a b : Schema) → SameSchema a b → (d e : Node DirectiveDefinition) → SameDirectiveDefinition d e →
    DirectiveHasNoCycle a d → DirectiveHasNoCycle b e
directive_without_cycle a b schemas d e same none =
    let back = schema_back a b schemas in
    no_cycle_too PartRefersBy PartRefersBy (part_of b) (part_of a) SamePart SameReference
    (λ p q r alike by. zip_contains SameReference (references_of p) (references_of q) r (references_alike p q alike) by)
    (λ r s p alike to. other_side SamePart (part_of b r) (part_of a s) p (parts_alike b a back r s alike) to)
    AppliesBack AppliesBack applies_back_too (directive_part e) (directive_part d) (directive_definition_back d e same) none

-- ==== input objects

abbrev required_text : TypeText → Option NameText
required_text (non_null_name_text name) = Some name
required_text _ = None

required_is : (ty : «Type») → required_name ty ≡ required_text (as_written ty)
required_is (Named name) = refl
required_is (NonNullNamed name) = refl
required_is (List' place item) = refl
required_is (NonNullList' place item) = refl

one_required : (s t : «Type») → as_written s ≡ as_written t → required_name s ≡ required_name t
one_required s t e = required_is s ∙ ap required_text e ∙ sym (required_is t)

module _ (a b : Schema) (schemas : SameSchema a b) where
  under_name : (o : Option NameText) → SameIfAny SameInputObject
      (option_and_then as_input_object (option_and_then (type_definition a) o)) (option_and_then as_input_object (option_and_then (type_definition b) o))
  under_name None = tt
  under_name (Some name) = options_then SameType SameInputObject as_input_object as_input_object as_input_object_alike _ _ (type_alike a b schemas name)

  input_object_of_alike : (r s : Node InputValueDefinition) → SameInputValue r s → SameIfAny SameInputObject (input_object_of a r) (input_object_of b s)
  input_object_of_alike r s same =
      subst (λ o. SameIfAny SameInputObject (input_object_of a r) (option_and_then as_input_object (option_and_then (type_definition b) o)))
      (one_required r.value.value.ty.value.value s.value.value.ty.value.value same.ty.written) (under_name (required_name r.value.value.ty.value.value))

  requires_too : (d e : Node InputObjectType) (r : Node InputValueDefinition) → SameInputObject d e → RequiresBy a d r →
      (s : Node InputValueDefinition) × RequiresBy b e s × SameInputValue r s
  requires_too d e r same h =
      let s = zip_contains SameInputValue (map (λ entry. entry.1.node) d.value.value.fields.entries) (map (λ entry. entry.1.node) e.value.value.fields.entries) r
      (zip_mapped (SameUnderName (SameComponent SameInputValue)) SameInputValue (λ entry. entry.1.node) (λ x y p. p.1.1) _ _ same.fields) h.stands in
      (s.0, record { stands = s.1; requires = sym (some_alike SameInputObject _ _ (input_object_of_alike r s.0 s.2)) ∙ h.requires }, s.2)

pub input_object_without_cycle : (a b : Schema) → SameSchema a b → (d e : Node InputObjectType) → SameInputObject d e →
    InputObjectHasNoCycle a d → InputObjectHasNoCycle b e
input_object_without_cycle a b schemas d e same none =
    let back = schema_back a b schemas in
    no_cycle_too (RequiresBy b) (RequiresBy a) (input_object_of b) (input_object_of a) SameInputObject SameInputValue
    (requires_too b a back)
    (λ r s f alike to. other_side SameInputObject (input_object_of b r) (input_object_of a s) f (input_object_of_alike b a back r s alike) to)
    RequiresBack RequiresBack (λ f g r s p q h. subst₂ SameName (one_name _ _ q.ty.written) p.name h) e d (input_object_back d e same) none
