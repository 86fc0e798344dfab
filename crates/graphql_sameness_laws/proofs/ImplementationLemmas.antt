-- Types that are the same implement the same interfaces. Specification: 3.6 Objects, 3.7 Interfaces, IsValidImplementation.
use Rattle.std.proofs.Common.{◌≡◌, ◌∙◌, inl, inr, List, Option, None, Some, sym, ap, subst, subst₂}
use Rattle.std.specs.Prelude.{All, IsSome, IsTrue, find}
use Rattle.std.proofs.lemmas.List.Elements.{All-weaker}
use Rattle.graphql_nodes.specs.Names.{NameText, same_name}
use Rattle.graphql_nodes.specs.declared.nodes.Node.{Node}
use Rattle.graphql_documents.specs.Contents.{SameIfAny}
use Rattle.graphql_documents.specs.Definitions.{definition_named}
use Rattle.graphql_documents.specs.Schemas.{Implements, IsInterface, IsListed, IsSubtypeOf, is_required, type_definition}
use Rattle.graphql_documents.specs.TypeReferences.{TypeText, as_written, list_text, name_text, non_null_list_text, non_null_name_text, same_type}
use Rattle.graphql_documents.specs.declared.documents.components.Component.{Component}
use Rattle.graphql_documents.specs.declared.documents.components.ComponentName.{ComponentName}
use Rattle.graphql_documents.specs.declared.documents.definitions.FieldDefinition.{FieldDefinition}
use Rattle.graphql_documents.specs.declared.documents.definitions.InputValueDefinition.{InputValueDefinition}
use Rattle.graphql_documents.specs.declared.documents.schemas.ExtendedType.{ExtendedType}
use Rattle.graphql_documents.specs.declared.documents.schemas.ExtendedType.TheVariants.{Scalar, Object, Interface, Union, Enum, InputObject}
use Rattle.graphql_documents.specs.declared.documents.schemas.InterfaceType.{InterfaceType}
use Rattle.graphql_documents.specs.declared.documents.schemas.Schema.{Schema}
use Rattle.graphql_documents.specs.declared.documents.type_references.Type.{«Type»}
use Rattle.graphql_documents.specs.declared.documents.type_references.Type.TheVariants.{Named, NonNullNamed, List', NonNullList'}
use Rattle.graphql_specification.specs.Implementations.{ArgumentsImplement, FieldList, ImplementationsHold, ImplementsField, IsCovariant, IsListedInterface, IsValidImplementationType, field_under}
use Rattle.graphql_document_building.specs.SameDocuments.{SameUnderName}
use Rattle.graphql_document_building.specs.SameLeaves.{SameField, SameInputValue, SameInputValues}
use Rattle.graphql_building_laws.specs.SameSchemas.{SameComponent, SameEntries, SameInterface, SameSchema, SameType}
use Rattle.graphql_sameness_laws.proofs.LeafLemmas.{field_back}
use Rattle.graphql_sameness_laws.proofs.MergingLemmas.{as_same_interface}
use Rattle.graphql_sameness_laws.proofs.NamedLemmas.{both_required, definition_named_alike}
use Rattle.graphql_sameness_laws.proofs.SchemaLookupLemmas.{type_alike, type_too}
use Rattle.graphql_sameness_laws.proofs.SchemaSamenessLemmas.{component_back, schema_back}
use Rattle.graphql_sameness_laws.proofs.TypeKindLemmas.{one_list}
use Rattle.graphql_sameness_laws.proofs.TypeLemmas.{both_same_type}
use Rattle.graphql_sameness_laws.proofs.ZipLemmas.{options_mapped, other_side, some_alike, zip_all, zip_back, zip_contains, zip_find}

abbrev SameFieldEntry : NameText × Component FieldDefinition → NameText × Component FieldDefinition → Type 0
SameFieldEntry = SameUnderName (SameComponent SameField)

field_entry_back : (x y : NameText × Component FieldDefinition) → SameFieldEntry x y → SameFieldEntry y x
field_entry_back x y p = (sym p.0, component_back SameField field_back x.1 y.1 p.1)

field_under_alike : (name : NameText) (xs ys : FieldList) → SameEntries SameField xs ys → SameIfAny (SameComponent SameField) (field_under name xs) (field_under name ys)
field_under_alike name xs ys same =
    options_mapped SameFieldEntry (SameComponent SameField) (λ entry. entry.1) (λ x y p. p.1)
    (find (λ entry. same_name entry.0 name) xs) (find (λ entry. same_name entry.0 name) ys)
    (zip_find SameFieldEntry (λ entry. same_name entry.0 name) (λ entry. same_name entry.0 name) (λ x y p. ap (λ n. same_name n name) p.0) xs ys same)

-- ==== the types of fields, by how they are written

abbrev ValidText : Schema → TypeText → TypeText → Type 0
ValidText schema (name_text a) (name_text b) = IsCovariant schema a b
ValidText schema (name_text a) (non_null_name_text b) = IsCovariant schema a b
ValidText schema (non_null_name_text a) (non_null_name_text b) = IsCovariant schema a b
ValidText schema (list_text a) (list_text b) = ValidText schema a b
ValidText schema (list_text a) (non_null_list_text b) = ValidText schema a b
ValidText schema (non_null_list_text a) (non_null_list_text b) = ValidText schema a b
ValidText schema _ _ = ⊥

written_valid : (schema : Schema) (a b : «Type») → IsValidImplementationType schema a b → ValidText schema (as_written a) (as_written b)
written_valid schema (Named a) (Named b) h = h
written_valid schema (Named a) (NonNullNamed b) h = h
written_valid schema (Named a) (List' other b) h = absurd h
written_valid schema (Named a) (NonNullList' other b) h = absurd h
written_valid schema (NonNullNamed a) (Named b) h = absurd h
written_valid schema (NonNullNamed a) (NonNullNamed b) h = h
written_valid schema (NonNullNamed a) (List' other b) h = absurd h
written_valid schema (NonNullNamed a) (NonNullList' other b) h = absurd h
written_valid schema (List' place a) (Named b) h = absurd h
written_valid schema (List' place a) (NonNullNamed b) h = absurd h
written_valid schema (List' place a) (List' other b) h = written_valid schema a b h
written_valid schema (List' place a) (NonNullList' other b) h = written_valid schema a b h
written_valid schema (NonNullList' place a) (Named b) h = absurd h
written_valid schema (NonNullList' place a) (NonNullNamed b) h = absurd h
written_valid schema (NonNullList' place a) (List' other b) h = absurd h
written_valid schema (NonNullList' place a) (NonNullList' other b) h = written_valid schema a b h

valid_written : (schema : Schema) (a b : «Type») → ValidText schema (as_written a) (as_written b) → IsValidImplementationType schema a b
valid_written schema (Named a) (Named b) h = h
valid_written schema (Named a) (NonNullNamed b) h = h
valid_written schema (Named a) (List' other b) h = absurd h
valid_written schema (Named a) (NonNullList' other b) h = absurd h
valid_written schema (NonNullNamed a) (Named b) h = absurd h
valid_written schema (NonNullNamed a) (NonNullNamed b) h = h
valid_written schema (NonNullNamed a) (List' other b) h = absurd h
valid_written schema (NonNullNamed a) (NonNullList' other b) h = absurd h
valid_written schema (List' place a) (Named b) h = absurd h
valid_written schema (List' place a) (NonNullNamed b) h = absurd h
valid_written schema (List' place a) (List' other b) h = valid_written schema a b h
valid_written schema (List' place a) (NonNullList' other b) h = valid_written schema a b h
valid_written schema (NonNullList' place a) (Named b) h = absurd h
valid_written schema (NonNullList' place a) (NonNullNamed b) h = absurd h
valid_written schema (NonNullList' place a) (List' other b) h = absurd h
valid_written schema (NonNullList' place a) (NonNullList' other b) h = valid_written schema a b h

module _ (a b : Schema) (schemas : SameSchema a b) where
  implements_too : (name interface : NameText) → Implements a name interface → Implements b name interface
  implements_too name interface h =
      let y = type_too a b schemas name h.definition h.defined in
      record { definition = y.0; defined = y.1; lists = subst (IsListed interface) (one_list h.definition y.0 y.2) h.lists }

  subtype_of_too : (wide narrow : NameText) (x y : Option ExtendedType) → SameIfAny SameType x y → IsSubtypeOf a wide x narrow → IsSubtypeOf b wide y narrow
  subtype_of_too wide narrow None y same h = absurd h
  subtype_of_too wide narrow (Some x) None same h = absurd same
  subtype_of_too wide narrow (Some (Union d)) (Some (Union e)) same h = subst (IsListed narrow) same.members h
  subtype_of_too wide narrow (Some (Interface d)) (Some (Interface e)) same h = implements_too narrow wide h
  subtype_of_too wide narrow (Some (Scalar d)) (Some y) same h = absurd h
  subtype_of_too wide narrow (Some (Object d)) (Some y) same h = absurd h
  subtype_of_too wide narrow (Some (Enum d)) (Some y) same h = absurd h
  subtype_of_too wide narrow (Some (InputObject d)) (Some y) same h = absurd h
  subtype_of_too wide narrow (Some _) (Some _) same h = absurd same

  covariant_too : (wide narrow : NameText) → IsCovariant a wide narrow → IsCovariant b wide narrow
  covariant_too wide narrow h = elim h [
    | inl named ↦ inl named
    | inr below ↦ inr (subtype_of_too wide narrow (type_definition a wide) (type_definition b wide) (type_alike a b schemas wide) below)
  ]

  valid_text_too : (s t : TypeText) → ValidText a s t → ValidText b s t
  valid_text_too (name_text x) (name_text y) h = covariant_too x y h
  valid_text_too (name_text x) (non_null_name_text y) h = covariant_too x y h
  valid_text_too (name_text x) (list_text y) h = absurd h
  valid_text_too (name_text x) (non_null_list_text y) h = absurd h
  valid_text_too (non_null_name_text x) (name_text y) h = absurd h
  valid_text_too (non_null_name_text x) (non_null_name_text y) h = covariant_too x y h
  valid_text_too (non_null_name_text x) (list_text y) h = absurd h
  valid_text_too (non_null_name_text x) (non_null_list_text y) h = absurd h
  valid_text_too (list_text x) (name_text y) h = absurd h
  valid_text_too (list_text x) (non_null_name_text y) h = absurd h
  valid_text_too (list_text x) (list_text y) h = valid_text_too x y h
  valid_text_too (list_text x) (non_null_list_text y) h = valid_text_too x y h
  valid_text_too (non_null_list_text x) (name_text y) h = absurd h
  valid_text_too (non_null_list_text x) (non_null_name_text y) h = absurd h
  valid_text_too (non_null_list_text x) (list_text y) h = absurd h
  valid_text_too (non_null_list_text x) (non_null_list_text y) h = valid_text_too x y h

  valid_type_too : (s t u v : «Type») → as_written s ≡ as_written u → as_written t ≡ as_written v → IsValidImplementationType a s t → IsValidImplementationType b u v
  valid_type_too s t u v left right h =
      valid_written b u v (subst₂ (ValidText b) left right (valid_text_too (as_written s) (as_written t) (written_valid a s t h)))

-- ==== arguments of fields

arguments_implement_too : (xs ys us vs : List (Node InputValueDefinition)) → SameInputValues xs us → SameInputValues ys vs → ArgumentsImplement xs ys → ArgumentsImplement us vs
arguments_implement_too xs ys us vs left right h = record {
  provided = zip_all SameInputValue
      (λ a. (b : Node InputValueDefinition) × (definition_named a.value.value.name ys ≡ Some b) × IsTrue (same_type a.value.value.ty.value.value b.value.value.ty.value.value))
      (λ a. (b : Node InputValueDefinition) × (definition_named a.value.value.name vs ≡ Some b) × IsTrue (same_type a.value.value.ty.value.value b.value.value.ty.value.value))
      (λ x u p found.
      let v = other_side SameInputValue (definition_named x.value.value.name ys) (definition_named x.value.value.name vs) found.0
      (definition_named_alike x.value.value.name ys vs right) found.1 in
      (v.0, subst (λ n. definition_named n vs ≡ Some v.0) p.name v.1, sym (both_same_type _ _ _ _ p.ty.written v.2.ty.written) ∙ found.2)) xs us left h.provided;
  no_extra = zip_all SameInputValue
      (λ b. IsTrue (is_required b.value.value) → IsSome (definition_named b.value.value.name xs))
      (λ b. IsTrue (is_required b.value.value) → IsSome (definition_named b.value.value.name us))
      (λ y v p wanted required.
      subst (λ n. IsSome (definition_named n us)) p.name
      (sym (some_alike SameInputValue _ _ (definition_named_alike y.value.value.name xs us left)) ∙ wanted (both_required y v p ∙ required))) ys vs right h.no_extra;
}

-- ==== the interfaces that a type lists

pub interface_too : (a b : Schema) → SameSchema a b → (name : NameText) (d : Node InterfaceType) → IsInterface a name d →
    (e : Node InterfaceType) × IsInterface b name e × SameInterface d e
interface_too a b schemas name d is =
    let found = type_too a b schemas name (Interface d) is in
    let here = as_same_interface d found.0 found.2 in
    (here.0, found.1 ∙ ap Some here.1, here.2)

module _ (a b : Schema) (schemas : SameSchema a b) (xs ys : FieldList) (fields : SameEntries SameField xs ys) (interfaces : List ComponentName) where
  -- the interface in the first schema, if it is one in the second
  listed_before : (listed : ComponentName) (e : Node InterfaceType) → IsListedInterface b interfaces listed e →
      (d : Node InterfaceType) × IsListedInterface a interfaces listed d × SameInterface e d
  listed_before listed e h =
      let d = interface_too b a (schema_back a b schemas) listed.name e h.is_interface in
      (d.0, record { is_listed = h.is_listed; is_interface = d.1 }, d.2)

  record FieldBefore (listed : ComponentName) (name : NameText) (wanted own : Component FieldDefinition) : Type 0 where
    key : NameText
    first : Component FieldDefinition
    second : Component FieldDefinition
    implements : ImplementsField a xs interfaces listed key first second
    same_first : SameField first.node wanted.node
    same_second : SameField second.node own.node

  field_before : (listed : ComponentName) (name : NameText) (wanted own : Component FieldDefinition) → ImplementsField b ys interfaces listed name wanted own →
      FieldBefore listed name wanted own
  field_before listed name wanted own h =
      let d = listed_before listed h.interface h.is_listed in
      let entry = zip_contains SameFieldEntry h.interface.value.value.fields.entries d.0.value.value.fields.entries (name, wanted) d.2.fields h.stands in
      let found = other_side (SameComponent SameField) (field_under name ys) (field_under name xs) own
      (field_under_alike name ys xs (zip_back SameFieldEntry SameFieldEntry field_entry_back xs ys fields)) h.implemented in
      record {
        key = entry.0.0;
        first = entry.0.1;
        second = found.0;
        implements = record {
          interface = d.0;
          is_listed = d.1;
          stands = entry.1;
          implemented = subst (λ n. field_under n xs ≡ Some found.0) entry.2.0 found.1;
        };
        same_first = field_back wanted.node entry.0.1.node entry.2.1.1;
        same_second = field_back own.node found.0.node found.2.1;
      }

  pub implementations_too : ImplementationsHold a xs interfaces → ImplementationsHold b ys interfaces
  implementations_too h = record {
    defined = All-weaker (λ listed. (d : Node InterfaceType) × IsInterface a listed.name d) (λ listed. (d : Node InterfaceType) × IsInterface b listed.name d)
        (λ listed is. let e = interface_too a b schemas listed.name is.0 is.1 in (e.0, e.1)) interfaces h.defined;
    transitive = λ listed e is.
        let d = listed_before listed e is in
        subst (All (λ further. IsListed further.name interfaces)) (sym d.2.implements_interfaces) (h.transitive listed d.0 d.1);
    has_fields = λ listed e is.
        let d = listed_before listed e is in
        zip_all SameFieldEntry (λ entry. IsSome (field_under entry.1.node.value.value.name xs)) (λ entry. IsSome (field_under entry.1.node.value.value.name ys))
        (λ x y p has. subst (λ n. IsSome (field_under n ys)) p.1.1.name (sym (some_alike (SameComponent SameField) _ _ (field_under_alike x.1.node.value.value.name xs ys fields)) ∙ has))
        d.0.value.value.fields.entries e.value.value.fields.entries
        (zip_back SameFieldEntry SameFieldEntry field_entry_back _ _ d.2.fields) (h.has_fields listed d.0 d.1);
    field_types = λ listed name wanted own is.
        let f = field_before listed name wanted own is in
        valid_type_too a b schemas _ _ _ _ f.same_first.ty f.same_second.ty (h.field_types listed f.key f.first f.second f.implements);
    field_arguments = λ listed name wanted own is.
        let f = field_before listed name wanted own is in
        arguments_implement_too _ _ _ _ f.same_first.arguments f.same_second.arguments (h.field_arguments listed f.key f.first f.second f.implements);
  }
