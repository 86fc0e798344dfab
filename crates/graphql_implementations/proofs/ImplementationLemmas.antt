-- How the rules of implementing compose, interface by interface and field by field.
use Rattle.std.proofs.Common.{◌≡◌, ◌↔◌, ℕ, ◌<◌, Bor, get_or, length, Bool, true, false, cond, List, [], ◌∷◌, ◌++◌, refl, sym, ap, ◌∙◌, subst, All, Contains}
use Rattle.std.specs.Prelude.{Option, Some, None, find, is_some}
use Rattle.std.specs.Map.{lookup}
use Rattle.std.specs.Option.{option_and_then, option_copied, option_map}
use Rattle.std.proofs.lemmas.List.{append-nil}
use Rattle.std.proofs.lemmas.List.Elements.{All-contains}
use Rattle.std.proofs.lemmas.Option.{same_Some}
use Rattle.graphql_specification.specs.Implementations.{FieldList, FieldArgumentsImplement, FieldTypesImplement, HasInterfaceFields, ImplementsField, IsListedInterface, ListsTransitiveInterfaces, field_under}
use Rattle.graphql_nodes.specs.Names.{NameText, same_name}
use Rattle.graphql_diagnostics.specs.Reports.{Reports}
use Rattle.graphql_documents.specs.Schemas.{IsInterface, IsListed, as_interface, interface_named, type_definition}
use Rattle.graphql_documents.specs.declared.documents.components.Component.{Component}
use Rattle.graphql_documents.specs.declared.documents.components.ComponentName.{ComponentName}
use Rattle.graphql_documents.specs.declared.documents.definitions.FieldDefinition.{FieldDefinition}
use Rattle.graphql_nodes.specs.declared.nodes.Node.{Node}
use Rattle.graphql_documents.specs.declared.documents.schemas.ExtendedType.{ExtendedType}
use Rattle.graphql_documents.specs.declared.documents.schemas.ExtendedType.TheVariants.{Scalar, Object, Interface, Union, Enum, InputObject}
use Rattle.graphql_documents.specs.declared.documents.schemas.InterfaceType.{InterfaceType}
use Rattle.graphql_documents.specs.declared.documents.schemas.Schema.{Schema}
use Rattle.graphql_documents.proofs.ImplementerLemmas.{same_swapped}
use Rattle.graphql_documents.proofs.ListLemmas.{each_standing, stands_next}
use Rattle.graphql_diagnostics.proofs.ReportLemmas.{in_words}
use Rattle.graphql_implementations.specs.ImplementationSteps.{FieldArgumentsAgree, FieldEntry, HasFieldOf, IsInterfaceField, IsNoExtra, IsArgumentImplemented, ListsAllOf, NamesInterface, OfEachField, OfInterface, OfOwnField, TypeImplements, arguments_of}

-- a map of fields finds the one under the name
pub found_under : (fields : FieldList) (name : NameText) → lookup (same_name name) fields ≡ field_under name fields
found_under [] name = refl
found_under (e ∷ es) name = rw (same_swapped name e.0) (by (same_name e.0 name) (found_under es name)) where
  by : (b : Bool) → lookup (same_name name) es ≡ field_under name es →
      cond b (Some e.1) (lookup (same_name name) es) ≡
      option_map (λ (entry : FieldEntry). entry.1) (cond b (Some e) (find (λ (entry : FieldEntry). same_name entry.0 name) es))
  by true behind = refl
  by false behind = behind

-- an option that is not there
pub is_missing : {X : Type 0} (o : Option X) → is_some o ≡ false → o ≡ None
is_missing None e = refl
is_missing (Some x) e = absurd (let no : ⊥ = cc in no)

-- an element of a slice is in the list that this is
pub stands_at : {X : Type 0} (xs ys : List X) (i : ℕ) (x : X) → xs ≡ ys → i < length xs → x ≡ get_or xs i x → Contains ys x
stands_at xs ys i x same within item = subst (λ l. Contains l x) same (i, within, sym item)

-- an interface that is found by its name
pub interface_is : (schema : Schema) (name : NameText) (d : Node InterfaceType) → interface_named schema name ≡ Some d → IsInterface schema name d
interface_is schema name d found = by (type_definition schema name) found where
  by : (o : Option ExtendedType) → option_and_then as_interface o ≡ Some d → o ≡ Some (Interface d)
  by None e = absurd (let no : ⊥ = cc in no)
  by (Some (Scalar x)) e = absurd (let no : ⊥ = cc in no)
  by (Some (Object x)) e = absurd (let no : ⊥ = cc in no)
  by (Some (Interface x)) e = ap (λ y. Some (Interface y)) (same_Some x d e)
  by (Some (Union x)) e = absurd (let no : ⊥ = cc in no)
  by (Some (Enum x)) e = absurd (let no : ⊥ = cc in no)
  by (Some (InputObject x)) e = absurd (let no : ⊥ = cc in no)

pub interface_found : (schema : Schema) (name : NameText) (d : Node InterfaceType) → IsInterface schema name d → interface_named schema name ≡ Some d
interface_found schema name d is = ap (option_and_then as_interface) is

pub no_interface : (schema : Schema) (name : NameText) → interface_named schema name ≡ None → (d : Node InterfaceType) → ¬ IsInterface schema name d
no_interface schema name none d is = let found = interface_found schema name d is in cc

pub interface_named_is : (schema : Schema) (name : NameText) (o : Option (Bor (Node InterfaceType))) → option_copied o ≡ interface_named schema name →
    is_some o ≡ true → NamesInterface schema name
interface_named_is schema name None found e = absurd (let no : ⊥ = cc in no)
interface_named_is schema name (Some d) found e = (d.now, interface_is schema name d.now (sym found))

pub interface_not_named : (schema : Schema) (name : NameText) (o : Option (Bor (Node InterfaceType))) → option_copied o ≡ interface_named schema name →
    is_some o ≡ false → interface_named schema name ≡ None
interface_not_named schema name None found e = sym found
interface_not_named schema name (Some d) found e = absurd (let no : ⊥ = cc in no)

-- what holds of the interface that was found, and where there is none
pub of_found : (schema : Schema) (name : NameText) (d : Node InterfaceType) (Holds : Node InterfaceType → Type 0) → interface_named schema name ≡ Some d →
    Holds d ↔ OfInterface schema name Holds
of_found schema name d Holds found = (
  λ holds other is. subst Holds (same_Some d other (sym found ∙ interface_found schema name other is)) holds,
  λ all. all d (interface_is schema name d found),
)

pub of_none : (schema : Schema) (name : NameText) (Holds : Node InterfaceType → Type 0) → interface_named schema name ≡ None → OfInterface schema name Holds
of_none schema name Holds none d is = absurd (no_interface schema name none d is)

-- the same of the field that was found
pub of_own : (fields : FieldList) (entry : FieldEntry) (own : Component FieldDefinition) (Holds : Component FieldDefinition → Component FieldDefinition → Type 0) →
    field_under entry.0 fields ≡ Some own → Holds entry.1 own ↔ OfOwnField fields Holds entry
of_own fields entry own Holds found = (
  λ holds other is. subst (Holds entry.1) (same_Some own other (sym found ∙ is)) holds,
  λ all. all own found,
)

pub of_no_own : (fields : FieldList) (entry : FieldEntry) (Holds : Component FieldDefinition → Component FieldDefinition → Type 0) →
    field_under entry.0 fields ≡ None → OfOwnField fields Holds entry
of_no_own fields entry Holds none own is = absurd (let no : ⊥ = cc in no)

module _ (schema : Schema) (interfaces : List ComponentName) where
  -- what holds of each listed interface
  pub each_listed : (Holds : ComponentName → Node InterfaceType → Type 0) →
      All (λ listed. OfInterface schema listed.name (Holds listed)) interfaces ↔
      ((listed : ComponentName) (d : Node InterfaceType) → IsListedInterface schema interfaces listed d → Holds listed d)
  each_listed Holds = (
    λ all listed d is.
        All-contains (λ (c : ComponentName). OfInterface schema c.name (Holds c)) interfaces listed all is.is_listed d is.is_interface,
    λ h. each_standing (λ (c : ComponentName). OfInterface schema c.name (Holds c)) interfaces
        (λ listed in' d is. h listed d (record { is_listed = in'; is_interface = is })),
  )

  pub transitive_decides : All (ListsAllOf schema interfaces) interfaces ↔ ListsTransitiveInterfaces schema interfaces
  transitive_decides =
      each_listed (λ listed d. All (λ further. IsListed further.name interfaces) d.value.value.implements_interfaces.keys)

  module _ (fields : FieldList) where
    pub has_fields_decides : All (λ listed. OfEachField schema listed.name (λ entry. HasFieldOf fields entry.1)) interfaces ↔
        HasInterfaceFields schema fields interfaces
    has_fields_decides = each_listed (λ listed d. All (λ entry. HasFieldOf fields entry.1) d.value.value.fields.entries)

    -- what holds of each field that a type has to implement and has
    pub own_decides : (Holds : Component FieldDefinition → Component FieldDefinition → Type 0) →
        All (λ listed. OfEachField schema listed.name (OfOwnField fields Holds)) interfaces ↔
        ((listed : ComponentName) (name : NameText) (wanted own : Component FieldDefinition) →
        ImplementsField schema fields interfaces listed name wanted own → Holds wanted own)
    own_decides Holds =
        let rule = each_listed (λ listed d. All (OfOwnField fields Holds) d.value.value.fields.entries) in (
          λ all listed name wanted own i.
              All-contains (OfOwnField fields Holds) i.interface.value.value.fields.entries (name, wanted)
              (rule.0 all listed i.interface i.is_listed) i.stands own i.implemented,
          λ h. rule.1 (λ listed d is. each_standing (OfOwnField fields Holds) d.value.value.fields.entries
              (λ entry in' own e. h listed entry.0 entry.1 own (record { interface = d; is_listed = is; stands = in'; implemented = e }))),
        )

    pub types_decide : All (λ listed. OfEachField schema listed.name (OfOwnField fields (TypeImplements schema))) interfaces ↔
        FieldTypesImplement schema fields interfaces
    types_decide = own_decides (TypeImplements schema)

    pub arguments_decide : All (λ listed. OfEachField schema listed.name (OfOwnField fields FieldArgumentsAgree)) interfaces ↔
        FieldArgumentsImplement schema fields interfaces
    arguments_decide = own_decides FieldArgumentsAgree

-- the fields of an interface that was found, one after another
module _ (schema : Schema) (listed : ComponentName) (d : Node InterfaceType) (found : interface_named schema listed.name ≡ Some d)
    (all : List FieldEntry) (whole : d.value.value.fields.entries ≡ all) (done left : List FieldEntry) (split : all ≡ done ++ left) where
  pub next_field : (interfaces : List ComponentName) (rest : List FieldEntry) (entry : FieldEntry) → Contains interfaces listed → left ≡ entry ∷ rest →
      IsInterfaceField schema interfaces listed entry
  next_field interfaces rest entry in' next = record {
    interface = d;
    is_listed = record { is_listed = in'; is_interface = interface_is schema listed.name d found };
    stands = subst (λ l. Contains l entry) (sym whole) (stands_next all done left rest entry split next);
  }

  pub all_fields : {Entry : Type 0} (Holds : FieldEntry → Type 0) (Q : Entry → Type 0) (old new : List Entry) → left ≡ [] →
      Reports (All Holds done) Q old new → Reports (OfEachField schema listed.name Holds) Q old new
  all_fields Holds Q old new none r =
      in_words (of_found schema listed.name d (λ (i : Node InterfaceType). All Holds i.value.value.fields.entries) found)
      (subst (λ l. Reports (All Holds l) Q old new) (sym (whole ∙ split ∙ ap (λ l. done ++ l) none ∙ append-nil done)) r)

-- the arguments of two fields, those of an interface's first
pub arguments_agree : (wanted own : Component FieldDefinition) →
    (All (IsArgumentImplemented (arguments_of own)) (arguments_of wanted) × All (IsNoExtra (arguments_of wanted)) (arguments_of own)) ↔ FieldArgumentsAgree wanted own
arguments_agree wanted own = (λ p. record { provided = p.0; no_extra = p.1 }, λ agree. (agree.provided, agree.no_extra))
