-- The steps of the walk over a value: its items, the fields of its input object, and their entries.
use Rattle.std.proofs.Common.{◌≡◌, List, Bool, true, false, ◌||◌, Some, None, Result, IsTrue, IsFalse, refl, sym, ap, ◌∙◌, subst, All, Contains}
use Rattle.std.proofs.lemmas.Option.{same_Some}
use Rattle.graphql_diagnostics.specs.Diagnostics.{IsDiagnostic}
use Rattle.graphql_specification.specs.Values.{Accepts, accepts_custom_object, IsInputField, is_custom_scalar, CannotStandFor, list_for_no_list, list_of_no_input, object_for_no_object, TakesLists, ValueReport, within_item, within_entry}
use Rattle.graphql_nodes.specs.Names.{NameText}
use Rattle.graphql_diagnostics.specs.Reports.{Reports}
use Rattle.graphql_documents.specs.Schemas.{as_input_object, IsInputObject, is_input_type, type_definition}
use Rattle.graphql_documents.specs.TypeReferences.{TypeReference, inner_named_type, is_list, item_reference, item_type, reference_of}
use Rattle.graphql_documents.specs.Values.{entry_named}
use Rattle.graphql_diagnostics.proofs.DiagnosticLemmas.{diagnostic_wider}
use Rattle.graphql_diagnostics.proofs.ReportLemmas.{ChecksList, checks_after, checks_words}
use Rattle.graphql_diagnostics.specs.declared.lists.DiagnosticEntry.{DiagnosticEntry}
use Rattle.graphql_documents.specs.declared.documents.components.Component.{Component}
use Rattle.graphql_documents.specs.declared.documents.definitions.InputValueDefinition.{InputValueDefinition}
use Rattle.graphql_documents.specs.declared.documents.definitions.VariableDefinition.{VariableDefinition}
use Rattle.graphql_nodes.specs.declared.nodes.Node.{Node}
use Rattle.graphql_documents.specs.declared.documents.schemas.ExtendedType.{ExtendedType}
use Rattle.graphql_documents.specs.declared.documents.schemas.ExtendedType.TheVariants as types
use Rattle.graphql_documents.specs.declared.documents.schemas.InputObjectType.{InputObjectType}
use Rattle.graphql_documents.specs.declared.documents.schemas.Schema.{Schema}
use Rattle.graphql_documents.specs.declared.documents.type_references.Type.{«Type»}
use Rattle.graphql_documents.specs.declared.documents.values.Value.{Value}
use Rattle.graphql_values.specs.ValueSteps.{AcceptsEntry, AcceptsField, AcceptsItem, EntryReport, HasEntries, HasItems, ItemReport, written_at}
use Rattle.graphql_values.proofs.AcceptsLemmas.{list_accepted, object_accepted}

-- a custom scalar is an input type
custom_is_input : (d : ExtendedType) → IsTrue (is_custom_scalar d) → IsTrue (is_input_type d)
custom_is_input (types.Scalar d) custom = refl
custom_is_input (types.Object d) custom = custom
custom_is_input (types.Interface d) custom = custom
custom_is_input (types.Union d) custom = custom
custom_is_input (types.Enum d) custom = refl
custom_is_input (types.InputObject d) custom = refl

-- a type that takes lists and is no input type is a list
list_type : (listed : Bool) (d : ExtendedType) → IsTrue (listed || is_custom_scalar d) → IsFalse (is_input_type d) → IsTrue listed
list_type true d takes none = refl
list_type false d takes none = absurd (let h : ⊥ = cc (custom_is_input d takes) in h)

-- what is no input object
no_input_object : (d : ExtendedType) → ((o : Node InputObjectType) → d ≡ types.InputObject o → ⊥) → as_input_object d ≡ None
no_input_object (types.Scalar d) other = refl
no_input_object (types.Object d) other = refl
no_input_object (types.Interface d) other = refl
no_input_object (types.Union d) other = refl
no_input_object (types.Enum d) other = refl
no_input_object (types.InputObject d) other = absurd (other d refl)

module _ {variables : List (Node VariableDefinition)} {ty : «Type»} {d : ExtendedType} {v : Value} where
  -- a list, and why it cannot stand for a type
  pub no_list_cannot : {given : List (Node Value)} → HasItems v given → IsFalse (is_list ty || is_custom_scalar d) → CannotStandFor variables ty d v ty
  no_list_cannot has none = subst (λ x. CannotStandFor variables ty d x ty) (sym has.is_list) (list_for_no_list has.items none)

  pub no_input_cannot : {given : List (Node Value)} → HasItems v given → IsTrue (is_list ty || is_custom_scalar d) → IsFalse (is_input_type d) →
      CannotStandFor variables ty d v (item_type ty)
  no_input_cannot has takes none =
      subst (λ x. CannotStandFor variables ty d x (item_type ty)) (sym has.is_list) (list_of_no_input has.items (list_type (is_list ty) d takes none) none)

  -- an object, and why it can or cannot
  pub no_object_cannot : {given : List (NameText × Node Value)} → HasEntries v given → IsFalse (is_custom_scalar d) →
      ((o : Node InputObjectType) → d ≡ types.InputObject o → ⊥) → CannotStandFor variables ty d v ty
  no_object_cannot has none other =
      subst (λ x. CannotStandFor variables ty d x ty) (sym has.is_object) (object_for_no_object has.entries none (no_input_object d other))

  pub custom_object_accepted : {schema : Schema} {given : List (NameText × Node Value)} → type_definition schema (inner_named_type ty) ≡ Some d →
      HasEntries v given → IsTrue (is_custom_scalar d) → Accepts schema variables ty v
  custom_object_accepted {schema} is has custom = subst (Accepts schema variables ty) (sym has.is_object) (accepts_custom_object has.entries is custom)

module _ (schema : Schema) (variables : List (Node VariableDefinition)) (ty : TypeReference) where
  -- a diagnostic on an item of a list
  pub names_item : (items : List (Node Value)) (item : Node Value) → Contains items item →
      (e : DiagnosticEntry) → IsDiagnostic (ValueReport schema variables ty item) e → IsDiagnostic (ItemReport schema variables ty items) e
  names_item items item among = diagnostic_wider (ValueReport schema variables ty item) (ItemReport schema variables ty items)
      (λ r at says. record { item = item; stands = among; says = says })

  -- a list whose items were checked
  pub list_checked : {T E : Type 0} (r : Result T E) {d : ExtendedType} (value : Node Value) {given : List (Node Value)} (inner : «Type») (old new : List DiagnosticEntry) →
      type_definition schema (inner_named_type ty.ty) ≡ Some d → TakesLists ty.ty d → HasItems value.value.value given → inner ≡ item_type ty.ty →
      ChecksList r (All (AcceptsItem schema variables inner) given) (IsDiagnostic (ItemReport schema variables (written_at inner ty.location) given)) old new →
      ChecksList r (Accepts schema variables ty.ty value.value.value) (IsDiagnostic (ValueReport schema variables ty value)) old new
  list_checked r {d} value {given} inner old new is takes has inner_is c =
      let items = has.items in
      let e = has.is_list in
      let P = λ (t : «Type») (l : List (Node Value)). All (AcceptsItem schema variables t) l in
      let Q = λ (t : «Type») (l : List (Node Value)) (entry : DiagnosticEntry). IsDiagnostic (ItemReport schema variables (written_at t ty.location) l) entry in
      let listed : ChecksList r (P inner items.items) (Q inner items.items) old new = subst (λ l. ChecksList r (P inner l) (Q inner l) old new) has.given_is c in
      let here : ChecksList r (P (item_type ty.ty) items.items) (Q (item_type ty.ty) items.items) old new =
      subst (λ t. ChecksList r (P t items.items) (Q t items.items) old new) inner_is listed in
      let accepted = list_accepted schema variables ty.ty d is items takes in
      checks_words r (P (item_type ty.ty) items.items) (Accepts schema variables ty.ty value.value.value) (Q (item_type ty.ty) items.items)
      (IsDiagnostic (ValueReport schema variables ty value)) old new
      (λ all. subst (Accepts schema variables ty.ty) (sym e) (accepted.0 all), λ h. accepted.1 (subst (Accepts schema variables ty.ty) e h))
      (diagnostic_wider (ItemReport schema variables (item_reference ty) items.items) (ValueReport schema variables ty value)
      (λ report at names. record {
        inner_ty = names.says.inner_ty;
        inner = names.says.inner;
        lies = within_item items is takes e names.stands names.says.lies;
        broken = names.says.broken;
      }))
      here

  module _ (o : Node InputObjectType) (value : Node Value) (given : List (NameText × Node Value))
      (is : IsInputObject schema (inner_named_type ty.ty) o) (has : HasEntries value.value.value given) where
    -- a diagnostic on the first entry under the name of a field
    pub names_entry : (field : NameText × Component InputValueDefinition) → Contains o.value.value.fields.entries field →
        (entry : DiagnosticEntry) → IsDiagnostic (EntryReport schema variables given field) entry → IsDiagnostic (ValueReport schema variables ty value) entry
    names_entry field among = diagnostic_wider (EntryReport schema variables given field) (ValueReport schema variables ty value)
        (λ report at names. record {
          inner_ty = names.says.inner_ty;
          inner = names.says.inner;
          lies = within_entry has.entries field is has.is_object among
              (ap (entry_named field.0) (sym has.given_is) ∙ names.is_first) names.says.lies;
          broken = names.says.broken;
        })

    -- an object whose entries and fields were checked
    pub object_checked : {T E : Type 0} (r : Result T E) (old mid new : List DiagnosticEntry) →
        Reports (All (λ entry. IsInputField o.value.value entry.0) given) (IsDiagnostic (ValueReport schema variables ty value)) old mid →
        ChecksList r (All (AcceptsField schema variables given) o.value.value.fields.entries) (IsDiagnostic (ValueReport schema variables ty value)) mid new →
        ChecksList r (Accepts schema variables ty.ty value.value.value) (IsDiagnostic (ValueReport schema variables ty value)) old new
    object_checked r old mid new known fields =
        let Q = IsDiagnostic (ValueReport schema variables ty value) in
        let K = λ (l : List (NameText × Node Value)). All (λ (entry : NameText × Node Value). IsInputField o.value.value entry.0) l in
        let F = λ (l : List (NameText × Node Value)). All (AcceptsField schema variables l) o.value.value.fields.entries in
        let accepted = object_accepted schema variables ty.ty o has.entries is in
        let there : K given × F given → Accepts schema variables ty.ty value.value.value =
        λ all. subst (Accepts schema variables ty.ty) (sym has.is_object) (accepted.0 (subst (λ l. K l × F l) has.given_is all)) in
        let back : Accepts schema variables ty.ty value.value.value → K given × F given =
        λ h. subst (λ l. K l × F l) (sym has.given_is) (accepted.1 (subst (Accepts schema variables ty.ty) has.is_object h)) in
        checks_words r (K given × F given) (Accepts schema variables ty.ty value.value.value) Q Q old new (there, back) (λ entry q. q)
        (checks_after r (K given) (F given) Q old mid new known fields)

-- the first entry under the name of a field was checked
pub entry_checked : {T E : Type 0} (r : Result T E) (schema : Schema) (variables : List (Node VariableDefinition)) (entries : List (NameText × Node Value))
    (field : NameText × Component InputValueDefinition) (value : Node Value) (ty : TypeReference) (old mid new : List DiagnosticEntry) →
    entry_named field.0 entries ≡ Some value → ty ≡ reference_of field.1.node.value.value.ty → mid ≡ old →
    ChecksList r (Accepts schema variables ty.ty value.value.value) (IsDiagnostic (ValueReport schema variables ty value)) mid new →
    ChecksList r (AcceptsEntry schema variables entries field) (IsDiagnostic (EntryReport schema variables entries field)) old new
entry_checked r schema variables entries field value ty old mid new first ty_is same c =
    let Own : TypeReference = reference_of field.1.node.value.value.ty in
    let P = λ (t : TypeReference). Accepts schema variables t.ty value.value.value in
    let Q = λ (t : TypeReference) (entry : DiagnosticEntry). IsDiagnostic (ValueReport schema variables t value) entry in
    let typed : ChecksList r (P Own) (Q Own) mid new = subst (λ t. ChecksList r (P t) (Q t) mid new) ty_is c in
    let reachable_on : ChecksList r (P Own) (Q Own) old new = subst (λ l. ChecksList r (P Own) (Q Own) l new) same typed in
    checks_words r (P Own) (AcceptsEntry schema variables entries field) (Q Own) (IsDiagnostic (EntryReport schema variables entries field)) old new
    (λ h other found. subst (λ x. Accepts schema variables Own.ty x.value.value) (same_Some value other (sym first ∙ found)) h, λ h. h value first)
    (diagnostic_wider (ValueReport schema variables Own value) (EntryReport schema variables entries field)
    (λ report at says. record { value = value; is_first = first; says = says }))
    reachable_on
