-- Usages of variables against a schema that keeps what an older one had, each with one that it was before. Specification: 5.8.5 All Variable Usages
-- Are Allowed.
use Rattle.std.proofs.Common.{◌≡◌, ◌∙◌, List, Option, None, Some, refl, sym, ap, subst}
use Rattle.std.specs.Prelude.{All, Contains}
use Rattle.std.specs.Map.{lookup}
use Rattle.std.specs.Option.{option_and_then}
use Rattle.std.proofs.lemmas.List.Elements.{All-contains}
use Rattle.indexmap.specs.IndexMap.{get}
use Rattle.graphql_nodes.specs.Names.{AreDistinct, NameText, SameName, same_name}
use Rattle.graphql_nodes.proofs.NameLemmas.{same_name_back}
use Rattle.graphql_nodes.specs.declared.nodes.Node.{Node}
use Rattle.graphql_documents.specs.Definitions.{definition_named}
use Rattle.graphql_documents.specs.Schemas.{IsInputObject, as_input_object, input_object_named, type_definition}
use Rattle.graphql_documents.specs.TypeReferences.{inner_named_type}
use Rattle.graphql_documents.specs.declared.documents.components.Component.{Component}
use Rattle.graphql_documents.specs.declared.documents.definitions.InputValueDefinition.{InputValueDefinition}
use Rattle.graphql_documents.specs.declared.documents.definitions.VariableDefinition.{VariableDefinition}
use Rattle.graphql_documents.specs.declared.documents.directives.Argument.{Argument}
use Rattle.graphql_documents.specs.declared.documents.schemas.ExtendedType.{ExtendedType}
use Rattle.graphql_documents.specs.declared.documents.schemas.ExtendedType.TheVariants.{Scalar, Object, Interface, Union, Enum, InputObject}
use Rattle.graphql_documents.specs.declared.documents.schemas.InputObjectType.{InputObjectType}
use Rattle.graphql_documents.specs.declared.documents.schemas.Schema.{Schema}
use Rattle.graphql_documents.specs.declared.documents.values.Value.{Value}
use Rattle.graphql_documents.specs.declared.documents.values.Value.TheVariants as literal
use Rattle.graphql_input_rules.specs.InputFields.{FieldsAreUnique, entry_names}
use Rattle.graphql_input_rules.specs.ValuesWritten.{InArguments, ValueWritten, value_in_entry, value_in_item, value_itself}
use Rattle.graphql_specification.specs.Arguments.{ArgumentValuesHold, IsDefined, ValueHoldsBy}
use Rattle.graphql_specification.specs.Values.{Accepts, IsInputField}
use Rattle.graphql_document_building.specs.SameDocuments.{SameUnderName}
use Rattle.graphql_document_building.specs.SameLeaves.{SameArgument, SameArguments, SameValue}
use Rattle.graphql_schema_changes.specs.Keeps.{AnyInput, KeepsArguments, KeepsInputFields, KeepsInputValue, KeepsValues, keeps_input_fields, to_custom_scalar}
use Rattle.graphql_sameness_laws.proofs.LeafLemmas.{argument_back}
use Rattle.graphql_sameness_laws.proofs.ValueLemmas.{list_too, object_too, value_back, variable_too}
use Rattle.graphql_sameness_laws.proofs.ZipLemmas.{zip_back, zip_contains}
use Rattle.graphql_usage_rules.specs.Usages.{Location, Usage, UsedIn, UsedInArguments, input_field_at, item_location, location_of, used_in_entry, used_in_item, used_itself}
use Rattle.graphql_kept_rules.proofs.AcceptedPartLemmas.{entries_accepted, item_accepted}
use Rattle.graphql_kept_rules.proofs.AssignableLemmas.{assignable_items, both_lists, one_inner_name}
use Rattle.graphql_kept_rules.proofs.FoundLemmas.{entry_in, one_lookup, one_some, some_found}
use Rattle.graphql_kept_rules.proofs.KeptArgumentLemmas.{still_defined}
use Rattle.graphql_kept_rules.proofs.KeptValueLemmas.{field_kept, inner_of_item}
use Rattle.graphql_kept_rules.proofs.LocationLemmas.{KeepsLocation}
use Rattle.graphql_kept_rules.proofs.NameLemmas.{one_type}
use Rattle.graphql_kept_rules.proofs.NamedEntryLemmas.{named_among}
use Rattle.graphql_kept_rules.proofs.SchemasKeptLemmas.{SchemasKept}

-- an input object was one, and had fields that are kept
object_before : (a : ExtendedType) (e : Node InputObjectType) → KeepsValues a (InputObject e) →
    (d : Node InputObjectType) × (a ≡ InputObject d) × KeepsInputFields d.value.value e.value.value
object_before a e (to_custom_scalar input custom) = absurd (let no : ⊥ = cc in no)
object_before (InputObject d) e (keeps_input_fields keeps) = (d, refl, keeps)

then_found : {X Y : Type 0} (f : X → Option Y) (o : Option X) (y : Y) → option_and_then f o ≡ Some y → (x : X) × (o ≡ Some x) × (f x ≡ Some y)
then_found f None y e = absurd (let no : ⊥ = cc in no)
then_found f (Some x) y e = (x, refl, e)

is_input_object : (t : ExtendedType) (e : Node InputObjectType) → as_input_object t ≡ Some e → t ≡ InputObject e
is_input_object (InputObject d) e is = let same : d ≡ e = cc in ap InputObject same
is_input_object (Scalar d) e is = absurd (let no : ⊥ = cc in no)
is_input_object (Object d) e is = absurd (let no : ⊥ = cc in no)
is_input_object (Interface d) e is = absurd (let no : ⊥ = cc in no)
is_input_object (Union d) e is = absurd (let no : ⊥ = cc in no)
is_input_object (Enum d) e is = absurd (let no : ⊥ = cc in no)

-- a usage before, and what its place kept
pub record KeptUsage (u v : Usage) : Type 0 where
  pub name : u.name ≡ v.name
  pub location : KeepsLocation u.location v.location

pub definition_kept : (d e : Node InputValueDefinition) → KeepsInputValue d.value.value e.value.value → KeepsLocation (location_of d.value.value) (location_of e.value.value)
definition_kept d e keeps = record { ty = keeps.ty; has_default = keeps.default_value }

module _ (old new : Schema) (k : SchemasKept old new) (variables : List (Node VariableDefinition)) where
  -- the object value's type, and a field that it names
  record KeptFieldAt (spot : Location) (name : NameText) (field : Component InputValueDefinition) : Type 0 where
    d : Node InputObjectType
    is_object : IsInputObject old (inner_named_type spot.ty) d
    kept : (key : NameText) (c : Component InputValueDefinition) → SameName name key → Contains d.value.value.fields.entries (key, c) →
        KeepsInputValue c.node.value.value field.node.value.value

  kept_field_at : (spot location : Location) (name : NameText) (field : Component InputValueDefinition) → KeepsLocation spot location → AnyInput old (inner_named_type spot.ty) →
      input_field_at new location.ty name ≡ Some field → KeptFieldAt spot name field
  kept_field_at spot location name field keeps input found =
      let e = then_found (λ (d : Node InputObjectType). get same_name d.value.value.fields name) (input_object_named new (inner_named_type location.ty)) field found in
      let t = then_found as_input_object (type_definition new (inner_named_type location.ty)) e.0 e.1 in
      let i = k.keeps.inputs (inner_named_type spot.ty) input in
      let is : type_definition new (inner_named_type spot.ty) ≡ Some (InputObject e.0) =
      one_type new (inner_named_type spot.ty) (inner_named_type location.ty) (one_inner_name spot.ty location.ty keeps.ty) ∙ t.1 ∙ ap Some (is_input_object t.0 e.0 t.2) in
      let after : i.after ≡ InputObject e.0 = one_some (type_definition new (inner_named_type spot.ty)) i.after (InputObject e.0) i.is_defined is in
      let d = object_before i.before e.0 (subst (KeepsValues i.before) after i.values) in
      record {
        d = d.0;
        is_object = i.was_defined ∙ ap Some d.1;
        kept = λ key c same stands.
            let b = field_kept d.0 e.0 d.2 (key, c) stands in
            let one : b.0 ≡ field = one_some (get same_name e.0.value.value.fields key) b.0 field b.1 (one_lookup e.0.value.value.fields.entries key name (same_name_back name key same) ∙ e.2) in
            subst (λ (x : Component InputValueDefinition). KeepsInputValue c.node.value.value x.node.value.value) one b.2;
      }

  pub used_before : {location : Location} {value : Node Value} {usage : Usage} → UsedIn new location value usage → (spot : Location) (w : Node Value) →
      KeepsLocation spot location → SameValue w value → Accepts old variables spot.ty w.value.value → AnyInput old (inner_named_type spot.ty) →
      FieldsAreUnique (ValueWritten w.value.value) → (other : Usage) × UsedIn old spot w other × KeptUsage other usage
  used_before (used_itself {location = location} {value = value} name is) spot w keeps same accepted input distinct = (
    record { name = name; place = w.location; location = spot },
    used_itself name (variable_too value.value.value w.value.value name (value_back w value same).contents is),
    record { name = refl; location = keeps },
  )
  used_before (used_in_item {location = location} {value = value} items item {usage} is lists c below) spot w keeps same accepted input distinct =
      let other = list_too value.value.value w.value.value items (value_back w value same).contents is in
      let x = zip_contains SameValue items.items other.0.items item other.1 c in
      let deep = used_before below (item_location spot) x.0 (record { ty = assignable_items spot.ty location.ty keeps.ty; has_default = λ _ h. h }) (value_back item x.0 x.2)
      (item_accepted old variables accepted other.0 other.2 input.0 input.1 x.0 x.1) (subst (AnyInput old) (sym (inner_of_item spot.ty)) input)
      (λ entries written. distinct entries (subst (λ v. ValueWritten v (literal.Object entries)) (sym other.2) (value_in_item other.0 x.0 x.1 written))) in
      (deep.0, used_in_item other.0 x.0 other.2 (both_lists spot.ty location.ty keeps.ty ∙ lists) x.1 deep.1, deep.2)
  used_before (used_in_entry {location = location} {value = value} entries entry field {usage} is c found below) spot w keeps same accepted input distinct =
      let other = object_too value.value.value w.value.value entries (value_back w value same).contents is in
      let x = zip_contains (SameUnderName SameValue) entries.items other.0.items entry other.1 c in
      let at = kept_field_at spot location entry.0 field keeps input found in
      let part = entries_accepted old variables accepted other.0 other.2 at.d at.is_object in
      let f = some_found (lookup (same_name x.0.0) at.d.value.value.fields.entries)
      (All-contains (λ entry. IsInputField at.d.value.value entry.0) other.0.items x.0 part.known x.1) in
      let here = entry_in (same_name x.0.0) at.d.value.value.fields.entries f.0 f.1 in
      let keeps_it = at.kept here.0 f.0 (subst (λ n. SameName n here.0) (sym x.2.0) here.2) here.1 in
      let own : AreDistinct (entry_names other.0.items) =
      distinct other.0 (subst (λ v. ValueWritten v (literal.Object other.0)) (sym other.2) value_itself) in
      let deep = used_before below (location_of f.0.node.value.value) x.0.1 (definition_kept f.0.node field.node keeps_it) (value_back entry.1 x.0.1 x.2.1)
      (part.each (here.0, f.0) x.0.1 here.1 (named_among here.0 other.0.items x.0 own x.1 here.2))
      (k.inputs.input_fields (inner_named_type spot.ty) at.d (here.0, f.0) at.is_object here.1)
      (λ es written. distinct es (subst (λ v. ValueWritten v (literal.Object es)) (sym other.2) (value_in_entry other.0 x.0 x.1 written))) in
      (deep.0, used_in_entry other.0 x.0 f.0 other.2 x.1 (field_at spot at.d at.is_object x.0.0 f.0 f.1) deep.1, deep.2)
    where
      field_at : (spot : Location) (d : Node InputObjectType) → IsInputObject old (inner_named_type spot.ty) d → (name : NameText) (c : Component InputValueDefinition) →
          get same_name d.value.value.fields name ≡ Some c → input_field_at old spot.ty name ≡ Some c
      field_at spot d is name c found =
          ap (λ o. option_and_then (λ (d : Node InputObjectType). get same_name d.value.value.fields name) (option_and_then as_input_object o)) is ∙ found

  -- ==== arguments

  module _ (ds es : List (Node InputValueDefinition)) (keeps : KeepsArguments ds es)
      (typed : (a : Node InputValueDefinition) → Contains ds a → AnyInput old (inner_named_type a.value.value.ty.value.value))
      (xs ys : List (Node Argument)) (same : SameArguments xs ys) where
    pub used_in_arguments_before : (usage : Usage) → All (IsDefined ds) xs → ArgumentValuesHold old variables ds xs → FieldsAreUnique (InArguments xs) →
        UsedInArguments new es ys usage → (other : Usage) × UsedInArguments old ds xs other × KeptUsage other usage
    used_in_arguments_before usage defined holds distinct (i, y, within, at, (e, named, used)) =
        let x = zip_contains SameArgument ys xs y (zip_back SameArgument SameArgument argument_back xs ys same) (i, within, at) in
        let here = still_defined ds es keeps x.0.value.value.name (All-contains (IsDefined ds) xs x.0 defined x.1) in
        let one : here.e ≡ e = one_some (definition_named x.0.value.value.name es) here.e e here.is (subst (λ n. definition_named n es ≡ Some e) x.2.name named) in
        let before = All-contains (ValueHoldsBy old variables ds) xs x.0 holds x.1 here.d here.was in
        let found = used_before used (location_of here.d.value.value) x.0.value.value.value
        (definition_kept here.d e (subst (λ (z : Node InputValueDefinition). KeepsInputValue here.d.value.value z.value.value) one here.kept))
        (value_back y.value.value.value x.0.value.value.value x.2.value) before.accepted (typed here.d here.stands)
        (λ entries written. distinct entries (x.1.0, x.0, x.1.1, x.1.2, written)) in
        (found.0, (x.1.0, x.0, x.1.1, x.1.2, (here.d, here.was, found.1)), found.2)
