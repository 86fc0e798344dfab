-- An argument or an input field that takes what it took was required if it is required.
use Rattle.std.proofs.Common.{◌≡◌, ◌∙◌, ◌&&◌, Bool, true, false, List, ℕ, Option, Some, None, find, ap, refl, subst, All}
use Rattle.std.specs.Prelude.{Any, IsSome, IsSomeAnd, IsTrue, is_none}
use Rattle.std.specs.Str.{bytes_eq}
use Rattle.indexmap.specs.IndexMap.{get, get_by}
use Rattle.graphql_nodes.specs.Names.{NameText, SameName, same_name}
use Rattle.graphql_nodes.proofs.NameLemmas.{same_name_back, same_text}
use Rattle.graphql_nodes.specs.declared.nodes.Node.{Node}
use Rattle.graphql_documents.specs.Definitions.{definition_named}
use Rattle.graphql_documents.specs.Schemas.{is_required}
use Rattle.graphql_documents.specs.TypeReferences.{is_assignable, is_non_null}
use Rattle.graphql_documents.specs.declared.documents.components.Component.{Component}
use Rattle.graphql_documents.specs.declared.documents.definitions.InputValueDefinition.{InputValueDefinition}
use Rattle.graphql_documents.specs.declared.documents.schemas.InputObjectType.{InputObjectType}
use Rattle.graphql_documents.specs.declared.documents.type_references.Type.{«Type»}
use Rattle.graphql_documents.specs.declared.documents.type_references.Type.TheVariants.{Named, NonNullNamed, List', NonNullList'}
use Rattle.graphql_schema_changes.specs.Keeps.{KeepsInputValue}
use Rattle.graphql_input_comparison.specs.Inputs.{InputField, KeepsArgument, KeepsInputField}
use Rattle.graphql_change_kinds.proofs.FindsLemmas.{found_all, found_any, looked_up, looked_up_any}

parts_of : (p q : Bool) → (p && q) ≡ true → (p ≡ true) × (q ≡ true)
parts_of true q e = (refl, e)
parts_of false q e = absurd (let no : ⊥ = cc in no)

both_of : (p q : Bool) → p ≡ true → q ≡ true → (p && q) ≡ true
both_of true q e h = h
both_of false q e h = e

non_null_before : (a b : «Type») → is_assignable a b ≡ true → is_non_null b ≡ true → is_non_null a ≡ true
non_null_before (NonNullNamed a) b e h = refl
non_null_before (NonNullList' place a) b e h = refl
non_null_before (Named a) (Named b) e h = absurd (let no : ⊥ = cc in no)
non_null_before (List' place a) (List' other b) e h = absurd (let no : ⊥ = cc in no)
non_null_before _ _ e h = absurd (let no : ⊥ = cc in no)

none_before : {X : Type 0} (o p : Option X) → (IsSome o → IsSome p) → is_none p ≡ true → is_none o ≡ true
none_before None p w e = refl
none_before (Some x) None w e = absurd (let yes : false ≡ true = w refl in let no : ⊥ = cc in no)
none_before (Some x) (Some y) w e = absurd (let no : ⊥ = cc in no)

pub stays_required : (a b : InputValueDefinition) → KeepsInputValue a b → IsTrue (is_required b) → IsTrue (is_required a)
stays_required a b keeps required =
    let parts = parts_of (is_non_null b.ty.value.value) (is_none b.default_value) required in
    both_of (is_non_null a.ty.value.value) (is_none a.default_value) (non_null_before a.ty.value.value b.ty.value.value keeps.ty parts.0)
    (none_before a.default_value b.default_value (keeps.default_value parts.0) parts.1)

-- ==== arguments

module _ (name : NameText) where
  abbrev pub has_name : Node InputValueDefinition → Bool
  has_name x = same_name x.value.value.name name

  one_definition : (other : NameText) (l : List (Node InputValueDefinition)) → SameName other name → definition_named other l ≡ definition_named name l
  one_definition other l same = ap (λ (text : List ℕ). find (λ (d : Node InputValueDefinition). bytes_eq d.value.value.name.text text) l) (same_text other name same)

  abbrev Before : List (Node InputValueDefinition) → Type 0
  Before old = Any (λ (a : Node InputValueDefinition). SameName a.value.value.name name × IsTrue (is_required a.value.value)) old

  pub required_here : (old : List (Node InputValueDefinition)) (a : Node InputValueDefinition) → find has_name old ≡ Some a → IsTrue (is_required a.value.value) → Before old
  required_here old a found required =
      found_any has_name (λ (a : Node InputValueDefinition). SameName a.value.value.name name × IsTrue (is_required a.value.value)) old a found (λ same. (same, required))

  pub required_before : (old new : List (Node InputValueDefinition)) (a b : Node InputValueDefinition) → find has_name old ≡ Some a → find has_name new ≡ Some b →
      IsTrue (is_required b.value.value) → All (KeepsArgument new) old → Before old
  required_before old new a b found there required all =
      let here = found_all has_name (KeepsArgument new) old a found all in
      let kept : KeepsInputValue a.value.value b.value.value =
      subst (λ (o : Option (Node InputValueDefinition)). IsSomeAnd o (λ (b : Node InputValueDefinition). KeepsInputValue a.value.value b.value.value))
      (one_definition a.value.value.name new here.0 ∙ there) here.1 in
      required_here old a found (stays_required a.value.value b.value.value kept required)

-- ==== input fields

module _ (old new : InputObjectType) (name : NameText) where
  abbrev FieldBefore : Type 0
  FieldBefore = Any (λ (a : InputField). SameName a.0 name × IsTrue (is_required a.1.node.value.value)) old.fields.entries

  pub field_required_here : (a : Component InputValueDefinition) → get same_name old.fields name ≡ Some a → IsTrue (is_required a.node.value.value) → FieldBefore
  field_required_here a found required =
      looked_up_any (same_name name) (λ (a : InputField). SameName a.0 name × IsTrue (is_required a.1.node.value.value)) old.fields.entries a found
      (λ key same. (same_name_back name key same, required))

  pub field_required_before : (a b : Component InputValueDefinition) → get same_name old.fields name ≡ Some a → get same_name new.fields name ≡ Some b →
      IsTrue (is_required b.node.value.value) → All (KeepsInputField new) old.fields.entries → FieldBefore
  field_required_before a b found there required all =
      let here = looked_up (same_name name) (KeepsInputField new) old.fields.entries a found all in
      let at : get same_name new.fields here.0 ≡ Some b =
      ap (λ (text : List ℕ). get_by (λ (key : NameText). bytes_eq text key.text) new.fields) (same_text here.0 name (same_name_back name here.0 here.1)) ∙ there in
      let kept : KeepsInputValue a.node.value.value b.node.value.value =
      subst (λ (o : Option (Component InputValueDefinition)). IsSomeAnd o (λ (b : Component InputValueDefinition). KeepsInputValue a.node.value.value b.node.value.value)) at here.2 in
      field_required_here a found (stays_required a.node.value.value b.node.value.value kept required)
