-- What it takes that a value is accepted for a type that is defined, by the kind of the value.
use Rattle.std.proofs.Common.{◌≡◌, ◌↔◌, ◌⊎◌, inl, inr, List, Some, None, Vec, IsTrue, IsFalse, sym, ap, ◌∙◌, subst, All, Contains, true≢false}
use Rattle.std.specs.declared.alloc.Global.{Global}
use Rattle.std.proofs.lemmas.List.Elements.{All-weaker, All-contains, All-contains_itself}
use Rattle.std.proofs.lemmas.Option.{same_Some, none-some}
use Rattle.graphql_specification.specs.Values.{Accepts, accepts_undefined, accepts_null, accepts_variable, accepts_leaf, accepts_list, accepts_custom_object, accepts_object, AcceptsLeaf, IsFieldProvided, IsInputField, is_custom_scalar, CannotStandFor, null_for_non_null, variable_of_other_type, leaf_of_other_type, list_for_no_list, list_of_no_input, object_for_no_object, TakesLists, is_leaf_literal}
use Rattle.graphql_nodes.specs.Names.{NameText, SameName}
use Rattle.graphql_documents.specs.Schemas.{as_input_object, IsInputObject, is_input_type, type_definition}
use Rattle.graphql_documents.specs.TypeReferences.{inner_named_type, is_non_null, item_type}
use Rattle.graphql_documents.specs.Definitions.{variable_named}
use Rattle.graphql_documents.specs.declared.documents.definitions.VariableDefinition.{VariableDefinition}
use Rattle.graphql_nodes.specs.declared.nodes.Node.{Node}
use Rattle.graphql_documents.specs.declared.documents.schemas.ExtendedType.{ExtendedType}
use Rattle.graphql_documents.specs.declared.documents.schemas.ExtendedType.TheVariants as types
use Rattle.graphql_documents.specs.declared.documents.schemas.InputObjectType.{InputObjectType}
use Rattle.graphql_documents.specs.declared.documents.schemas.Schema.{Schema}
use Rattle.graphql_documents.specs.declared.documents.type_references.Type.{«Type»}
use Rattle.graphql_documents.specs.declared.documents.values.Value.{Value, out-Value}
use Rattle.graphql_documents.specs.declared.documents.values.Value.TheOpen as Open
use Rattle.graphql_documents.specs.declared.documents.values.Value.TheOpen.{Value-F}
use Rattle.graphql_documents.specs.declared.documents.values.Value.TheVariants as literal
use Rattle.graphql_documents.specs.declared.documents.values.Value.TheVariants.{outs-List, outs-Object}
use Rattle.graphql_values.specs.ValueSteps.{AcceptsField, AcceptsItem}

-- the variable is defined and can stand for a type
pub record VariableStands (variables : List (Node VariableDefinition)) (ty : «Type») (d : ExtendedType) (name : NameText) : Type 0 where
  pub variable : Node VariableDefinition
  pub is_input : IsTrue (is_input_type d)
  pub named : variable_named name variables ≡ Some variable
  pub same : SameName (inner_named_type variable.value.value.ty.value.value) (inner_named_type ty)

-- the entries are accepted for an input object
pub record EntriesHold (schema : Schema) (variables : List (Node VariableDefinition)) (d : InputObjectType) (entries : List (NameText × Node Value)) : Type 0 where
  pub known : All (λ entry. IsInputField d entry.0) entries
  pub each : All (AcceptsField schema variables entries) d.fields.entries

-- the object is accepted: for a custom scalar whatever is in it, else for an input object
abbrev pub ObjectHolds : Schema → List (Node VariableDefinition) → ExtendedType → List (NameText × Node Value) → Type 0
ObjectHolds schema variables d entries =
    IsTrue (is_custom_scalar d) ⊎
    ((o : Node InputObjectType) × (d ≡ types.InputObject o) × EntriesHold schema variables o.value.value entries)

-- what each kind of value must do for a type of this definition
abbrev pub AcceptsOpen : Schema → List (Node VariableDefinition) → «Type» → ExtendedType → Value-F Value → Type 0
AcceptsOpen schema variables ty d Open.Null = IsFalse (is_non_null ty)
AcceptsOpen schema variables ty d (Open.Enum name) = AcceptsLeaf d (literal.Enum name)
AcceptsOpen schema variables ty d (Open.Variable name) = VariableStands variables ty d name
AcceptsOpen schema variables ty d (Open.String text) = AcceptsLeaf d (literal.String text)
AcceptsOpen schema variables ty d (Open.Float number) = AcceptsLeaf d (literal.Float number)
AcceptsOpen schema variables ty d (Open.Int number) = AcceptsLeaf d (literal.Int number)
AcceptsOpen schema variables ty d (Open.Boolean truth) = AcceptsLeaf d (literal.Boolean truth)
AcceptsOpen schema variables ty d (Open.List items) = TakesLists ty d × All (AcceptsItem schema variables (item_type ty)) items.items
AcceptsOpen schema variables ty d (Open.Object entries) = ObjectHolds schema variables d entries.items

-- a leaf in its two forms
leaf_open : (schema : Schema) (variables : List (Node VariableDefinition)) (ty : «Type») (d : ExtendedType) (v : Value) →
    AcceptsLeaf d v → AcceptsOpen schema variables ty d (out-Value v)
unfolding out-Value denote.Hole.Carrier.out
leaf_open schema variables ty d literal.Null h = absurd h
leaf_open schema variables ty d (literal.Enum name) h = h
leaf_open schema variables ty d (literal.Variable name) h = absurd h
leaf_open schema variables ty d (literal.String text) h = h
leaf_open schema variables ty d (literal.Float number) h = h
leaf_open schema variables ty d (literal.Int number) h = h
leaf_open schema variables ty d (literal.Boolean truth) h = h
leaf_open schema variables ty d (literal.List' shape items) h = absurd h
leaf_open schema variables ty d (literal.Object' shape entries) h = absurd h

open_leaf : (schema : Schema) (variables : List (Node VariableDefinition)) (ty : «Type») (d : ExtendedType) (v : Value) →
    IsTrue (is_leaf_literal v) → AcceptsOpen schema variables ty d (out-Value v) → AcceptsLeaf d v
unfolding out-Value denote.Hole.Carrier.out
open_leaf schema variables ty d literal.Null leaf h = absurd (true≢false (sym leaf))
open_leaf schema variables ty d (literal.Enum name) leaf h = h
open_leaf schema variables ty d (literal.Variable name) leaf h = absurd (true≢false (sym leaf))
open_leaf schema variables ty d (literal.String text) leaf h = h
open_leaf schema variables ty d (literal.Float number) leaf h = h
open_leaf schema variables ty d (literal.Int number) leaf h = h
open_leaf schema variables ty d (literal.Boolean truth) leaf h = h
open_leaf schema variables ty d (literal.List' shape items) leaf h = absurd (true≢false (sym leaf))
open_leaf schema variables ty d (literal.Object' shape entries) leaf h = absurd (true≢false (sym leaf))

-- what holds of each element, as a statement over the elements
each_all : {X : Type 0} (P : X → Type 0) (xs : List X) → ((x : X) → Contains xs x → P x) → All P xs
each_all P xs h = All-weaker (Contains xs) P h xs (All-contains_itself xs)

-- an accepted value does what its kind must
pub accepts_open : (schema : Schema) (variables : List (Node VariableDefinition)) (ty : «Type») (v : Value) →
    Accepts schema variables ty v → (d : ExtendedType) → type_definition schema (inner_named_type ty) ≡ Some d →
    AcceptsOpen schema variables ty d (out-Value v)
unfolding out-Value denote.Hole.Carrier.out
accepts_open schema variables ty v (accepts_undefined e) d is = absurd (none-some d (sym e ∙ is))
accepts_open schema variables ty v (accepts_null f) d is = f
accepts_open schema variables ty v (accepts_variable {name = name} {d = d'} {v = w} e input named same) d is =
    subst (λ x. VariableStands variables ty x name) (same_Some d' d (sym e ∙ is))
    (record { variable = w; is_input = input; named = named; same = same })
accepts_open schema variables ty v (accepts_leaf {d = d'} e leaf) d is =
    leaf_open schema variables ty d v (subst (λ x. AcceptsLeaf x v) (same_Some d' d (sym e ∙ is)) leaf)
accepts_open schema variables ty v (accepts_list {d = d'} items e listed input each) d is =
    subst (AcceptsOpen schema variables ty d) (sym (outs-List items)) (
      subst (λ x. TakesLists ty x) (same_Some d' d (sym e ∙ is)) (listed, input),
      each_all (AcceptsItem schema variables (item_type ty)) items.items each,
    )
accepts_open schema variables ty v (accepts_custom_object {d = d'} entries e custom) d is =
    subst (AcceptsOpen schema variables ty d) (sym (outs-Object entries))
    (inl (subst (λ x. IsTrue (is_custom_scalar x)) (same_Some d' d (sym e ∙ is)) custom))
accepts_open schema variables ty v (accepts_object {d = o} entries e known given each) d is =
    subst (AcceptsOpen schema variables ty d) (sym (outs-Object entries))
    (inr (
      o,
      sym (same_Some (types.InputObject o) d (sym e ∙ is)),
      record {
        known = known;
        each = each_all (AcceptsField schema variables entries.items) o.value.value.fields.entries
            (λ field among. (All-contains (IsFieldProvided entries.items) o.value.value.fields.entries field given among, λ value first. each field value among first));
      },
    ))

-- so what cannot stand for the type is not accepted
pub cannot_accept : (schema : Schema) (variables : List (Node VariableDefinition)) (ty : «Type») (d : ExtendedType) (v : Value) (as_type : «Type») →
    type_definition schema (inner_named_type ty) ≡ Some d → CannotStandFor variables ty d v as_type → ¬ Accepts schema variables ty v
unfolding out-Value denote.Hole.Carrier.out
cannot_accept schema variables ty d v as_type is (null_for_non_null non_null) h =
    let nullable : IsFalse (is_non_null ty) = accepts_open schema variables ty literal.Null h d is in
    true≢false (sym non_null ∙ nullable)
cannot_accept schema variables ty d v as_type is (variable_of_other_type {name = name} {v = w} named other) h =
    let stands : VariableStands variables ty d name = accepts_open schema variables ty (literal.Variable name) h d is in
    let same : stands.variable ≡ w = same_Some stands.variable w (sym stands.named ∙ named) in
    other (stands.is_input, subst (λ x. SameName (inner_named_type x.value.value.ty.value.value) (inner_named_type ty)) same stands.same)
cannot_accept schema variables ty d v as_type is (leaf_of_other_type leaf refused in_range known) h =
    refused (open_leaf schema variables ty d v leaf (accepts_open schema variables ty v h d is))
cannot_accept schema variables ty d v as_type is (list_for_no_list items no_list) h =
    let opened = subst (AcceptsOpen schema variables ty d) (outs-List items) (accepts_open schema variables ty (literal.List items) h d is) in
    true≢false (sym opened.0.0 ∙ no_list)
cannot_accept schema variables ty d v as_type is (list_of_no_input items listed no_input) h =
    let opened = subst (AcceptsOpen schema variables ty d) (outs-List items) (accepts_open schema variables ty (literal.List items) h d is) in
    true≢false (sym opened.0.1 ∙ no_input)
cannot_accept schema variables ty d v as_type is (object_for_no_object entries no_custom no_object) h =
    let opened = subst (AcceptsOpen schema variables ty d) (outs-Object entries) (accepts_open schema variables ty (literal.Object entries) h d is) in
    elim opened [ inl custom ↦ true≢false (sym custom ∙ no_custom) | inr o ↦ none-some o.0 (sym no_object ∙ ap as_input_object o.1) ]

module _ (schema : Schema) (variables : List (Node VariableDefinition)) (ty : «Type») (d : ExtendedType) (is : type_definition schema (inner_named_type ty) ≡ Some d) where
  -- a leaf that the definition does not take is not accepted
  pub leaf_refused : (v : Value) → IsTrue (is_leaf_literal v) → ¬ AcceptsLeaf d v → ¬ Accepts schema variables ty v
  leaf_refused v leaf refused h = refused (open_leaf schema variables ty d v leaf (accepts_open schema variables ty v h d is))

  -- a variable that is not defined is not accepted
  pub variable_refused : (name : NameText) → variable_named name variables ≡ None → ¬ Accepts schema variables ty (literal.Variable name)
  unfolding out-Value denote.Hole.Carrier.out
  variable_refused name missing h =
      let stands : VariableStands variables ty d name = accepts_open schema variables ty (literal.Variable name) h d is in
      none-some stands.variable (sym missing ∙ stands.named)

  -- a list is accepted where its items are
  pub list_accepted : (items : Vec (Node Value) Global) → TakesLists ty d →
      All (AcceptsItem schema variables (item_type ty)) items.items ↔ Accepts schema variables ty (literal.List items)
  list_accepted items takes = (
    λ all. accepts_list items is takes.0 takes.1 (λ item among. All-contains (AcceptsItem schema variables (item_type ty)) items.items item all among),
    λ h. (subst (AcceptsOpen schema variables ty d) (outs-List items) (accepts_open schema variables ty (literal.List items) h d is)).1,
  )

-- an object is accepted for an input object where its entries are
pub object_accepted : (schema : Schema) (variables : List (Node VariableDefinition)) (ty : «Type») (o : Node InputObjectType) (entries : Vec (NameText × Node Value) Global) →
    IsInputObject schema (inner_named_type ty) o →
    (All (λ entry. IsInputField o.value.value entry.0) entries.items × All (AcceptsField schema variables entries.items) o.value.value.fields.entries) ↔
    Accepts schema variables ty (literal.Object entries)
object_accepted schema variables ty o entries is = (there, back) where
  there : All (λ entry. IsInputField o.value.value entry.0) entries.items × All (AcceptsField schema variables entries.items) o.value.value.fields.entries →
      Accepts schema variables ty (literal.Object entries)
  there p = accepts_object entries is p.0
      (All-weaker (AcceptsField schema variables entries.items) (IsFieldProvided entries.items) (λ field h. h.0) o.value.value.fields.entries p.1)
      (λ field value among first. (All-contains (AcceptsField schema variables entries.items) o.value.value.fields.entries field p.1 among).1 value first)

  back : Accepts schema variables ty (literal.Object entries) →
      All (λ entry. IsInputField o.value.value entry.0) entries.items × All (AcceptsField schema variables entries.items) o.value.value.fields.entries
  back h =
      let opened : ObjectHolds schema variables (types.InputObject o) entries.items =
      subst (AcceptsOpen schema variables ty (types.InputObject o)) (outs-Object entries) (accepts_open schema variables ty (literal.Object entries) h (types.InputObject o) is) in
      elim opened [
        | inl custom ↦ absurd (true≢false (sym custom))
        | inr p ↦
            let same : p.0 ≡ o = let e = p.1 in cc in
            let holds = subst (λ x. EntriesHold schema variables x.value.value entries.items) same p.2 in
            (holds.known, holds.each)
      ]
