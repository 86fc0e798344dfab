-- `==` compares contents: two values, or two definitions of fields, are equal exactly where the same is written in both.
use Rattle.std.proofs.Common.{◌≡◌, Bool, true, false, ◌&&◌, List, [], ◌∷◌, Option, Some, None, map, get_or, All, String, refl, sym, ◌∙◌, subst}
use Rattle.std.specs.Prelude.{IsTrue, ◌↔◌, string_bytes, string_eq}
use Rattle.std.specs.List.{AllZip}
use Rattle.std.specs.Option.{option_eq}
use Rattle.std.specs.Str.{bytes_eq}
use Rattle.std.proofs.lemmas.List.Elements.{All-head, All-tail, All-map}
use Rattle.std.proofs.lemmas.Slice.Eq.{bytes_eq-Decides}
use denote.Enum.Compared.{Each, by}
use denote.Hole.Carrier.{Values}
use denote.Hole.Holds
use lib.Pointwise.{pointwise}
use mathlib.Core.Bool.{beq}
use Rattle.graphql_nodes.specs.Names.{NameText, SameName, same_name}
use Rattle.graphql_documents.specs.TypeReferences.{same_type}
use Rattle.graphql_documents.specs.Values.{AreCopies, AreEntryCopies, IsCopy, copy_of_boolean, copy_of_enum, copy_of_float, copy_of_int, copy_of_list, copy_of_null, copy_of_object, copy_of_string, copy_of_variable, more_entry_copies, more_item_copies, no_entry_copies, no_item_copies}
use Rattle.graphql_documents.specs.Contents.{SameArgument, SameDirective, SameFieldDefinition, SameFragmentSpread, SameIfAny, SameInputValueDefinition}
use Rattle.graphql_documents.specs.contracts.documents.definitions.FieldDefinitionPartialEq.TheImpl as definition_impl
use Rattle.graphql_documents.specs.contracts.documents.definitions.InputValueDefinitionPartialEq.TheImpl as input_impl
use Rattle.graphql_documents.specs.contracts.documents.directives.ArgumentPartialEq.TheImpl as argument_impl
use Rattle.graphql_documents.specs.contracts.documents.directives.DirectivePartialEq.TheImpl as directive_impl
use Rattle.graphql_documents.specs.contracts.documents.executables.FragmentSpreadPartialEq.TheImpl as spread_impl
use Rattle.graphql_documents.specs.contracts.documents.type_references.TypePartialEq.TheImpl as type_impl
use Rattle.graphql_documents.specs.contracts.documents.type_references.TypePartialEq.TheImpl.Laws as type_laws
use Rattle.graphql_documents.specs.contracts.documents.values.Value as value_type
use Rattle.graphql_documents.specs.contracts.documents.values.ValuePartialEq.TheImpl as value_impl
use Rattle.graphql_documents.specs.contracts.documents.values.ValuePartialEq.TheImpl.Laws as value_laws
use Rattle.graphql_documents.specs.declared.documents.definitions.FieldDefinition.{FieldDefinition}
use Rattle.graphql_documents.specs.declared.documents.definitions.InputValueDefinition.{InputValueDefinition}
use Rattle.graphql_documents.specs.declared.documents.directives.Argument.{Argument}
use Rattle.graphql_documents.specs.declared.documents.directives.Directive.{Directive}
use Rattle.graphql_documents.specs.declared.documents.executables.FragmentSpread.{FragmentSpread}
use Rattle.graphql_documents.specs.declared.documents.executables.Selection.TheVariants as kind
use Rattle.graphql_documents.specs.declared.documents.type_references.Type.{«Type»}
use Rattle.graphql_documents.specs.declared.documents.type_references.Type.TheVariants.{Named, NonNullNamed, List', NonNullList'}
use Rattle.graphql_documents.specs.declared.documents.values.Value.{Value, out-Value, roll-Value, roll-out-Value, out-roll-Value}
use Rattle.graphql_documents.specs.declared.documents.values.Value.TheBlock.{the_family, the_members, the_sigs, the_carrier, member-Value, split-Value}
use Rattle.graphql_documents.specs.declared.documents.values.Value.TheFolds.{ind-Value, map-Value, claims}
use Rattle.graphql_documents.specs.declared.documents.values.Value.TheOpen as Open
use Rattle.graphql_documents.specs.declared.documents.values.Value.TheVariants as literal
use Rattle.graphql_nodes.specs.declared.nodes.Node.{Node}

-- each of two answers
pub both : (a b : Bool) → IsTrue (a && b) → IsTrue a × IsTrue b
both true b h = (refl, h)
both false b h = absurd (let no : ⊥ = cc in no)

pub and : (a b : Bool) → IsTrue a → IsTrue b → IsTrue (a && b)
and true b x y = y
and false b x y = absurd (let no : ⊥ = cc in no)

-- ==== lists and options

pairs_are : {X : Type 0} (equal : X → X → Bool) (Same : X → X → Type 0) → ((x y : X) → IsTrue (equal x y) ↔ Same x y) →
    (xs ys : List X) → IsTrue (pointwise equal xs ys) ↔ AllZip Same xs ys
pairs_are equal Same is [] [] = (λ h. tt, λ h. refl)
pairs_are equal Same is [] (y ∷ ys) = (λ h. absurd (let no : ⊥ = cc in no), λ h. absurd h)
pairs_are equal Same is (x ∷ xs) [] = (λ h. absurd (let no : ⊥ = cc in no), λ h. absurd h)
pairs_are equal Same is (x ∷ xs) (y ∷ ys) =
    let more = pairs_are equal Same is xs ys in (
      λ h. let parts = both (equal x y) (pointwise equal xs ys) h in ((is x y).0 parts.0, more.0 parts.1),
      λ h. and (equal x y) (pointwise equal xs ys) ((is x y).1 h.0) (more.1 h.1),
    )

pub options_are : {X : Type 0} (equal : X → X → Bool) (Same : X → X → Type 0) → ((x y : X) → IsTrue (equal x y) ↔ Same x y) →
    (a b : Option X) → IsTrue (option_eq equal a b) ↔ SameIfAny Same a b
options_are equal Same is None None = (λ h. tt, λ h. refl)
options_are equal Same is None (Some y) = (λ h. absurd (let no : ⊥ = cc in no), λ h. absurd h)
options_are equal Same is (Some x) None = (λ h. absurd (let no : ⊥ = cc in no), λ h. absurd h)
options_are equal Same is (Some x) (Some y) = is x y

pub names_are : (a b : NameText) → IsTrue (same_name a b) ↔ SameName a b
names_are a b = (λ h. h, λ h. h)

-- ==== types

abbrev equal_types : «Type» → «Type» → Bool
equal_types = type_impl.ghosts.eq

types_are : (a b : «Type») → equal_types a b ≡ same_type a b
types_are (Named a) (Named b) = type_laws.is (Named a) (Named b)
types_are (NonNullNamed a) (NonNullNamed b) = type_laws.is (NonNullNamed a) (NonNullNamed b)
types_are (List' place a) (List' other b) = type_laws.is (List' place a) (List' other b) ∙ types_are a b
types_are (NonNullList' place a) (NonNullList' other b) = type_laws.is (NonNullList' place a) (NonNullList' other b) ∙ types_are a b
types_are a b = type_laws.is a b

-- ==== values

abbrev equal_values : Value → Value → Bool
equal_values = value_impl.ghosts.eq

abbrev equal_items : Node Value → Node Value → Bool
equal_items x y = equal_values x.value.value y.value.value

abbrev equal_entries : NameText × Node Value → NameText × Node Value → Bool
equal_entries x y = same_name x.0 y.0 && equal_items x.1 y.1

-- two values of one kind, and what is equal of them
abbrev EqualOpen : Open.Value-F Value → Open.Value-F Value → Type 0
EqualOpen Open.Null Open.Null = Unit {0}
EqualOpen (Open.Enum a) (Open.Enum b) = SameName a b
EqualOpen (Open.Variable a) (Open.Variable b) = SameName a b
EqualOpen (Open.String a) (Open.String b) = IsTrue (string_eq a b)
EqualOpen (Open.Float a) (Open.Float b) = IsTrue (bytes_eq a b)
EqualOpen (Open.Int a) (Open.Int b) = IsTrue (bytes_eq a b)
EqualOpen (Open.Boolean a) (Open.Boolean b) = IsTrue (beq a b)
EqualOpen (Open.List a) (Open.List b) = IsTrue (pointwise equal_items a.items b.items)
EqualOpen (Open.Object a) (Open.Object b) = IsTrue (pointwise equal_entries a.items b.items)
EqualOpen _ _ = ⊥

abbrev each_kind : Each Bool value_type.the_parts
each_kind = (
  λ a b. true,
  (
    λ a b. same_name a.0 b.0,
    (
      λ a b. same_name a.0 b.0,
      (
        λ a b. string_eq a.0 b.0,
        (
          λ a b. bytes_eq a.0 b.0,
          (
            λ a b. bytes_eq a.0 b.0,
            (λ a b. beq a.0 b.0, (λ a b. pointwise equal_items a.0.items b.0.items, (λ a b. pointwise equal_entries a.0.items b.0.items, tt))),
          ),
        ),
      ),
    ),
  ),
)

abbrev values : the_members → Type 0
values = Values the_members the_sigs the_carrier

abbrev equal_layers : Open.Value-F Value → Open.Value-F Value → Bool
equal_layers x y = by false false value_type.the_parts each_kind (split-Value values x) (split-Value values y)

layers_are : (x y : Open.Value-F Value) → IsTrue (equal_layers x y) → EqualOpen x y
layers_are Open.Null Open.Null h = tt
layers_are (Open.Enum a) (Open.Enum b) h = h
layers_are (Open.Variable a) (Open.Variable b) h = h
layers_are (Open.String a) (Open.String b) h = h
layers_are (Open.Float a) (Open.Float b) h = h
layers_are (Open.Int a) (Open.Int b) h = h
layers_are (Open.Boolean a) (Open.Boolean b) h = h
layers_are (Open.List a) (Open.List b) h = h
layers_are (Open.Object a) (Open.Object b) h = h
layers_are _ _ h = absurd (let no : ⊥ = cc in no)

layers_from : (x y : Open.Value-F Value) → EqualOpen x y → IsTrue (equal_layers x y)
layers_from Open.Null Open.Null h = refl
layers_from (Open.Enum a) (Open.Enum b) h = h
layers_from (Open.Variable a) (Open.Variable b) h = h
layers_from (Open.String a) (Open.String b) h = h
layers_from (Open.Float a) (Open.Float b) h = h
layers_from (Open.Int a) (Open.Int b) h = h
layers_from (Open.Boolean a) (Open.Boolean b) h = h
layers_from (Open.List a) (Open.List b) h = h
layers_from (Open.Object a) (Open.Object b) h = h
layers_from _ _ h = absurd h

opened : (v w : Value) → IsTrue (equal_values v w) → EqualOpen (out-Value v) (out-Value w)
opened v w h = layers_are (out-Value v) (out-Value w) (subst IsTrue (value_laws.is v w) h)

closed : (v w : Value) (x y : Open.Value-F Value) → out-Value v ≡ x → out-Value w ≡ y → EqualOpen x y → IsTrue (equal_values v w)
closed v w x y ev ew h =
    subst IsTrue (sym (value_laws.is v w))
    (layers_from (out-Value v) (out-Value w) (subst (λ z. EqualOpen z (out-Value w)) (sym ev) (subst (EqualOpen x) (sym ew) h)))

truth_alike : (a b : Bool) → IsTrue (beq a b) → a ≡ b
truth_alike true true h = refl
truth_alike true false h = absurd (let no : ⊥ = cc in no)
truth_alike false true h = absurd (let no : ⊥ = cc in no)
truth_alike false false h = refl

truth_itself : (a : Bool) → IsTrue (beq a a)
truth_itself true = refl
truth_itself false = refl

-- what is equal to the value is a copy of it
abbrev Follows : Value → Type 0
Follows v = (w : Value) → IsTrue (equal_values v w) → IsCopy v w

items_follow : (xs ys : List (Node Value)) → All (λ n. Follows n.value.value) xs → IsTrue (pointwise equal_items xs ys) → AreCopies xs ys
items_follow [] [] all h = no_item_copies
items_follow [] (v ∷ vs) all h = absurd (let no : ⊥ = cc in no)
items_follow (u ∷ us) [] all h = absurd (let no : ⊥ = cc in no)
items_follow (u ∷ us) (v ∷ vs) all h =
    let parts = both (equal_items u v) (pointwise equal_items us vs) h in
    more_item_copies (All-head (λ n. Follows n.value.value) u us all v.value.value parts.0)
    (items_follow us vs (All-tail (λ n. Follows n.value.value) u us all) parts.1)

entries_follow : (xs ys : List (NameText × Node Value)) → All (λ e. Follows e.1.value.value) xs → IsTrue (pointwise equal_entries xs ys) → AreEntryCopies xs ys
entries_follow [] [] all h = no_entry_copies
entries_follow [] (v ∷ vs) all h = absurd (let no : ⊥ = cc in no)
entries_follow (u ∷ us) [] all h = absurd (let no : ⊥ = cc in no)
entries_follow (u ∷ us) (v ∷ vs) all h =
    let parts = both (equal_entries u v) (pointwise equal_entries us vs) h in
    let entry = both (same_name u.0 v.0) (equal_items u.1 v.1) parts.0 in
    more_entry_copies entry.0 (All-head (λ e. Follows e.1.value.value) u us all v.1.value.value entry.1)
    (entries_follow us vs (All-tail (λ e. Follows e.1.value.value) u us all) parts.1)

abbrev Kept : Type 0
Kept = denote.Hole.Holds.Such the_family (claims Follows) member-Value

abbrev item : Node Kept → Node Value
item n = record { value = record { ptr = n.value.ptr; value = n.value.value.0 }; location = n.location }

abbrev named_item : NameText × Node Kept → NameText × Node Value
named_item e = (e.0, item e.1)

abbrev kept_open : Open.Value-F Kept → Open.Value-F Value
kept_open y = map-Value Kept Value (λ e. e.0) y

copy_open : (y : Open.Value-F Kept) (z : Open.Value-F Value) → EqualOpen (kept_open y) z → IsCopy (roll-Value (kept_open y)) (roll-Value z)
copy_open Open.Null Open.Null h = rw literal.rolls-Null copy_of_null
copy_open (Open.Enum a) (Open.Enum b) h = rw (literal.rolls-Enum a, literal.rolls-Enum b) (copy_of_enum h)
copy_open (Open.Variable a) (Open.Variable b) h = rw (literal.rolls-Variable a, literal.rolls-Variable b) (copy_of_variable h)
copy_open (Open.String a) (Open.String b) h = rw (literal.rolls-String a, literal.rolls-String b) (copy_of_string a b ((bytes_eq-Decides (string_bytes a) (string_bytes b)).0 h))
copy_open (Open.Float a) (Open.Float b) h = rw (literal.rolls-Float a, literal.rolls-Float b) (copy_of_float ((bytes_eq-Decides a b).0 h))
copy_open (Open.Int a) (Open.Int b) h = rw (literal.rolls-Int a, literal.rolls-Int b) (copy_of_int ((bytes_eq-Decides a b).0 h))
copy_open (Open.Boolean a) (Open.Boolean b) h = rw (literal.rolls-Boolean a, literal.rolls-Boolean b, truth_alike a b h) copy_of_boolean
copy_open (Open.List a) (Open.List b) h = rw (literal.rolls-List _, literal.rolls-List b)
    (copy_of_list _ b (items_follow (map item a.items) b.items (All-map (λ n. Follows n.value.value) item a.items (λ k d in'. (get_or a.items k d).value.value.1)) h))
copy_open (Open.Object a) (Open.Object b) h = rw (literal.rolls-Object _, literal.rolls-Object b)
    (copy_of_object _ b (entries_follow (map named_item a.items) b.items (All-map (λ e. Follows e.1.value.value) named_item a.items (λ k d in'. (get_or a.items k d).1.value.value.1)) h))
copy_open _ _ h = absurd h

equal_is_copy : (v w : Value) → IsTrue (equal_values v w) → IsCopy v w
equal_is_copy = ind-Value Follows (λ x y e w h.
    let here = opened (roll-Value x) w h in
    subst (λ z. IsCopy (roll-Value z) w) e
    (subst (IsCopy (roll-Value (kept_open y))) (roll-out-Value w)
    (copy_open y (out-Value w) (subst (λ z. EqualOpen z (out-Value w)) (out-roll-Value x ∙ sym e) here))))

mutual
  copy_is_equal : {v w : Value} → IsCopy v w → IsTrue (equal_values v w)
  copy_is_equal copy_of_null = closed _ _ _ _ literal.outs-Null literal.outs-Null tt
  copy_is_equal (copy_of_enum {a = a} {b = b} e) = closed _ _ _ _ (literal.outs-Enum a) (literal.outs-Enum b) e
  copy_is_equal (copy_of_variable {a = a} {b = b} e) = closed _ _ _ _ (literal.outs-Variable a) (literal.outs-Variable b) e
  copy_is_equal (copy_of_string a b e) = closed _ _ _ _ (literal.outs-String a) (literal.outs-String b) ((bytes_eq-Decides (string_bytes a) (string_bytes b)).1 e)
  copy_is_equal (copy_of_float {a = a} {b = b} e) = closed _ _ _ _ (literal.outs-Float a) (literal.outs-Float b) ((bytes_eq-Decides a b).1 e)
  copy_is_equal (copy_of_int {a = a} {b = b} e) = closed _ _ _ _ (literal.outs-Int a) (literal.outs-Int b) ((bytes_eq-Decides a b).1 e)
  copy_is_equal (copy_of_boolean {a = a}) = closed _ _ _ _ (literal.outs-Boolean a) (literal.outs-Boolean a) (truth_itself a)
  copy_is_equal (copy_of_list a b items) = closed _ _ _ _ (literal.outs-List a) (literal.outs-List b) (copies_are_equal items)
  copy_is_equal (copy_of_object a b entries) = closed _ _ _ _ (literal.outs-Object a) (literal.outs-Object b) (entry_copies_are_equal entries)

  copies_are_equal : {xs ys : List (Node Value)} → AreCopies xs ys → IsTrue (pointwise equal_items xs ys)
  copies_are_equal no_item_copies = refl
  copies_are_equal (more_item_copies {x = x} {y = y} {xs = xs} {ys = ys} copy more) =
      and (equal_items x y) (pointwise equal_items xs ys) (copy_is_equal copy) (copies_are_equal more)

  entry_copies_are_equal : {xs ys : List (NameText × Node Value)} → AreEntryCopies xs ys → IsTrue (pointwise equal_entries xs ys)
  entry_copies_are_equal no_entry_copies = refl
  entry_copies_are_equal (more_entry_copies {x = x} {y = y} {xs = xs} {ys = ys} name copy more) =
      and (equal_entries x y) (pointwise equal_entries xs ys) (and (same_name x.0 y.0) (equal_items x.1 y.1) name (copy_is_equal copy)) (entry_copies_are_equal more)

pub equality_of_values : (a b : Value) → IsTrue (equal_values a b) ↔ IsCopy a b
equality_of_values a b = (equal_is_copy a b, copy_is_equal)

-- ==== arguments, directives and definitions

equality_of_arguments : (a b : Argument) → IsTrue (argument_impl.ghosts.eq a b) ↔ SameArgument a b
equality_of_arguments a b = (
  λ h. let name = both _ _ h in record { name = name.0; value = (equality_of_values _ _).0 name.1 },
  λ s. and _ _ s.name ((equality_of_values _ _).1 s.value),
)

pub arguments_are : (xs ys : List (Node Argument)) →
    IsTrue (pointwise (λ x y. argument_impl.ghosts.eq x.value.value y.value.value) xs ys) ↔ AllZip (λ x y. SameArgument x.value.value y.value.value) xs ys
arguments_are = pairs_are _ _ (λ x y. equality_of_arguments x.value.value y.value.value)

equality_of_directives : (a b : Directive) → IsTrue (directive_impl.ghosts.eq a b) ↔ SameDirective a b
equality_of_directives a b = (
  λ h. let name = both _ _ h in record { name = name.0; arguments = (arguments_are a.arguments.items b.arguments.items).0 name.1 },
  λ s. and _ _ s.name ((arguments_are a.arguments.items b.arguments.items).1 s.arguments),
)

pub directives_are : (xs ys : List (Node Directive)) →
    IsTrue (pointwise (λ x y. directive_impl.ghosts.eq x.value.value y.value.value) xs ys) ↔ AllZip (λ x y. SameDirective x.value.value y.value.value) xs ys
directives_are = pairs_are _ _ (λ x y. equality_of_directives x.value.value y.value.value)

defaults_are : (a b : Option (Node Value)) → IsTrue (option_eq equal_items a b) ↔ SameIfAny (λ x y. IsCopy x.value.value y.value.value) a b
defaults_are = options_are _ _ (λ x y. equality_of_values x.value.value y.value.value)

equality_of_input_values : (a b : InputValueDefinition) → IsTrue (input_impl.ghosts.eq a b) ↔ SameInputValueDefinition a b
equality_of_input_values a b = (
  λ h.
      let name = both _ _ h in
      let ty = both _ _ name.1 in
      let default = both _ _ ty.1 in
      record {
        name = name.0;
        ty = subst IsTrue (types_are a.ty.value.value b.ty.value.value) ty.0;
        default_value = (defaults_are a.default_value b.default_value).0 default.0;
        directives = (directives_are a.directives.items b.directives.items).0 default.1;
      },
  λ s.
      and _ _ s.name
      (and _ _ (subst IsTrue (sym (types_are a.ty.value.value b.ty.value.value)) s.ty)
      (and _ _ ((defaults_are a.default_value b.default_value).1 s.default_value) ((directives_are a.directives.items b.directives.items).1 s.directives))),
)

definitions_are : (xs ys : List (Node InputValueDefinition)) →
    IsTrue (pointwise (λ x y. input_impl.ghosts.eq x.value.value y.value.value) xs ys) ↔ AllZip (λ x y. SameInputValueDefinition x.value.value y.value.value) xs ys
definitions_are = pairs_are _ _ (λ x y. equality_of_input_values x.value.value y.value.value)

pub equality_of_field_definitions : (a b : FieldDefinition) → IsTrue (definition_impl.ghosts.eq a b) ↔ SameFieldDefinition a b
equality_of_field_definitions a b = (
  λ h.
      let name = both _ _ h in
      let arguments = both _ _ name.1 in
      let ty = both _ _ arguments.1 in
      record {
        name = name.0;
        arguments = (definitions_are a.arguments.items b.arguments.items).0 arguments.0;
        ty = subst IsTrue (types_are a.ty b.ty) ty.0;
        directives = (directives_are a.directives.items b.directives.items).0 ty.1;
      },
  λ s.
      and _ _ s.name
      (and _ _ ((definitions_are a.arguments.items b.arguments.items).1 s.arguments)
      (and _ _ (subst IsTrue (sym (types_are a.ty b.ty)) s.ty) ((directives_are a.directives.items b.directives.items).1 s.directives))),
)

pub equality_of_spreads : (a b : FragmentSpread) → IsTrue (spread_impl.ghosts.eq a b) ↔ SameFragmentSpread a b
equality_of_spreads a b = (
  λ h. let name = both _ _ h in record { fragment_name = name.0; directives = (directives_are a.directives.items b.directives.items).0 name.1 },
  λ s. and _ _ s.fragment_name ((directives_are a.directives.items b.directives.items).1 s.directives),
)
