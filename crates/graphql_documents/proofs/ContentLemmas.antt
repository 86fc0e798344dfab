-- `==` compares contents: two values, definitions of fields or fields are equal exactly where the same is
-- written in both.
use Rattle.std.proofs.Common.{◌≡◌, Bool, true, false, List, [], ◌∷◌, Option, map, get_or, All, refl, sym, ◌∙◌, subst}
use Rattle.std.specs.Prelude.{IsTrue, ◌↔◌}
use Rattle.std.specs.Option.{option_eq}
use Rattle.std.proofs.lemmas.List.Elements.{All-head, All-tail, All-map}
use denote.Enum.Compared.{Each, by}
use denote.Hole.Carrier.{Values}
use denote.Hole.Compared.{compared_is}
use denote.Hole.Holds
use lib.Pointwise.{pointwise}
use Rattle.graphql_nodes.specs.Names.{NameText, SameName, same_name}
use Rattle.graphql_documents.specs.Contents.{SameField, SameIfAny, SameInlineFragment, SameSelectionSet, SameSelections, next_field, next_fragment_spread, next_inline_fragment, no_selections, same_contents_of_field, same_contents_of_inline_fragment, same_contents_of_set}
use Rattle.graphql_documents.specs.contracts.documents.definitions.FieldDefinitionPartialEq.TheImpl as definition_impl
use Rattle.graphql_documents.specs.contracts.documents.directives.ArgumentPartialEq.TheImpl as argument_impl
use Rattle.graphql_documents.specs.contracts.documents.directives.DirectivePartialEq.TheImpl as directive_impl
use Rattle.graphql_documents.specs.contracts.documents.executables.FieldPartialEq.TheImpl as field_impl
use Rattle.graphql_documents.specs.contracts.documents.executables.FieldPartialEq.TheImpl.Laws as field_laws
use Rattle.graphql_documents.specs.contracts.documents.executables.FragmentSpreadPartialEq.TheImpl as spread_impl
use Rattle.graphql_documents.specs.contracts.documents.executables.Selection as selection_type
use Rattle.graphql_documents.specs.contracts.documents.executables.SelectionPartialEq.TheImpl as selection_impl
use Rattle.graphql_documents.specs.declared.documents.executables.Field.{Field, roll-Field}
use Rattle.graphql_documents.specs.declared.documents.executables.FragmentSpread.{FragmentSpread}
use Rattle.graphql_documents.specs.declared.documents.executables.InlineFragment.{InlineFragment, roll-InlineFragment}
use Rattle.graphql_documents.specs.declared.documents.executables.Selection.{Selection, out-Selection, roll-Selection, roll-out-Selection, out-roll-Selection}
use Rattle.graphql_documents.specs.declared.documents.executables.Selection.TheBlock as block
use Rattle.graphql_documents.specs.declared.documents.executables.Selection.TheFolds as folds
use Rattle.graphql_documents.specs.declared.documents.executables.Selection.TheOpen as selection_open
use Rattle.graphql_documents.specs.declared.documents.executables.Selection.TheVariants as kind
use Rattle.graphql_documents.specs.declared.documents.executables.SelectionSet.{SelectionSet, roll-SelectionSet}
use Rattle.graphql_documents.specs.declared.documents.type_references.Type.{«Type»}
use Rattle.graphql_documents.specs.declared.documents.values.Value.TheBlock.{the_family, the_members, the_sigs, the_carrier}
use Rattle.graphql_documents.specs.declared.documents.values.Value.TheFolds.{claims}
use Rattle.graphql_documents.proofs.ValueContentLemmas.{and, arguments_are, both, directives_are, equality_of_field_definitions, equality_of_spreads, names_are, options_are}

-- ==== fields and sets

abbrev members : block.the_members → Type 0
members = Values block.the_members block.the_sigs block.the_carrier

-- the equality of each kind of part, which goes by the parts of that
abbrev equal : (j : block.the_members) → members j → members j → Bool
equal = field_laws.family

equal_by_parts : (j : block.the_members) (x y : members j) → equal j x y ≡ field_impl.the_step equal j x y
equal_by_parts = compared_is block.the_members members block.the_depth Bool true field_impl.the_step field_laws.local

by_parts : (j : block.the_members) (x y : members j) → IsTrue (equal j x y) → IsTrue (field_impl.the_step equal j x y)
by_parts j x y h = subst IsTrue (equal_by_parts j x y) h

from_parts : (j : block.the_members) (x y : members j) → IsTrue (field_impl.the_step equal j x y) → IsTrue (equal j x y)
from_parts j x y h = subst IsTrue (sym (equal_by_parts j x y)) h

abbrev equal_fields : Field → Field → Bool
equal_fields = equal block.member-Field

abbrev equal_inline : InlineFragment → InlineFragment → Bool
equal_inline = equal block.member-InlineFragment

abbrev equal_sets : SelectionSet → SelectionSet → Bool
equal_sets = equal block.member-SelectionSet

abbrev equal_selections : Selection → Selection → Bool
equal_selections = equal block.member-Selection

aliases_are : (a b : Option NameText) → IsTrue (option_eq same_name a b) ↔ SameIfAny SameName a b
aliases_are = options_are same_name SameName names_are

-- what is equal of two equal fields
record FieldParts (a b : Field) : Type 0 where
  definition : IsTrue (definition_impl.ghosts.eq a.definition.value.value b.definition.value.value)
  alias : IsTrue (option_eq same_name a.alias b.alias)
  name : SameName a.name b.name
  arguments : IsTrue (pointwise (λ x y. argument_impl.ghosts.eq x.value.value y.value.value) a.arguments.items b.arguments.items)
  directives : IsTrue (pointwise (λ x y. directive_impl.ghosts.eq x.value.value y.value.value) a.directives.items b.directives.items)
  set : IsTrue (equal_sets a.selection_set b.selection_set)

field_parts : (a b : Field) → IsTrue (equal_fields a b) → FieldParts a b
field_parts a b h =
    let definition = both _ _ (by_parts block.member-Field a b h) in
    let alias = both _ _ definition.1 in
    let name = both _ _ alias.1 in
    let arguments = both _ _ name.1 in
    let directives = both _ _ arguments.1 in
    record { definition = definition.0; alias = alias.0; name = name.0; arguments = arguments.0; directives = directives.0; set = directives.1 }

field_from_parts : (a b : Field) → FieldParts a b → IsTrue (equal_fields a b)
field_from_parts a b parts =
    from_parts block.member-Field a b
    (and _ _ parts.definition (and _ _ parts.alias (and _ _ parts.name (and _ _ parts.arguments (and _ _ parts.directives parts.set)))))

record InlineParts (a b : InlineFragment) : Type 0 where
  type_condition : IsTrue (option_eq same_name a.type_condition b.type_condition)
  directives : IsTrue (pointwise (λ x y. directive_impl.ghosts.eq x.value.value y.value.value) a.directives.items b.directives.items)
  set : IsTrue (equal_sets a.selection_set b.selection_set)

inline_parts : (a b : InlineFragment) → IsTrue (equal_inline a b) → InlineParts a b
inline_parts a b h =
    let condition = both _ _ (by_parts block.member-InlineFragment a b h) in
    let directives = both _ _ condition.1 in
    record { type_condition = condition.0; directives = directives.0; set = directives.1 }

inline_from_parts : (a b : InlineFragment) → InlineParts a b → IsTrue (equal_inline a b)
inline_from_parts a b parts =
    from_parts block.member-InlineFragment a b (and _ _ parts.type_condition (and _ _ parts.directives parts.set))

set_parts : (a b : SelectionSet) → IsTrue (equal_sets a b) → SameName a.ty b.ty × IsTrue (pointwise equal_selections a.selections.items b.selections.items)
set_parts a b h = both _ _ (by_parts block.member-SelectionSet a b h)

set_from_parts : (a b : SelectionSet) → SameName a.ty b.ty → IsTrue (pointwise equal_selections a.selections.items b.selections.items) → IsTrue (equal_sets a b)
set_from_parts a b ty selections = from_parts block.member-SelectionSet a b (and _ _ ty selections)

-- two selections of one kind, and what is equal of them
abbrev Opened : Type 0
Opened = selection_open.Selection-F Selection Field InlineFragment SelectionSet

abbrev EqualOpened : Opened → Opened → Type 0
EqualOpened (selection_open.Field a) (selection_open.Field b) = IsTrue (equal_fields a.value.value b.value.value)
EqualOpened (selection_open.FragmentSpread a) (selection_open.FragmentSpread b) = IsTrue (spread_impl.ghosts.eq a.value.value b.value.value)
EqualOpened (selection_open.InlineFragment a) (selection_open.InlineFragment b) = IsTrue (equal_inline a.value.value b.value.value)
EqualOpened _ _ = ⊥

abbrev each_selection : Each Bool selection_type.the_parts
each_selection = (
  λ a b. equal_fields a.0.value.value b.0.value.value,
  (λ a b. spread_impl.ghosts.eq a.0.value.value b.0.value.value, (λ a b. equal_inline a.0.value.value b.0.value.value, tt)),
)

abbrev equal_opened : Opened → Opened → Bool
equal_opened x y = by false false selection_type.the_parts each_selection (block.split-Selection members x) (block.split-Selection members y)

opened_are : (x y : Opened) → IsTrue (equal_opened x y) → EqualOpened x y
opened_are (selection_open.Field a) (selection_open.Field b) h = h
opened_are (selection_open.FragmentSpread a) (selection_open.FragmentSpread b) h = h
opened_are (selection_open.InlineFragment a) (selection_open.InlineFragment b) h = h
opened_are _ _ h = absurd (let no : ⊥ = cc in no)

opened_from : (x y : Opened) → EqualOpened x y → IsTrue (equal_opened x y)
opened_from (selection_open.Field a) (selection_open.Field b) h = h
opened_from (selection_open.FragmentSpread a) (selection_open.FragmentSpread b) h = h
opened_from (selection_open.InlineFragment a) (selection_open.InlineFragment b) h = h
opened_from _ _ h = absurd h

selection_opened : (a b : Selection) → IsTrue (equal_selections a b) → EqualOpened (out-Selection a) (out-Selection b)
selection_opened a b h = opened_are (out-Selection a) (out-Selection b) (by_parts block.member-Selection a b h)

selection_closed : (a b : Selection) (x y : Opened) → out-Selection a ≡ x → out-Selection b ≡ y → EqualOpened x y → IsTrue (equal_selections a b)
selection_closed a b x y ea eb h =
    from_parts block.member-Selection a b
    (opened_from (out-Selection a) (out-Selection b) (subst (λ z. EqualOpened z (out-Selection b)) (sym ea) (subst (EqualOpened x) (sym eb) h)))

-- what is equal to each of these has the same contents
abbrev FieldFollows : Field → Type 0
FieldFollows a = (b : Field) → IsTrue (equal_fields a b) → SameField a b

abbrev InlineFollows : InlineFragment → Type 0
InlineFollows a = (b : InlineFragment) → IsTrue (equal_inline a b) → SameInlineFragment a b

abbrev SetFollows : SelectionSet → Type 0
SetFollows a = (b : SelectionSet) → IsTrue (equal_sets a b) → SameSelectionSet a b

abbrev SelectionFollows : Selection → Type 0
SelectionFollows a = (b : Selection) (xs ys : List Selection) → IsTrue (equal_selections a b) → SameSelections xs ys → SameSelections (a ∷ xs) (b ∷ ys)

field_from_set : (a : Field) → SetFollows a.selection_set → FieldFollows a
field_from_set a set b h =
    let parts = field_parts a b h in
    same_contents_of_field ((equality_of_field_definitions a.definition.value.value b.definition.value.value).0 parts.definition)
    ((aliases_are a.alias b.alias).0 parts.alias) parts.name
    ((arguments_are a.arguments.items b.arguments.items).0 parts.arguments)
    ((directives_are a.directives.items b.directives.items).0 parts.directives)
    (set b.selection_set parts.set)

inline_from_set : (a : InlineFragment) → SetFollows a.selection_set → InlineFollows a
inline_from_set a set b h =
    let parts = inline_parts a b h in
    same_contents_of_inline_fragment ((aliases_are a.type_condition b.type_condition).0 parts.type_condition)
    ((directives_are a.directives.items b.directives.items).0 parts.directives)
    (set b.selection_set parts.set)

selections_follow : (xs ys : List Selection) → All SelectionFollows xs → IsTrue (pointwise equal_selections xs ys) → SameSelections xs ys
selections_follow [] [] all h = no_selections
selections_follow [] (y ∷ ys) all h = absurd (let no : ⊥ = cc in no)
selections_follow (x ∷ xs) [] all h = absurd (let no : ⊥ = cc in no)
selections_follow (x ∷ xs) (y ∷ ys) all h =
    let parts = both (equal_selections x y) (pointwise equal_selections xs ys) h in
    All-head SelectionFollows x xs all y xs ys parts.0 (selections_follow xs ys (All-tail SelectionFollows x xs all) parts.1)

set_from_selections : (a : SelectionSet) → All SelectionFollows a.selections.items → SetFollows a
set_from_selections a all b h =
    let parts = set_parts a b h in
    same_contents_of_set parts.0 (selections_follow a.selections.items b.selections.items all parts.1)

abbrev KeptSelection : Type 0
KeptSelection = denote.Hole.Holds.Such block.the_family (folds.claims SelectionFollows FieldFollows InlineFollows SetFollows) block.member-Selection

abbrev KeptField : Type 0
KeptField = denote.Hole.Holds.Such block.the_family (folds.claims SelectionFollows FieldFollows InlineFollows SetFollows) block.member-Field

abbrev KeptInline : Type 0
KeptInline = denote.Hole.Holds.Such block.the_family (folds.claims SelectionFollows FieldFollows InlineFollows SetFollows) block.member-InlineFragment

abbrev KeptSet : Type 0
KeptSet = denote.Hole.Holds.Such block.the_family (folds.claims SelectionFollows FieldFollows InlineFollows SetFollows) block.member-SelectionSet

abbrev kept_opened : selection_open.Selection-F KeptSelection KeptField KeptInline KeptSet → Opened
kept_opened y = folds.map-Selection KeptSelection KeptField KeptInline KeptSet Selection Field InlineFragment SelectionSet (λ e. e.0) (λ e. e.0) (λ e. e.0) (λ e. e.0) y

opened_follows : (y : selection_open.Selection-F KeptSelection KeptField KeptInline KeptSet) (z : Opened) → EqualOpened (kept_opened y) z →
    (xs ys : List Selection) → SameSelections xs ys → SameSelections (roll-Selection (kept_opened y) ∷ xs) (roll-Selection z ∷ ys)
opened_follows (selection_open.Field a) (selection_open.Field b) h xs ys more =
    rw (kind.rolls-Field _, kind.rolls-Field b) (next_field _ b (a.value.value.1 b.value.value h) more)
opened_follows (selection_open.FragmentSpread a) (selection_open.FragmentSpread b) h xs ys more =
    rw (kind.rolls-FragmentSpread a, kind.rolls-FragmentSpread b) (next_fragment_spread a b ((equality_of_spreads a.value.value b.value.value).0 h) more)
opened_follows (selection_open.InlineFragment a) (selection_open.InlineFragment b) h xs ys more =
    rw (kind.rolls-InlineFragment _, kind.rolls-InlineFragment b) (next_inline_fragment _ b (a.value.value.1 b.value.value h) more)
opened_follows _ _ h xs ys more = absurd h

-- the steps of the induction over selections, fields, inline fragments and sets
step_selection : (x : selection_open.Selection-F Selection Field InlineFragment SelectionSet) (y : selection_open.Selection-F KeptSelection KeptField KeptInline KeptSet) → kept_opened y ≡ x → SelectionFollows (roll-Selection x)
step_selection x y e b xs ys h more =
    let here = selection_opened (roll-Selection x) b h in
    subst (λ z. SameSelections (roll-Selection z ∷ xs) (b ∷ ys)) e
    (subst (λ z. SameSelections (roll-Selection (kept_opened y) ∷ xs) (z ∷ ys)) (roll-out-Selection b)
    (opened_follows y (out-Selection b) (subst (λ z. EqualOpened z (out-Selection b)) (out-roll-Selection x ∙ sym e) here) xs ys more))

step_field : (x : selection_open.Field-F Selection Field InlineFragment SelectionSet) (y : selection_open.Field-F KeptSelection KeptField KeptInline KeptSet) →
    folds.map-Field KeptSelection KeptField KeptInline KeptSet Selection Field InlineFragment SelectionSet (λ e. e.0) (λ e. e.0) (λ e. e.0) (λ e. e.0) y ≡ x → FieldFollows (roll-Field x)
step_field x y e = field_from_set (roll-Field x) (subst (λ z. SetFollows (roll-Field z).selection_set) e y.selection_set.1)

step_inline : (x : selection_open.InlineFragment-F Selection Field InlineFragment SelectionSet) (y : selection_open.InlineFragment-F KeptSelection KeptField KeptInline KeptSet) →
    folds.map-InlineFragment KeptSelection KeptField KeptInline KeptSet Selection Field InlineFragment SelectionSet (λ e. e.0) (λ e. e.0) (λ e. e.0) (λ e. e.0) y ≡ x → InlineFollows (roll-InlineFragment x)
step_inline x y e = inline_from_set (roll-InlineFragment x) (subst (λ z. SetFollows (roll-InlineFragment z).selection_set) e y.selection_set.1)

step_set : (x : selection_open.SelectionSet-F Selection Field InlineFragment SelectionSet) (y : selection_open.SelectionSet-F KeptSelection KeptField KeptInline KeptSet) →
    folds.map-SelectionSet KeptSelection KeptField KeptInline KeptSet Selection Field InlineFragment SelectionSet (λ e. e.0) (λ e. e.0) (λ e. e.0) (λ e. e.0) y ≡ x → SetFollows (roll-SelectionSet x)
step_set x y e = set_from_selections (roll-SelectionSet x) (subst (λ z. All SelectionFollows (roll-SelectionSet z).selections.items) e
    (All-map SelectionFollows (λ (k : KeptSelection). k.0) y.selections.items (λ k d in'. (get_or y.selections.items k d).1)))

field_follows : (a : Field) → FieldFollows a
field_follows = folds.ind-Field SelectionFollows FieldFollows InlineFollows SetFollows step_selection step_field step_inline step_set

mutual
  same_field_is_equal : {a b : Field} → SameField a b → IsTrue (equal_fields a b)
  same_field_is_equal (same_contents_of_field {a = a} {b = b} definition alias name arguments directives set) = field_from_parts a b (record {
    definition = (equality_of_field_definitions a.definition.value.value b.definition.value.value).1 definition;
    alias = (aliases_are a.alias b.alias).1 alias;
    name = name;
    arguments = (arguments_are a.arguments.items b.arguments.items).1 arguments;
    directives = (directives_are a.directives.items b.directives.items).1 directives;
    set = same_set_is_equal set;
  })

  same_inline_is_equal : {a b : InlineFragment} → SameInlineFragment a b → IsTrue (equal_inline a b)
  same_inline_is_equal (same_contents_of_inline_fragment {a = a} {b = b} condition directives set) = inline_from_parts a b (record {
    type_condition = (aliases_are a.type_condition b.type_condition).1 condition;
    directives = (directives_are a.directives.items b.directives.items).1 directives;
    set = same_set_is_equal set;
  })

  same_set_is_equal : {a b : SelectionSet} → SameSelectionSet a b → IsTrue (equal_sets a b)
  same_set_is_equal (same_contents_of_set {a = a} {b = b} ty selections) = set_from_parts a b ty (same_selections_are_equal selections)

  same_selections_are_equal : {xs ys : List Selection} → SameSelections xs ys → IsTrue (pointwise equal_selections xs ys)
  same_selections_are_equal no_selections = refl
  same_selections_are_equal (next_field a b {xs = xs} {ys = ys} same more) =
      and (equal_selections (kind.Field a) (kind.Field b)) (pointwise equal_selections xs ys)
      (selection_closed _ _ _ _ (kind.outs-Field a) (kind.outs-Field b) (same_field_is_equal same)) (same_selections_are_equal more)
  same_selections_are_equal (next_fragment_spread a b {xs = xs} {ys = ys} same more) =
      and (equal_selections (kind.FragmentSpread a) (kind.FragmentSpread b)) (pointwise equal_selections xs ys)
      (selection_closed _ _ _ _ (kind.outs-FragmentSpread a) (kind.outs-FragmentSpread b) ((equality_of_spreads a.value.value b.value.value).1 same)) (same_selections_are_equal more)
  same_selections_are_equal (next_inline_fragment a b {xs = xs} {ys = ys} same more) =
      and (equal_selections (kind.InlineFragment a) (kind.InlineFragment b)) (pointwise equal_selections xs ys)
      (selection_closed _ _ _ _ (kind.outs-InlineFragment a) (kind.outs-InlineFragment b) (same_inline_is_equal same)) (same_selections_are_equal more)

pub equality_of_fields : (a b : Field) → IsTrue (field_impl.ghosts.eq a b) ↔ SameField a b
equality_of_fields a b = (field_follows a b, same_field_is_equal)

selection_follows : (a : Selection) → SelectionFollows a
selection_follows = folds.ind-Selection SelectionFollows FieldFollows InlineFollows SetFollows step_selection step_field step_inline step_set

lone_selections_are_equal : (a b : Selection) → IsTrue (pointwise equal_selections (a ∷ []) (b ∷ [])) → IsTrue (equal_selections a b)
lone_selections_are_equal a b h = (both (equal_selections a b) true h).0

-- two selections are equal exactly where the lists of them alone have the same selections
pub equality_of_selections : (a b : Selection) → IsTrue (selection_impl.ghosts.eq a b) ↔ SameSelections (a ∷ []) (b ∷ [])
equality_of_selections a b = (
  λ h. selection_follows a b [] [] h no_selections,
  λ h. lone_selections_are_equal a b (same_selections_are_equal h),
)
