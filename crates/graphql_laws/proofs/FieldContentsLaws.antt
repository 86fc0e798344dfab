-- What the equality of fields compares: the contents that merging asks about.
use Rattle.std.proofs.Common.{◌≡◌, Bool, true, false, List, [], ◌∷◌, Option, Some, None, inl, inr, refl, sym, ◌∙◌, ap, subst, Contains}
use Rattle.std.specs.Prelude.{IsTrue, unwrap_or}
use Rattle.std.specs.Cmp.{IsEquivalence}
use Rattle.std.specs.Option.{option_eq}
use Rattle.std.proofs.lemmas.List.Elements.{Contains-append_cases}
use denote.Enum.Compared.{Each, by}
use denote.Hole.Carrier.{Values}
use denote.Hole.Compared.{compared_is}
use lib.Pointwise.{pointwise}
use Rattle.graphql_nodes.specs.Names.{NameText, SameName, same_name}
use Rattle.graphql_documents.proofs.ValueContentLemmas.{equality_of_field_definitions}
use Rattle.graphql_documents.proofs.ContentLemmas.{equality_of_fields}
use Rattle.graphql_documents.specs.Contents.{SameField}
use Rattle.graphql_documents.specs.TypeReferences.{same_type}
use Rattle.graphql_documents.specs.Selections.{Fragments, Includes, includes_itself, includes_inline_fragment, includes_spread, fragments_of, selections_of}
use Rattle.graphql_specification.specs.Merging.{FieldInExpandedSet, FieldSelection, SameFields}
use Rattle.graphql_specification.specs.MergedSets.{AreAlike}
use Rattle.graphql_documents.specs.contracts.documents.directives.ArgumentPartialEq.TheImpl as argument_impl
use Rattle.graphql_documents.specs.contracts.documents.definitions.FieldDefinitionPartialEq.TheImpl as definition_impl
use Rattle.graphql_documents.specs.contracts.documents.executables.FieldPartialEq.TheImpl as field_impl
use Rattle.graphql_documents.specs.contracts.documents.executables.FieldPartialEq.TheImpl.Laws as field_laws
use Rattle.graphql_documents.specs.contracts.documents.executables.FieldEq.TheImpl.Laws as field_eq_laws
use Rattle.graphql_documents.specs.contracts.documents.executables.SelectionSetEq.TheImpl.Laws as set_eq_laws
use Rattle.graphql_documents.specs.contracts.documents.executables.FragmentSpreadPartialEq.TheImpl as spread_impl
use Rattle.graphql_documents.specs.contracts.documents.executables.Selection as selection_type
use Rattle.graphql_documents.specs.declared.documents.directives.Argument.{Argument}
use Rattle.graphql_documents.specs.declared.documents.definitions.FieldDefinition.{FieldDefinition}
use Rattle.graphql_documents.specs.declared.documents.executables.ExecutableDocument.{ExecutableDocument}
use Rattle.graphql_documents.specs.declared.documents.executables.Field.{Field}
use Rattle.graphql_documents.specs.declared.documents.executables.FragmentSpread.{FragmentSpread}
use Rattle.graphql_documents.specs.declared.documents.executables.InlineFragment.{InlineFragment}
use Rattle.graphql_documents.specs.declared.documents.executables.Selection.{Selection, out-Selection, roll-Selection, roll-out-Selection}
use Rattle.graphql_documents.specs.declared.documents.executables.Selection.TheBlock as block
use Rattle.graphql_documents.specs.declared.documents.executables.Selection.TheOpen as Open
use Rattle.graphql_documents.specs.declared.documents.executables.Selection.TheVariants as kind
use Rattle.graphql_documents.specs.declared.documents.executables.SelectionSet.{SelectionSet}
use Rattle.graphql_nodes.specs.declared.nodes.Node.{Node}
use Rattle.graphql_documents.proofs.ListLemmas.{none_stands, only_one, stands_first, stands_behind}
use Rattle.graphql_nodes.proofs.NameLemmas.{same_name_itself, same_name_back, same_name_then}
use Rattle.graphql_documents.proofs.SelectionLemmas.{one_fragment_found}
use Rattle.graphql_laws.specs.Equality.{field_equality}
use Rattle.graphql_laws.proofs.ValueContentsLaws.{both, equal_arguments_are_same}

-- ==== selections

abbrev family : block.the_members → Type 0
family = Values block.the_members block.the_sigs block.the_carrier

-- the equality of each kind of part, which goes by the parts of that
abbrev equal : (j : block.the_members) → family j → family j → Bool
equal = field_laws.family

by_parts : (j : block.the_members) (x y : family j) → IsTrue (equal j x y) → IsTrue (field_impl.the_step equal j x y)
by_parts j x y h = subst IsTrue (compared_is block.the_members family block.the_depth Bool true field_impl.the_step field_laws.local j x y) h

abbrev pub equal_spreads : FragmentSpread → FragmentSpread → Bool
equal_spreads = spread_impl.ghosts.eq

abbrev pub equal_inline : InlineFragment → InlineFragment → Bool
equal_inline = equal block.member-InlineFragment

abbrev pub equal_sets : SelectionSet → SelectionSet → Bool
equal_sets = equal block.member-SelectionSet

abbrev pub equal_selections : Selection → Selection → Bool
equal_selections = equal block.member-Selection

abbrev equal_arguments : Node Argument → Node Argument → Bool
equal_arguments x y = argument_impl.ghosts.eq x.value.value y.value.value

-- what is equal of two equal fields
record FieldParts (a b : Field) : Type 0 where
  definition : IsTrue (definition_impl.ghosts.eq a.definition.value.value b.definition.value.value)
  alias : IsTrue (option_eq same_name a.alias b.alias)
  name : SameName a.name b.name
  arguments : IsTrue (pointwise equal_arguments a.arguments.items b.arguments.items)
  set : IsTrue (equal_sets a.selection_set b.selection_set)

field_parts : (a b : Field) → IsTrue (field_equality a b) → FieldParts a b
field_parts a b h =
    let definition = both _ _ (by_parts block.member-Field a b h) in
    let alias = both _ _ definition.1 in
    let name = both _ _ alias.1 in
    let arguments = both _ _ name.1 in
    record { definition = definition.0; alias = alias.0; name = name.0; arguments = arguments.0; set = (both _ _ arguments.1).1 }

pub inline_sets : (a b : InlineFragment) → IsTrue (equal_inline a b) → IsTrue (equal_sets a.selection_set b.selection_set)
inline_sets a b h = (both _ _ (both _ _ (by_parts block.member-InlineFragment a b h)).1).1

pub set_parts : (a b : SelectionSet) → IsTrue (equal_sets a b) → SameName a.ty b.ty × IsTrue (pointwise equal_selections (selections_of a) (selections_of b))
set_parts a b h = both _ _ (by_parts block.member-SelectionSet a b h)

pub spread_names : (a b : FragmentSpread) → IsTrue (equal_spreads a b) → SameName a.fragment_name b.fragment_name
spread_names a b h = (both _ _ h).0

definition_types : (a b : FieldDefinition) → IsTrue (definition_impl.ghosts.eq a b) → IsTrue (same_type a.ty b.ty)
definition_types a b h = ((equality_of_field_definitions a b).0 h).ty

-- two selections of one kind
abbrev pub Opened : Type 0
Opened = Open.Selection-F Selection Field InlineFragment SelectionSet

abbrev pub EqualOpen : Opened → Opened → Type 0
EqualOpen (Open.Field a) (Open.Field b) = IsTrue (field_equality a.value.value b.value.value)
EqualOpen (Open.FragmentSpread a) (Open.FragmentSpread b) = IsTrue (equal_spreads a.value.value b.value.value)
EqualOpen (Open.InlineFragment a) (Open.InlineFragment b) = IsTrue (equal_inline a.value.value b.value.value)
EqualOpen _ _ = ⊥

abbrev each_kind : Each Bool selection_type.the_parts
each_kind = (
  λ a b. field_equality a.0.value.value b.0.value.value,
  (λ a b. equal_spreads a.0.value.value b.0.value.value, (λ a b. equal_inline a.0.value.value b.0.value.value, tt)),
)

equal_open : (x y : Opened) → IsTrue (by false false selection_type.the_parts each_kind (block.split-Selection family x) (block.split-Selection family y)) → EqualOpen x y
equal_open (Open.Field a) (Open.Field b) h = h
equal_open (Open.FragmentSpread a) (Open.FragmentSpread b) h = h
equal_open (Open.InlineFragment a) (Open.InlineFragment b) h = h
equal_open _ _ h = absurd (let no : ⊥ = cc in no)

pub opened : (a b : Selection) → IsTrue (equal_selections a b) → EqualOpen (out-Selection a) (out-Selection b)
opened a b h = equal_open (out-Selection a) (out-Selection b) (by_parts block.member-Selection a b h)

-- what is equal to a field is a field, and so with the others
pub is_field : (a : Node Field) (y : Selection) → IsTrue (equal_selections (kind.Field a) y) → (b : Node Field) × (y ≡ kind.Field b) × IsTrue (field_equality a.value.value b.value.value)
is_field a y h = at (out-Selection y) refl (subst (λ x. EqualOpen x (out-Selection y)) (kind.outs-Field a) (opened (kind.Field a) y h)) where
  at : (z : Opened) → out-Selection y ≡ z → EqualOpen (Open.Field a) z → (b : Node Field) × (y ≡ kind.Field b) × IsTrue (field_equality a.value.value b.value.value)
  at (Open.Field b) e h = (b, sym (roll-out-Selection y) ∙ ap roll-Selection e ∙ kind.rolls-Field b, h)
  at _ e h = absurd h

pub is_spread : (a : Node FragmentSpread) (y : Selection) → IsTrue (equal_selections (kind.FragmentSpread a) y) → (b : Node FragmentSpread) × (y ≡ kind.FragmentSpread b) × IsTrue (equal_spreads a.value.value b.value.value)
is_spread a y h = at (out-Selection y) refl (subst (λ x. EqualOpen x (out-Selection y)) (kind.outs-FragmentSpread a) (opened (kind.FragmentSpread a) y h)) where
  at : (z : Opened) → out-Selection y ≡ z → EqualOpen (Open.FragmentSpread a) z → (b : Node FragmentSpread) × (y ≡ kind.FragmentSpread b) × IsTrue (equal_spreads a.value.value b.value.value)
  at (Open.FragmentSpread b) e h = (b, sym (roll-out-Selection y) ∙ ap roll-Selection e ∙ kind.rolls-FragmentSpread b, h)
  at _ e h = absurd h

pub is_inline : (a : Node InlineFragment) (y : Selection) → IsTrue (equal_selections (kind.InlineFragment a) y) → (b : Node InlineFragment) × (y ≡ kind.InlineFragment b) × IsTrue (equal_inline a.value.value b.value.value)
is_inline a y h = at (out-Selection y) refl (subst (λ x. EqualOpen x (out-Selection y)) (kind.outs-InlineFragment a) (opened (kind.InlineFragment a) y h)) where
  at : (z : Opened) → out-Selection y ≡ z → EqualOpen (Open.InlineFragment a) z → (b : Node InlineFragment) × (y ≡ kind.InlineFragment b) × IsTrue (equal_inline a.value.value b.value.value)
  at (Open.InlineFragment b) e h = (b, sym (roll-out-Selection y) ∙ ap roll-Selection e ∙ kind.rolls-InlineFragment b, h)
  at _ e h = absurd h

-- what is in the one of two equal lists has its like in the other
in_other : {X : Type 0} (same : X → X → Bool) (xs ys : List X) → IsTrue (pointwise same xs ys) → (x : X) → Contains xs x → (y : X) × Contains ys y × IsTrue (same x y)
in_other same [] ys h x in_x = absurd (none_stands x in_x)
in_other same (u ∷ us) [] h x in_x = absurd (let no : ⊥ = cc in no)
in_other same (u ∷ us) (v ∷ vs) h x in_x =
    let parts = both (same u v) (pointwise same us vs) h in
    elim (Contains-append_cases (u ∷ []) us x in_x) [
      | inl here ↦ (v, stands_first v vs, subst (λ z. IsTrue (same z v)) (sym (only_one u x here)) parts.0)
      | inr behind ↦ let found = in_other same us vs parts.1 x behind in (found.0, stands_behind v vs found.0 found.1, found.2)
    ]

-- ==== the laws of the equality

is_equivalence : IsEquivalence field_equality
is_equivalence = field_eq_laws.laws-law

-- the sets of two equal fields are equal
pub field_sets : (a b : Field) → IsTrue (field_equality a b) → IsTrue (equal_sets a.selection_set b.selection_set)
field_sets a b h = (field_parts a b h).set

pub set_itself_equal : (a : SelectionSet) → IsTrue (equal_sets a a)
set_itself_equal a = set_eq_laws.laws-law.refl a

pub field_itself : (a : Field) → IsTrue (field_equality a a)
field_itself a = is_equivalence.refl a

pub field_back : (a b : Field) → IsTrue (field_equality a b) → IsTrue (field_equality b a)
field_back a b h = is_equivalence.symm b a ∙ h

pub field_then : (a b c : Field) → IsTrue (field_equality a b) → IsTrue (field_equality b c) → IsTrue (field_equality a c)
field_then a b c ab bc = is_equivalence.congr a b c ab ∙ bc

-- ==== what is inside two equal sets

module _ (fragments : Fragments) (respects : (a b : NameText) → SameName a b → fragments a ≡ fragments b) where
  -- a field inside the set that is equal, on a type of the same name
  abbrev HasLike : SelectionSet → NameText → Field → Type 0
  HasLike set parent f = (y : FieldSelection) × FieldInExpandedSet fragments set y × SameName parent y.parent × IsTrue (field_equality f y.field.value.value)

  into_set : (outer set : SelectionSet) (parent : NameText) (f : Field) → ((inner : SelectionSet) → Includes fragments set inner → Includes fragments outer inner) →
      HasLike set parent f → HasLike outer parent f
  into_set outer set parent f leads like = (
    like.0,
    record { inner = like.1.inner; included = leads like.1.inner like.1.included; stands = like.1.stands; parent_is = like.1.parent_is },
    like.2,
    like.3,
  )

  has_like : {set inner : SelectionSet} → Includes fragments set inner → (f : Node Field) → Contains (selections_of inner) (kind.Field f) →
      (other : SelectionSet) → IsTrue (equal_sets set other) → HasLike other inner.ty f.value.value
  has_like {set} includes_itself f stands other same =
      let parts = set_parts set other same in
      let found = in_other equal_selections (selections_of set) (selections_of other) parts.1 (kind.Field f) stands in
      let g = is_field f found.0 found.2 in (
        record { parent = other.ty; field = g.0 },
        record { inner = other; included = includes_itself; stands = subst (Contains (selections_of other)) g.1 found.1; parent_is = refl },
        parts.0,
        g.2,
      )
  has_like {set} {inner} (includes_inline_fragment {i = i} written more) f stands other same =
      let found = in_other equal_selections (selections_of set) (selections_of other) (set_parts set other same).1 (kind.InlineFragment i) written in
      let j = is_inline i found.0 found.2 in
      let there = subst (Contains (selections_of other)) j.1 found.1 in
      into_set other j.0.value.value.selection_set inner.ty f.value.value (λ s. includes_inline_fragment there)
      (has_like more f stands j.0.value.value.selection_set (inline_sets i.value.value j.0.value.value j.2))
  has_like {set} {inner} (includes_spread {p = p} {d = d} written finds more) f stands other same =
      let found = in_other equal_selections (selections_of set) (selections_of other) (set_parts set other same).1 (kind.FragmentSpread p) written in
      let q = is_spread p found.0 found.2 in
      let there = subst (Contains (selections_of other)) q.1 found.1 in
      let name = p.value.value.fragment_name in
      let named = q.0.value.value.fragment_name in
      let too : fragments named ≡ Some d = sym (respects name named (spread_names p.value.value q.0.value.value q.2)) ∙ finds in (
        record { parent = inner.ty; field = f },
        record { inner = inner; included = includes_spread there too more; stands = stands; parent_is = refl },
        same_name_itself inner.ty,
        field_itself f.value.value,
      )

  key_of_alias : (a b : Option NameText) (m n : NameText) → IsTrue (option_eq same_name a b) → SameName m n → SameName (unwrap_or a m) (unwrap_or b n)
  key_of_alias None None m n h same = same
  key_of_alias None (Some b) m n h same = absurd (let no : ⊥ = cc in no)
  key_of_alias (Some a) None m n h same = absurd (let no : ⊥ = cc in no)
  key_of_alias (Some a) (Some b) m n h same = h

  pub alike : (a b : Field) → SameField a b → AreAlike fragments a b
  alike a b same =
      let parts = field_parts a b ((equality_of_fields a b).1 same) in
      record {
        key = key_of_alias a.alias b.alias a.name b.name parts.alias parts.name;
        name_and_arguments = record { name = parts.name; arguments = equal_arguments_are_same a.arguments.items b.arguments.items parts.arguments };
        ty = definition_types a.definition.value.value b.definition.value.value parts.definition;
        inside = λ x here.
            let y = subst (λ parent. HasLike b.selection_set parent x.field.value.value) (sym here.parent_is)
            (has_like here.included x.field here.stands b.selection_set parts.set) in
            (y.0, y.1, y.2, (equality_of_fields x.field.value.value y.0.field.value.value).0 y.3);
      }

pub fields_alike : (document : ExecutableDocument) (a b : Field) → SameField a b → AreAlike (fragments_of document) a b
fields_alike document = alike (fragments_of document) (one_fragment_found document)

-- ==== the same contents

pub same_field_itself : (a : Field) → SameField a a
same_field_itself a = (equality_of_fields a a).0 (field_itself a)

pub same_field_back : (a b : Field) → SameField a b → SameField b a
same_field_back a b ab = (equality_of_fields b a).0 (field_back a b ((equality_of_fields a b).1 ab))

pub same_field_then : (a b c : Field) → SameField a b → SameField b c → SameField a c
same_field_then a b c ab bc = (equality_of_fields a c).0 (field_then a b c ((equality_of_fields a b).1 ab) ((equality_of_fields b c).1 bc))

-- ==== lists of fields

pub same_fields_itself : (xs : List FieldSelection) → SameFields xs xs
same_fields_itself [] = tt
same_fields_itself (x ∷ xs) = ((same_name_itself x.parent, same_field_itself x.field.value.value), same_fields_itself xs)

pub same_fields_back : (xs ys : List FieldSelection) → SameFields xs ys → SameFields ys xs
same_fields_back [] [] same = tt
same_fields_back [] (y ∷ ys) same = absurd same
same_fields_back (x ∷ xs) [] same = absurd same
same_fields_back (x ∷ xs) (y ∷ ys) same = (
  (same_name_back x.parent y.parent same.0.0, same_field_back x.field.value.value y.field.value.value same.0.1),
  same_fields_back xs ys same.1,
)

pub same_fields_then : (xs ys zs : List FieldSelection) → SameFields xs ys → SameFields ys zs → SameFields xs zs
same_fields_then [] [] zs first second = second
same_fields_then [] (y ∷ ys) zs first second = absurd first
same_fields_then (x ∷ xs) [] zs first second = absurd first
same_fields_then (x ∷ xs) (y ∷ ys) [] first second = absurd second
same_fields_then (x ∷ xs) (y ∷ ys) (z ∷ zs) first second = (
  (
    same_name_then x.parent y.parent z.parent first.0.0 second.0.0,
    same_field_then x.field.value.value y.field.value.value z.field.value.value first.0.1 second.0.1,
  ),
  same_fields_then xs ys zs first.1 second.1,
)
