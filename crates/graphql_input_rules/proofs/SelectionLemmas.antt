-- The values that a selection writes, kind by kind, and those of a set.
use Rattle.std.proofs.Common.{◌≡◌, ◌↔◌, List, [], refl, sym, subst, Contains}
use Rattle.std.specs.Prelude.{Any, Result}
use mathlib.Core.Logic.{inl, inr}
use Rattle.graphql_nodes.specs.declared.nodes.Node.{Node}
use Rattle.graphql_documents.proofs.SelectionLemmas.{not_inline, not_spread, same_field, same_inline, spread_not_inline}
use Rattle.graphql_documents.specs.Selections.{SetWritten, arguments_of, directives_of, selections_of, set_in_field, set_in_inline_fragment, set_itself}
use Rattle.graphql_documents.specs.declared.documents.executables.Field.{Field}
use Rattle.graphql_documents.specs.declared.documents.executables.FragmentSpread.{FragmentSpread}
use Rattle.graphql_documents.specs.declared.documents.executables.InlineFragment.{InlineFragment}
use Rattle.graphql_documents.specs.declared.documents.executables.Selection.TheVariants as kind
use Rattle.graphql_documents.specs.declared.documents.executables.Selection.{Selection}
use Rattle.graphql_documents.specs.declared.documents.executables.SelectionSet.{SelectionSet}
use Rattle.graphql_documents.specs.declared.documents.values.Value.{Value}
use Rattle.graphql_documents.specs.declared.documents.values.Value.TheVariants as literal
use Rattle.graphql_input_rules.specs.declared.reports.InputFieldRepetition.{InputFieldRepetition}
use Rattle.graphql_input_rules.proofs.PlaceLemmas.{Among, Checked, Reported, in_places, reported_in}
use Rattle.graphql_variables.proofs.UseLemmas.{any_has, has_any, none_in_none}
use Rattle.graphql_input_rules.specs.Selections.{FieldWrites, InlineFragmentWrites, SelectionWrites, below_field, below_inline_fragment, writes_itself}
use Rattle.graphql_input_rules.specs.ValuesWritten.{InArguments, InDirectives, SetWrites, WritesItself}

-- a set has what its selections write
from_set : {set inner : SelectionSet} → SetWritten set inner → (s : Selection) (v : Value) → Contains (selections_of inner) s → WritesItself s v →
    Any (λ s. SelectionWrites s v) (selections_of set)
from_set {set = set} set_itself s v stands w = has_any (λ s. SelectionWrites s v) (selections_of set) s stands (writes_itself w)
from_set {set = set} {inner = inner} (set_in_field {f = f} there deeper) s v stands w =
    has_any (λ s. SelectionWrites s v) (selections_of set) (kind.Field f) there (below_field f refl (s, (inner, deeper, stands), w))
from_set {set = set} {inner = inner} (set_in_inline_fragment {i = i} there deeper) s v stands w =
    has_any (λ s. SelectionWrites s v) (selections_of set) (kind.InlineFragment i) there (below_inline_fragment i refl (s, (inner, deeper, stands), w))

to_set : (set : SelectionSet) (s : Selection) (v : Value) → Contains (selections_of set) s → SelectionWrites s v → SetWrites set v
to_set set s v stands (writes_itself w) = (s, (set, set_itself, stands), w)
to_set set s v stands (below_field f e (x, (inner, deeper, there), w)) =
    (x, (inner, set_in_field {f = f} (subst (Contains (selections_of set)) e stands) deeper, there), w)
to_set set s v stands (below_inline_fragment i e (x, (inner, deeper, there), w)) =
    (x, (inner, set_in_inline_fragment {i = i} (subst (Contains (selections_of set)) e stands) deeper, there), w)

pub set_words : (set : SelectionSet) (v : Value) → Any (λ s. SelectionWrites s v) (selections_of set) ↔ SetWrites set v
set_words set v = (
  λ any. let h = any_has (λ s. SelectionWrites s v) (selections_of set) any in to_set set h.0 v h.1 h.2,
  λ (s, (inner, deeper, stands), w). from_set deeper s v stands w,
)

pub set_checked : {T E : Type 0} (r : Result T E) (set : SelectionSet) (old new : List InputFieldRepetition) →
    Checked r (Among SelectionWrites (selections_of set)) old new → Checked r (SetWrites set) old new
set_checked r set old new c =
    in_places r (Among SelectionWrites (selections_of set)) (SetWrites set) old new (λ v w. (set_words set v).0 w) (λ e w. (set_words set (literal.Object e)).1 w) c

pub set_reported : (set : SelectionSet) (old new : List InputFieldRepetition) →
    Reported (Among SelectionWrites (selections_of set)) old new → Reported (SetWrites set) old new
set_reported set old new c =
    reported_in (Among SelectionWrites (selections_of set)) (SetWrites set) old new (λ v w. (set_words set v).0 w) (λ e w. (set_words set (literal.Object e)).1 w) c

-- the arguments and directives of each kind
field_arguments : (f : Node Field) → arguments_of (kind.Field f) ≡ f.value.value.arguments.items
field_arguments f = rw (kind.outs-Field f, arguments_of) refl

field_directives : (f : Node Field) → directives_of (kind.Field f) ≡ f.value.value.directives.items
field_directives f = rw (kind.outs-Field f, directives_of) refl

spread_directives : (p : Node FragmentSpread) → directives_of (kind.FragmentSpread p) ≡ p.value.value.directives.items
spread_directives p = rw (kind.outs-FragmentSpread p, directives_of) refl

inline_directives : (i : Node InlineFragment) → directives_of (kind.InlineFragment i) ≡ i.value.value.directives.items
inline_directives i = rw (kind.outs-InlineFragment i, directives_of) refl

nothing_in_spread : (p : Node FragmentSpread) (v : Value) → ¬ InArguments (arguments_of (kind.FragmentSpread p)) v
nothing_in_spread p v w =
    let none : arguments_of (kind.FragmentSpread p) ≡ [] = rw (kind.outs-FragmentSpread p, arguments_of) refl in
    none_in_none _ (subst (λ l. InArguments l v) none w)

nothing_in_inline : (i : Node InlineFragment) (v : Value) → ¬ InArguments (arguments_of (kind.InlineFragment i)) v
nothing_in_inline i v w =
    let none : arguments_of (kind.InlineFragment i) ≡ [] = rw (kind.outs-InlineFragment i, arguments_of) refl in
    none_in_none _ (subst (λ l. InArguments l v) none w)

pub field_words : (f : Node Field) (v : Value) → FieldWrites f.value.value v ↔ SelectionWrites (kind.Field f) v
field_words f v = (forth, back) where
  forth : FieldWrites f.value.value v → SelectionWrites (kind.Field f) v
  forth (inl w) = writes_itself (inl (subst (λ l. InArguments l v) (sym (field_arguments f)) w))
  forth (inr (inl w)) = writes_itself (inr (subst (λ l. InDirectives l v) (sym (field_directives f)) w))
  forth (inr (inr w)) = below_field f refl w

  back : SelectionWrites (kind.Field f) v → FieldWrites f.value.value v
  back (writes_itself (inl w)) = inl (subst (λ l. InArguments l v) (field_arguments f) w)
  back (writes_itself (inr w)) = inr (inl (subst (λ l. InDirectives l v) (field_directives f) w))
  back (below_field g e w) = inr (inr (subst (λ (x : Node Field). SetWrites x.value.value.selection_set v) (sym (same_field g f e)) w))
  back (below_inline_fragment i e w) = absurd (not_inline f i (sym e))

pub spread_words : (p : Node FragmentSpread) (v : Value) → InDirectives p.value.value.directives.items v ↔ SelectionWrites (kind.FragmentSpread p) v
spread_words p v = (λ w. writes_itself (inr (subst (λ l. InDirectives l v) (sym (spread_directives p)) w)), back) where
  back : SelectionWrites (kind.FragmentSpread p) v → InDirectives p.value.value.directives.items v
  back (writes_itself (inl w)) = absurd (nothing_in_spread p v w)
  back (writes_itself (inr w)) = subst (λ l. InDirectives l v) (spread_directives p) w
  back (below_field f e w) = absurd (not_spread f p e)
  back (below_inline_fragment i e w) = absurd (spread_not_inline i p e)

pub inline_words : (i : Node InlineFragment) (v : Value) → InlineFragmentWrites i.value.value v ↔ SelectionWrites (kind.InlineFragment i) v
inline_words i v = (forth, back) where
  forth : InlineFragmentWrites i.value.value v → SelectionWrites (kind.InlineFragment i) v
  forth (inl w) = writes_itself (inr (subst (λ l. InDirectives l v) (sym (inline_directives i)) w))
  forth (inr w) = below_inline_fragment i refl w

  back : SelectionWrites (kind.InlineFragment i) v → InlineFragmentWrites i.value.value v
  back (writes_itself (inl w)) = absurd (nothing_in_inline i v w)
  back (writes_itself (inr w)) = inl (subst (λ l. InDirectives l v) (inline_directives i) w)
  back (below_field f e w) = absurd (not_inline f i e)
  back (below_inline_fragment j e w) = inr (subst (λ (x : Node InlineFragment). SetWrites x.value.value.selection_set v) (sym (same_inline i j e)) w)
