-- What holds of selections at any depth, set by set and kind by kind; and what they spread.
use Rattle.std.proofs.Common.{◌≡◌, ◌↔◌, ◌∙◌, ap, refl, sym, subst, Contains}
use Rattle.std.specs.Prelude.{Any, ◌⊎◌}
use mathlib.Core.Logic.{inl, inr}
use Rattle.graphql_nodes.specs.declared.nodes.Node.{Node}
use Rattle.graphql_documents.proofs.SelectionLemmas.{not_inline, not_spread, same_field, same_inline, same_spread, spread_not_inline}
use Rattle.graphql_documents.specs.Selections.{SetWritten, selections_of, set_in_field, set_in_inline_fragment, set_itself}
use Rattle.graphql_documents.specs.declared.documents.executables.Field.{Field}
use Rattle.graphql_documents.specs.declared.documents.executables.FragmentSpread.{FragmentSpread}
use Rattle.graphql_documents.specs.declared.documents.executables.InlineFragment.{InlineFragment}
use Rattle.graphql_documents.specs.declared.documents.executables.Selection.TheVariants as kind
use Rattle.graphql_documents.specs.declared.documents.executables.Selection.{Selection}
use Rattle.graphql_documents.specs.declared.documents.executables.SelectionSet.{SelectionSet}
use Rattle.graphql_variables.proofs.UseLemmas.{any_has, has_any}
use Rattle.graphql_reach.specs.Written.{SelectionHas, SetHas, has_below_field, has_below_inline_fragment, has_itself}
use Rattle.graphql_nodes.specs.Names.{NameText}
use Rattle.graphql_reach.specs.Reached.{SpreadsName}

module _ {X : Type 0} (Itself : Selection → X → Type 0) where
  -- a set has what its selections have
  from_set : {set inner : SelectionSet} → SetWritten set inner → (s : Selection) (x : X) → Contains (selections_of inner) s → Itself s x →
      Any (λ s. SelectionHas Itself s x) (selections_of set)
  from_set {set = set} set_itself s x stands w = has_any (λ s. SelectionHas Itself s x) (selections_of set) s stands (has_itself w)
  from_set {set = set} {inner = inner} (set_in_field {f = f} there deeper) s x stands w =
      has_any (λ s. SelectionHas Itself s x) (selections_of set) (kind.Field f) there (has_below_field f refl (s, (inner, deeper, stands), w))
  from_set {set = set} {inner = inner} (set_in_inline_fragment {i = i} there deeper) s x stands w =
      has_any (λ s. SelectionHas Itself s x) (selections_of set) (kind.InlineFragment i) there (has_below_inline_fragment i refl (s, (inner, deeper, stands), w))

  to_set : (set : SelectionSet) (s : Selection) (x : X) → Contains (selections_of set) s → SelectionHas Itself s x → SetHas Itself set x
  to_set set s x stands (has_itself w) = (s, (set, set_itself, stands), w)
  to_set set s x stands (has_below_field f e (y, (inner, deeper, there), w)) =
      (y, (inner, set_in_field {f = f} (subst (Contains (selections_of set)) e stands) deeper, there), w)
  to_set set s x stands (has_below_inline_fragment i e (y, (inner, deeper, there), w)) =
      (y, (inner, set_in_inline_fragment {i = i} (subst (Contains (selections_of set)) e stands) deeper, there), w)

  pub set_words : (set : SelectionSet) (x : X) → Any (λ s. SelectionHas Itself s x) (selections_of set) ↔ SetHas Itself set x
  set_words set x = (
    λ any. let h = any_has (λ s. SelectionHas Itself s x) (selections_of set) any in to_set set h.0 x h.1 h.2,
    λ (s, (inner, deeper, stands), w). from_set deeper s x stands w,
  )

  -- each kind
  from_field : (f : Node Field) (x : X) → SelectionHas Itself (kind.Field f) x → Itself (kind.Field f) x ⊎ SetHas Itself f.value.value.selection_set x
  from_field f x (has_itself w) = inl w
  from_field f x (has_below_field g e w) = inr (subst (λ (h : Node Field). SetHas Itself h.value.value.selection_set x) (sym (same_field g f e)) w)
  from_field f x (has_below_inline_fragment i e w) = absurd (not_inline f i (sym e))

  to_field : (f : Node Field) (x : X) → Itself (kind.Field f) x ⊎ SetHas Itself f.value.value.selection_set x → SelectionHas Itself (kind.Field f) x
  to_field f x (inl w) = has_itself w
  to_field f x (inr w) = has_below_field f refl w

  pub in_field : (f : Node Field) (x : X) → (Itself (kind.Field f) x ⊎ SetHas Itself f.value.value.selection_set x) ↔ SelectionHas Itself (kind.Field f) x
  in_field f x = (to_field f x, from_field f x)

  from_spread : (p : Node FragmentSpread) (x : X) → SelectionHas Itself (kind.FragmentSpread p) x → Itself (kind.FragmentSpread p) x
  from_spread p x (has_itself w) = w
  from_spread p x (has_below_field f e w) = absurd (not_spread f p e)
  from_spread p x (has_below_inline_fragment i e w) = absurd (spread_not_inline i p e)

  pub in_spread : (p : Node FragmentSpread) (x : X) → Itself (kind.FragmentSpread p) x ↔ SelectionHas Itself (kind.FragmentSpread p) x
  in_spread p x = (λ w. has_itself w, from_spread p x)

  from_inline : (i : Node InlineFragment) (x : X) → SelectionHas Itself (kind.InlineFragment i) x → Itself (kind.InlineFragment i) x ⊎ SetHas Itself i.value.value.selection_set x
  from_inline i x (has_itself w) = inl w
  from_inline i x (has_below_field f e w) = absurd (not_inline f i e)
  from_inline i x (has_below_inline_fragment j e w) =
      inr (subst (λ (h : Node InlineFragment). SetHas Itself h.value.value.selection_set x) (sym (same_inline i j e)) w)

  to_inline : (i : Node InlineFragment) (x : X) → Itself (kind.InlineFragment i) x ⊎ SetHas Itself i.value.value.selection_set x → SelectionHas Itself (kind.InlineFragment i) x
  to_inline i x (inl w) = has_itself w
  to_inline i x (inr w) = has_below_inline_fragment i refl w

  pub in_inline : (i : Node InlineFragment) (x : X) → (Itself (kind.InlineFragment i) x ⊎ SetHas Itself i.value.value.selection_set x) ↔ SelectionHas Itself (kind.InlineFragment i) x
  in_inline i x = (to_inline i x, from_inline i x)

-- the spreads of each kind
pub field_spreads : (f : Node Field) (name : NameText) → SetHas SpreadsName f.value.value.selection_set name ↔ SelectionHas SpreadsName (kind.Field f) name
field_spreads f name = (λ w. (in_field SpreadsName f name).0 (inr w), λ w. back ((in_field SpreadsName f name).1 w)) where
  back : SpreadsName (kind.Field f) name ⊎ SetHas SpreadsName f.value.value.selection_set name → SetHas SpreadsName f.value.value.selection_set name
  back (inl (p, e, is)) = absurd (not_spread f p (sym e))
  back (inr w) = w

pub inline_spreads : (i : Node InlineFragment) (name : NameText) → SetHas SpreadsName i.value.value.selection_set name ↔ SelectionHas SpreadsName (kind.InlineFragment i) name
inline_spreads i name = (λ w. (in_inline SpreadsName i name).0 (inr w), λ w. back ((in_inline SpreadsName i name).1 w)) where
  back : SpreadsName (kind.InlineFragment i) name ⊎ SetHas SpreadsName i.value.value.selection_set name → SetHas SpreadsName i.value.value.selection_set name
  back (inl (p, e, is)) = absurd (spread_not_inline i p (sym e))
  back (inr w) = w

pub spread_spreads : (p : Node FragmentSpread) (name : NameText) → (name ≡ p.value.value.fragment_name) ↔ SelectionHas SpreadsName (kind.FragmentSpread p) name
spread_spreads p name = (λ is. (in_spread SpreadsName p name).0 (p, refl, is), λ w. back ((in_spread SpreadsName p name).1 w)) where
  back : SpreadsName (kind.FragmentSpread p) name → name ≡ p.value.value.fragment_name
  back (q, e, is) = is ∙ ap (λ (x : Node FragmentSpread). x.value.value.fragment_name) (sym (same_spread p q e))
