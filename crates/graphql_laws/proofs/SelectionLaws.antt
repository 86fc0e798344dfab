-- What is inside a selection set and below it.
use Rattle.std.proofs.Common.{◌≡◌, List, [], ◌∷◌, Option, Some, None, refl, subst, Contains}
use Rattle.graphql_nodes.specs.Names.{NameText}
use Rattle.graphql_documents.specs.Selections.{Fragments, selections_of, Includes, includes_itself, includes_inline_fragment, includes_spread, InExpandedSet, Reachable, reachable_inside, reachable_below, definition_at, IsSubselectionParent, parent_unknown, parent_known, ReachableOn, standing_at, reachable_in_field, reachable_in_inline_fragment, reachable_in_spread}
use Rattle.graphql_nodes.specs.declared.nodes.Node.{Node}
use Rattle.graphql_documents.specs.declared.documents.schemas.Schema.{Schema}
use Rattle.graphql_documents.specs.declared.documents.executables.Selection.{Selection}
use Rattle.graphql_documents.specs.declared.documents.executables.Selection.TheVariants as kind
use Rattle.graphql_documents.specs.declared.documents.executables.SelectionSet.{SelectionSet}
use Rattle.graphql_documents.specs.declared.documents.executables.Field.{Field}
use Rattle.graphql_documents.proofs.ListLemmas.{only_one}
use Rattle.graphql_documents.proofs.SelectionLemmas.{not_inline, not_spread, same_field}

pub below_a_field : (fragments : Fragments) (set : SelectionSet) (f : Node Field) (s : Selection) →
    Contains (selections_of set) (kind.Field f) → InExpandedSet fragments f.value.value.selection_set s → Reachable fragments set s
below_a_field fragments set f s stands inside = reachable_below (set, includes_itself, stands) (reachable_inside inside)

pub only_fields_inside : (fragments : Fragments) (set : SelectionSet) (s : Selection) →
    ((t : Selection) → Contains (selections_of set) t → (f : Node Field) × (t ≡ kind.Field f)) →
    InExpandedSet fragments set s → Contains (selections_of set) s
only_fields_inside fragments set s fields (inner, included, stands) = under included fields stands where
  under : {outer inner : SelectionSet} → Includes fragments outer inner →
      ((t : Selection) → Contains (selections_of outer) t → (f : Node Field) × (t ≡ kind.Field f)) →
      Contains (selections_of inner) s → Contains (selections_of outer) s
  under includes_itself fields stands = stands
  under (includes_inline_fragment {i = i} there more) fields stands =
      let f = fields (kind.InlineFragment i) there in absurd (not_inline f.0 i f.1)
  under (includes_spread {p = p} there is more) fields stands =
      let f = fields (kind.FragmentSpread p) there in absurd (not_spread f.0 p f.1)

-- below a field that its known type lacks there is no place
nothing_below : {schema : Option Schema} {parent : Option NameText} {field : NameText} {below : Option NameText} →
    IsSubselectionParent schema parent field below → (t : NameText) → parent ≡ Some t → definition_at schema parent field ≡ None → ⊥
nothing_below parent_unknown t known lacks = let h : ⊥ = cc in h
nothing_below (parent_known {d = d} found) t known lacks = let h : ⊥ = cc in h

-- where a field is all there is, there is no other selection
OnlyHas : List Selection → Node Field → Type 0
OnlyHas selections f = (x : Selection) → Contains selections x → x ≡ kind.Field f

at_most : {schema : Option Schema} {fragments : Fragments} {parent here : Option NameText} {selections : List Selection} {s : Selection} →
    ReachableOn schema fragments parent selections s here → (t : NameText) (f : Node Field) → parent ≡ Some t → OnlyHas selections f →
    definition_at schema (Some t) f.value.value.name ≡ None → Contains selections s
unfolding OnlyHas
at_most (standing_at stands) t f known only lacks = stands
at_most (reachable_in_field g stands below more) t f known only lacks =
    let same : g ≡ f = same_field f g (only (kind.Field g) stands) in
    absurd (nothing_below below t known (rw (same, known) lacks))
at_most (reachable_in_inline_fragment i stands more) t f known only lacks = absurd (not_inline f i (only (kind.InlineFragment i) stands))
at_most (reachable_in_spread {p = p} d stands is more) t f known only lacks = absurd (not_spread f p (only (kind.FragmentSpread p) stands))

pub nothing_reachable_below : (schema : Option Schema) (fragments : Fragments) (t : NameText) (set : SelectionSet) (f : Node Field) (s : Selection) (here : Option NameText) →
    selections_of set ≡ kind.Field f ∷ [] → definition_at schema (Some t) f.value.value.name ≡ None →
    ReachableOn schema fragments (Some t) (selections_of set) s here → Contains (selections_of set) s
unfolding OnlyHas
nothing_reachable_below schema fragments t set f s here only lacks reachable_on =
    at_most reachable_on t f refl (λ x in'. only_one (kind.Field f) x (subst (λ l. Contains l x) only in')) lacks
