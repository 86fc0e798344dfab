-- Places among selections: from wider lists, in more fragments, one after another, and through fragments that
-- were visited.
use Rattle.std.proofs.Common.{◌≡◌, ◌⊎◌, inl, inr, List, Bool, true, false, Option, Some, None, IsTrue, IsFalse, if◌then◌else◌, refl, subst, Contains}
use Rattle.std.proofs.lemmas.Option.{none-some}
use Rattle.graphql_nodes.specs.Names.{NameText, stands_on}
use Rattle.graphql_documents.specs.Selections.{Fragments, ReachableOn, reachable_in_field, reachable_in_inline_fragment, reachable_in_spread, selections_of, standing_at, type_under, without}
use Rattle.graphql_nodes.specs.declared.nodes.Node.{Node}
use Rattle.graphql_documents.specs.declared.documents.schemas.Schema.{Schema}
use Rattle.graphql_documents.specs.declared.documents.executables.Fragment.{Fragment}
use Rattle.graphql_documents.specs.declared.documents.executables.FragmentSpread.{FragmentSpread}
use Rattle.graphql_documents.specs.declared.documents.executables.Selection.{Selection}
use Rattle.graphql_documents.specs.declared.documents.executables.Selection.TheVariants as kind

-- a test is true or false
pub by_truth : (b : Bool) → IsTrue b ⊎ IsFalse b
by_truth true = inl refl
by_truth false = inr refl

-- under a condition the type does not depend on the type around
pub type_of_condition : (schema : Option Schema) (parent other : Option NameText) (condition : NameText) →
    type_under schema parent (Some condition) ≡ type_under schema other (Some condition)
type_of_condition None parent other condition = refl
type_of_condition (Some s) parent other condition = refl

left_out : {X : Type 0} (b : Bool) (o : Option X) (x : X) → (if b then None else o) ≡ Some x → IsFalse b × (o ≡ Some x)
left_out true o x e = absurd (none-some x e)
left_out false o x e = (refl, e)

not_left_out : {X : Type 0} (b : Bool) (o : Option X) (x : X) → IsFalse b → o ≡ Some x → (if b then None else o) ≡ Some x
not_left_out true o x is e = absurd (let no : ⊥ = cc in no)
not_left_out false o x is e = e

-- what is found without some fragments is none of them
pub found_without : (visited_fragments : List NameText) (fragments : Fragments) (name : NameText) (d : Node Fragment) →
    without visited_fragments fragments name ≡ Some d → IsFalse (stands_on visited_fragments name) × (fragments name ≡ Some d)
found_without visited_fragments fragments name d = left_out (stands_on visited_fragments name) (fragments name) d

pub stays_without : (visited_fragments : List NameText) (fragments : Fragments) (name : NameText) (d : Node Fragment) →
    IsFalse (stands_on visited_fragments name) → fragments name ≡ Some d → without visited_fragments fragments name ≡ Some d
stays_without visited_fragments fragments name d = not_left_out (stands_on visited_fragments name) (fragments name) d

module _ {schema : Option Schema} where
  -- from a list that has more
  pub reachable_wider : {fragments : Fragments} {parent here : Option NameText} {xs ys : List Selection} {s : Selection} →
      ((x : Selection) → Contains xs x → Contains ys x) →
      ReachableOn schema fragments parent xs s here → ReachableOn schema fragments parent ys s here
  reachable_wider more (standing_at in') = standing_at (more _ in')
  reachable_wider more (reachable_in_field f in' under p) = reachable_in_field f (more _ in') under p
  reachable_wider more (reachable_in_inline_fragment i in' p) = reachable_in_inline_fragment i (more _ in') p
  reachable_wider more (reachable_in_spread d in' found p) = reachable_in_spread d (more _ in') found p

  -- among more fragments
  pub reachable_among_more : {few many : Fragments} {parent here : Option NameText} {xs : List Selection} {s : Selection} →
      ((name : NameText) (d : Node Fragment) → few name ≡ Some d → many name ≡ Some d) →
      ReachableOn schema few parent xs s here → ReachableOn schema many parent xs s here
  reachable_among_more more (standing_at in') = standing_at in'
  reachable_among_more more (reachable_in_field f in' under p) = reachable_in_field f in' under (reachable_among_more more p)
  reachable_among_more more (reachable_in_inline_fragment i in' p) = reachable_in_inline_fragment i in' (reachable_among_more more p)
  reachable_among_more more (reachable_in_spread d in' found p) = reachable_in_spread d in' (more _ d found) (reachable_among_more more p)

  -- through a spread that is reached into its fragment
  pub reachable_through : {fragments : Fragments} {parent here at : Option NameText} {xs : List Selection} {t s : Selection} {p : Node FragmentSpread} (d : Node Fragment) →
      ReachableOn schema fragments parent xs t at → t ≡ kind.FragmentSpread p → fragments p.value.value.fragment_name ≡ Some d →
      ReachableOn schema fragments (type_under schema None (Some d.value.value.selection_set.ty)) (selections_of d.value.value.selection_set) s here →
      ReachableOn schema fragments parent xs s here
  reachable_through {fragments = fragments} {here = here} {s = s} d (standing_at {parent = parent} {selections = xs} in') is found below =
      reachable_in_spread d (subst (Contains xs) is in') found
      (subst (λ t. ReachableOn schema fragments t (selections_of d.value.value.selection_set) s here)
      (type_of_condition schema None parent d.value.value.selection_set.ty) below)
  reachable_through d (reachable_in_field f in' under p) is found below = reachable_in_field f in' under (reachable_through d p is found below)
  reachable_through d (reachable_in_inline_fragment i in' p) is found below = reachable_in_inline_fragment i in' (reachable_through d p is found below)
  reachable_through d (reachable_in_spread d' in' found' p) is found below = reachable_in_spread d' in' found' (reachable_through d p is found below)

-- it is reached from the fragment of a name that was visited meanwhile, and from there without going through
-- what was visited before and meanwhile
pub record ThroughVisited (schema : Option Schema) (fragments : Fragments) (old mid : List NameText) (s : Selection) (here : Option NameText) : Type 0 where
  pub name : NameText
  pub d : Node Fragment
  pub visited_fragments : IsTrue (stands_on mid name)
  pub fresh : IsFalse (stands_on old name)
  pub found : fragments name ≡ Some d
  pub reachable_on : ReachableOn schema (without mid fragments) (type_under schema None (Some d.value.value.selection_set.ty)) (selections_of d.value.value.selection_set) s here

-- what is reached without what was visited before is reached without what was visited meanwhile, or through
-- that
module _ {schema : Option Schema} {fragments : Fragments} (old mid : List NameText) where
  pub avoids_or_goes_through : {parent here : Option NameText} {xs : List Selection} {s : Selection} →
      ReachableOn schema (without old fragments) parent xs s here →
      ReachableOn schema (without mid fragments) parent xs s here ⊎ ThroughVisited schema fragments old mid s here
  avoids_or_goes_through (standing_at in') = inl (standing_at in')
  avoids_or_goes_through (reachable_in_field f in' under p) =
      elim (avoids_or_goes_through p) [ inl avoids ↦ inl (reachable_in_field f in' under avoids) | inr through ↦ inr through ]
  avoids_or_goes_through (reachable_in_inline_fragment i in' p) =
      elim (avoids_or_goes_through p) [ inl avoids ↦ inl (reachable_in_inline_fragment i in' avoids) | inr through ↦ inr through ]
  avoids_or_goes_through {parent = parent} {here = here} {s = s} (reachable_in_spread {p = p} d in' found rest) =
      let name = p.value.value.fragment_name in
      let is = found_without old fragments name d found in
      elim (avoids_or_goes_through rest) [
        | inl avoids ↦ elim (by_truth (stands_on mid name)) [
          | inl visited_fragments ↦ inr (record {
            name = name;
            d = d;
            visited_fragments = visited_fragments;
            fresh = is.0;
            found = is.1;
            reachable_on = subst (λ t. ReachableOn schema (without mid fragments) t (selections_of d.value.value.selection_set) s here)
                (type_of_condition schema parent None d.value.value.selection_set.ty) avoids;
          })
          | inr free ↦ inl (reachable_in_spread d in' (stays_without mid fragments name d free is.1) avoids)
        ]
        | inr through ↦ inr through
      ]
