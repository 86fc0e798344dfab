-- Walks over selections, how deep they go, and what they list.
use Rattle.std.specs.Prelude.{Bool, ◌≡◌, ℕ, suc, List, [], ◌∷◌, Some, IsTrue, Contains, ◌<◌, true, false, not, IsFalse, All}
use Rattle.graphql_nodes.specs.Names.{NameText, AreDistinct}
use Rattle.graphql_documents.specs.Selections.{Fragments, selections_of, can_be_excluded}
use Rattle.graphql_documents.specs.declared.documents.executables.Selection.{Selection}
use Rattle.graphql_documents.specs.declared.documents.executables.Field.{Field}
use Rattle.graphql_documents.specs.declared.documents.executables.Fragment.{Fragment}
use Rattle.graphql_documents.specs.declared.documents.executables.FragmentSpread.{FragmentSpread}
use Rattle.graphql_documents.specs.declared.documents.executables.InlineFragment.{InlineFragment}
use Rattle.graphql_documents.specs.declared.documents.executables.SelectionSet.{SelectionSet}
use Rattle.graphql_nodes.specs.declared.nodes.Node.{Node}
use Rattle.graphql_documents.specs.declared.documents.executables.Selection.TheVariants as kind

-- which steps a walk over selections takes: into the sets of fields, into the fragments that spreads
-- name, and from which selections
pub record Walk : Type 0 where
  pub into_fields : Bool
  pub into_fragments : Bool
  pub goes_through : Selection → Bool

-- a descent of the walk: so many sets, each of a selection of the set before it or of the fragment that
-- it spreads; and the names of the fragments on the way
pub data Descent (fragments : Fragments) (walk : Walk) : SelectionSet → ℕ → List NameText → Type 0 where
  descent_ends : {set : SelectionSet} → Descent fragments walk set 0 []
  descent_into_field : {set : SelectionSet} {f : Node Field} {n : ℕ} {names : List NameText} →
      IsTrue walk.into_fields → Contains (selections_of set) (kind.Field f) → IsTrue (walk.goes_through (kind.Field f)) →
      Descent fragments walk f.value.value.selection_set n names → Descent fragments walk set (suc n) names
  descent_into_inline_fragment : {set : SelectionSet} {i : Node InlineFragment} {n : ℕ} {names : List NameText} →
      Contains (selections_of set) (kind.InlineFragment i) → IsTrue (walk.goes_through (kind.InlineFragment i)) →
      Descent fragments walk i.value.value.selection_set n names → Descent fragments walk set (suc n) names
  descent_into_fragment : {set : SelectionSet} {p : Node FragmentSpread} {d : Node Fragment} {n : ℕ} {names : List NameText} →
      IsTrue walk.into_fragments → Contains (selections_of set) (kind.FragmentSpread p) → IsTrue (walk.goes_through (kind.FragmentSpread p)) →
      fragments p.value.value.fragment_name ≡ Some d →
      Descent fragments walk d.value.value.selection_set n names → Descent fragments walk set (suc n) (p.value.value.fragment_name ∷ names)

-- how many sets, one below another, a walk goes into
abbrev pub walk_depth_limit : ℕ
walk_depth_limit = 500

-- a descent from the set passes through more sets than a walk goes into, and enters no fragment twice
pub record PassesDepth (fragments : Fragments) (walk : Walk) (set : SelectionSet) : Type 0 where
  pub depth : ℕ
  pub visited_fragments : List NameText
  pub descent : Descent fragments walk set depth visited_fragments
  pub once : AreDistinct visited_fragments
  pub passes : walk_depth_limit < depth

-- into everything: for variables and for fragments
abbrev pub full_walk : Walk
full_walk = record { into_fields = true; into_fragments = true; goes_through = λ s. true }

-- into fragments alone: for the root of subscriptions and of `@defer`
abbrev pub root_walk : Walk
root_walk = record { into_fields = false; into_fragments = true; goes_through = λ s. true }

-- into what is written alone: for labels
abbrev pub written_walk : Walk
written_walk = record { into_fields = true; into_fragments = false; goes_through = λ s. true }

-- into what cannot be left out: for the conditions of `@defer`
abbrev pub open_walk : Walk
open_walk = record { into_fields = true; into_fragments = true; goes_through = λ s. not (can_be_excluded s) }

-- a walk has listed selections: each of them is one that it is to meet; where it came to an end, all
-- of these are listed; where it did not, a descent passes its limit
pub record HasListed (IsVisited : Selection → Type 0) (Passes : Type 0) (listed : List Selection) (complete : Bool) : Type 0 where
  pub each : All IsVisited listed
  pub all : IsTrue complete → (s : Selection) → IsVisited s → Contains listed s
  pub bound : IsFalse complete → Passes
