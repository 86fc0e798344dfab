-- The steps of a walk over selections, for the contracts of its private functions.
use Rattle.std.specs.Prelude.{◌≡◌, ◌+◌, ◌<◌, ℕ, Bool, List, [], ◌∷◌, ◌++◌, Some, IsTrue, IsFalse, All, Contains, map, reverse}
use Rattle.graphql_guards.specs.Guards.{depth_limit, depth_of}
use Rattle.graphql_nodes.specs.Names.{AreDistinct, NameText, SameName, stands_on}
use Rattle.graphql_documents.specs.Selections.{Fragments, fragments_of, selections_of, fields_among}
use Rattle.graphql_specification.specs.Subscriptions.{WalkedFields}
use Rattle.graphql_documents.specs.Walks.{Descent, Walk, full_walk, open_walk, root_walk}
use Rattle.graphql_documents.specs.declared.documents.executables.Field.{Field}
use Rattle.graphql_documents.specs.declared.documents.executables.Fragment.{Fragment}
use Rattle.graphql_documents.specs.declared.documents.executables.FragmentSpread.{FragmentSpread}
use Rattle.graphql_documents.specs.declared.documents.executables.InlineFragment.{InlineFragment}
use Rattle.graphql_documents.specs.declared.documents.executables.Selection.TheVariants as kind
use Rattle.graphql_documents.specs.declared.documents.executables.Selection.{Selection}
use Rattle.graphql_documents.specs.declared.documents.executables.SelectionSet.{SelectionSet}
use Rattle.graphql_nodes.specs.declared.nodes.Node.{Node}
use Rattle.graphql_guards.specs.declared.depth.DepthCounter.{DepthCounter}
use Rattle.graphql_variables.specs.Searches.{Finds, Leads, Searched}
use Rattle.graphql_variables.specs.declared.walks.Extent.TheVariants as extent
use Rattle.graphql_variables.specs.declared.walks.Extent.{Extent}
use Rattle.graphql_variables.specs.declared.walks.Visited.{Visited}
use Rattle.graphql_variables.specs.declared.walks.SelectionWalk.{SelectionWalk}

-- what a walk comes by: selections, and names of fragments
pub data Stop : Type 0 where
  at_selection : Selection → Stop
  at_name : NameText → Stop

-- what a walk of this extent goes through: what is inside a set, what is reached from it, or what is visited there whatever the conditions
abbrev pub walk_of : Extent → Walk
walk_of extent.InExpandedSet = root_walk
walk_of extent.Reachable = full_walk
walk_of extent.Open = open_walk

-- it is one of these selections, or of those of a set, and the walk goes through it
abbrev pub IsAmong : Walk → List Selection → Stop → Type 0
IsAmong walk selections (at_selection s) = Contains selections s × IsTrue (walk.goes_through s)
IsAmong walk selections (at_name name) = ⊥

abbrev pub IsInSet : Walk → SelectionSet → Stop → Type 0
IsInSet walk set = IsAmong walk (selections_of set)

-- it is the name
abbrev pub IsName : NameText → Stop → Type 0
IsName name (at_selection s) = ⊥
IsName name (at_name other) = SameName name other

-- the steps of the walk: from a selection to those of its set, from a spread to its name, and from a
-- name to the selections of the fragment that it finds
pub data Step (fragments : Fragments) (walk : Walk) : Stop → Stop → Type 0 where
  into_field : (f : Node Field) {x : Stop} → IsTrue walk.into_fields →
      IsInSet walk f.value.value.selection_set x → Step fragments walk (at_selection (kind.Field f)) x
  into_inline_fragment : (i : Node InlineFragment) {x : Stop} →
      IsInSet walk i.value.value.selection_set x → Step fragments walk (at_selection (kind.InlineFragment i)) x
  to_name : (p : Node FragmentSpread) {x : Stop} →
      IsName p.value.value.fragment_name x → Step fragments walk (at_selection (kind.FragmentSpread p)) x
  into_fragment : {name : NameText} {d : Node Fragment} {x : Stop} → fragments name ≡ Some d →
      IsInSet walk d.value.value.selection_set x → Step fragments walk (at_name name) x

-- the steps lead from a selection of the set to this one
abbrev pub VisitedFrom : Fragments → Walk → SelectionSet → Selection → Type 0
VisitedFrom fragments walk set s =
    (first : Selection) × IsInSet walk set (at_selection first) × Leads (Step fragments walk) (at_selection first) (at_selection s)

-- the steps of this walk, what it goes through among selections, and how it begins in a set
abbrev pub StepOf : SelectionWalk → Stop → Stop → Type 0
StepOf walk = Step (fragments_of walk.document.now) (walk_of walk.extent)

abbrev pub GoesThrough : SelectionWalk → List Selection → Stop → Type 0
GoesThrough walk = IsAmong (walk_of walk.extent)

abbrev pub BeginsIn : SelectionWalk → SelectionSet → Stop → Type 0
BeginsIn walk set = GoesThrough walk (selections_of set)

-- the names that were visited, and the selections that were listed
abbrev pub visited_fragment_names : Visited → List NameText
visited_fragment_names visited = map (λ name. name.now) visited.visited_fragments.keys

abbrev pub listed_of : Visited → List Selection
listed_of visited = map (λ s. s.now) visited.selections.items

-- it was visited
abbrev pub IsVisited : Visited → Stop → Type 0
IsVisited visited (at_selection s) = Contains (listed_of visited) s
IsVisited visited (at_name name) = IsTrue (stands_on (visited_fragment_names visited) name)

-- a descent from the set goes beyond the limit of a walk that is this deep, and enters no fragment twice, nor one of those that were visited
pub record PassesFrom (walk : SelectionWalk) (visited : Visited) (limit : ℕ) (depth : ℕ) (set : SelectionSet) : Type 0 where
  pub steps : ℕ
  pub names : List NameText
  pub descent : Descent (fragments_of walk.document.now) (walk_of walk.extent) set steps names
  pub once : AreDistinct names
  pub fresh : All (λ name. IsFalse (stands_on (visited_fragment_names visited) name)) names
  pub passes : limit < steps + depth

-- a walk that begins with these has visited what there is, or passes its limit
pub record HasWalked (walk : SelectionWalk) (begins : Stop → Type 0) (Passes : Type 0) (old new : Visited) (complete : Bool) : Type 0 where
  pub finds : Finds (StepOf walk) begins (IsVisited old) (IsVisited new)
  pub searched : IsTrue complete → Searched (StepOf walk) begins (IsVisited old) (IsVisited new)
  pub bound : IsFalse complete → Passes

-- a walk over a set that is so deep
abbrev pub WalksOver : SelectionWalk → DepthCounter → ℕ → SelectionSet → Visited → Visited → Bool → Type 0
WalksOver walk counter depth set old new complete =
    HasWalked walk (BeginsIn walk set) (PassesFrom walk old (depth_limit counter) depth set) old new complete

-- a walk over what is below a selection of a set
abbrev pub WalksBelow : SelectionWalk → DepthCounter → Selection → Visited → Visited → Bool → Type 0
WalksBelow walk counter s old new complete =
    HasWalked walk (StepOf walk (at_selection s))
    ((set : SelectionSet) → BeginsIn walk set (at_selection s) → PassesFrom walk old (depth_limit counter) (depth_of counter) set)
    old new complete

-- the fields that were newly listed, behind these, are those that a walk over the selections meets, each time that it meets one, in order; the names
-- that were visited last are first there
pub record ListsInOrder (fragments : Fragments) (selections : List Selection) (before : List (Node Field)) (old new : Visited) : Type 0 where
  pub fields : List (Node Field)
  pub listed : fields_among (listed_of new) ≡ fields_among (listed_of old) ++ fields
  pub walked : WalkedFields fragments (reverse (visited_fragment_names old)) selections (before ++ fields) (reverse (visited_fragment_names new))

-- a walk over what is inside a set lists its fields in order
abbrev pub OrderOver : SelectionWalk → SelectionSet → Visited → Visited → Bool → Type 0
OrderOver walk set old new complete =
    IsTrue complete → walk.extent ≡ extent.InExpandedSet →
    ListsInOrder (fragments_of walk.document.now) (selections_of set) [] old new

-- and with a selection that is listed already those below it
abbrev pub OrderBelow : SelectionWalk → Selection → Visited → Visited → Bool → Type 0
OrderBelow walk s old new complete =
    IsTrue complete → walk.extent ≡ extent.InExpandedSet →
    ListsInOrder (fragments_of walk.document.now) (s ∷ []) (fields_among (s ∷ [])) old new
