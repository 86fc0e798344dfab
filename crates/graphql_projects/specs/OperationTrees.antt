-- The document of one operation: its tree, and those of exactly the fragments that it reaches. Specification: 2.2 Document, 2.3 Operations, 2.8
-- Fragments.
use Rattle.std.specs.Prelude.{◌≡◌, List, ◌∷◌, Option, Some, All, Contains, flat_map, map}
use Rattle.std.specs.Map.{lookup}
use Rattle.graphql_nodes.specs.Names.{AreDistinct, NameText, same_name}
use Rattle.graphql_trees.specs.declared.documents.Definition.TheVariants as definition
use Rattle.graphql_trees.specs.declared.documents.Document.{Document}
use Rattle.graphql_trees.specs.declared.executable.Field.{Field, out-Field}
use Rattle.graphql_trees.specs.declared.executable.FragmentDefinition.{FragmentDefinition}
use Rattle.graphql_trees.specs.declared.executable.FragmentSpread.{FragmentSpread}
use Rattle.graphql_trees.specs.declared.executable.InlineFragment.{InlineFragment}
use Rattle.graphql_trees.specs.declared.executable.OperationDefinition.{OperationDefinition}
use Rattle.graphql_trees.specs.declared.executable.Selection.TheVariants as tree
use Rattle.graphql_trees.specs.declared.executable.Selection.{Selection}
use Rattle.graphql_document_building.specs.Trees.{fragments_in, selections_in}

-- fragments, each under its name, that operations of several texts may spread
abbrev pub Pool : Type 0
Pool = List (NameText × FragmentDefinition)

-- the fragments that these trees define, in order
abbrev pub fragments_among : List Document → Pool
fragments_among trees = flat_map (λ (t : Document). fragments_in t.definitions) trees

-- the first fragment of the name, if there is one
abbrev pub fragment_named : Pool → NameText → Option FragmentDefinition
fragment_named pool name = lookup (same_name name) pool

-- a spread of the name is among the selections, below them, or in a fragment that they reach
pub data SpreadsIn (pool : Pool) : List Selection → NameText → Type 0 where
  spread_here : {selections : List Selection} (p : FragmentSpread) →
      Contains selections (tree.FragmentSpread p) → SpreadsIn pool selections p.name
  spread_in_field : {selections : List Selection} {name : NameText} (f : Field) →
      Contains selections (tree.Field f) → SpreadsIn pool (selections_in (out-Field f).selection_set) name → SpreadsIn pool selections name
  spread_in_inline_fragment : {selections : List Selection} {name : NameText} (i : InlineFragment) →
      Contains selections (tree.InlineFragment i) → SpreadsIn pool i.selection_set.selections name → SpreadsIn pool selections name
  spread_in_fragment : {selections : List Selection} {name : NameText} (p : FragmentSpread) (d : FragmentDefinition) →
      Contains selections (tree.FragmentSpread p) → fragment_named pool p.name ≡ Some d →
      SpreadsIn pool d.selection_set.selections name → SpreadsIn pool selections name

-- the operation reaches the fragment
pub record ReachesFragment (pool : Pool) (x : OperationDefinition) (d : FragmentDefinition) : Type 0 where
  pub name : NameText
  pub spread : SpreadsIn pool x.selection_set.selections name
  pub found : fragment_named pool name ≡ Some d

-- the tree is the document of the operation: the operation, and then each fragment that it reaches, once, and no other
pub record IsTreeOf (pool : Pool) (x : OperationDefinition) (whole : Document) : Type 0 where
  pub fragments : List FragmentDefinition
  pub definitions_are : whole.definitions ≡ definition.Operation x ∷ map definition.Fragment fragments
  pub each : All (ReachesFragment pool x) fragments
  pub all : (d : FragmentDefinition) → ReachesFragment pool x d → Contains fragments d
  pub distinct : AreDistinct (map (λ (d : FragmentDefinition). d.name) fragments)
