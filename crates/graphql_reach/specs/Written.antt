-- What holds of selections at any depth, spreads not followed. Specification: 2.4 Selection Sets.
use Rattle.std.specs.Prelude.{◌≡◌}
use Rattle.graphql_nodes.specs.declared.nodes.Node.{Node}
use Rattle.graphql_documents.specs.Selections.{Written}
use Rattle.graphql_documents.specs.declared.documents.executables.Field.{Field}
use Rattle.graphql_documents.specs.declared.documents.executables.InlineFragment.{InlineFragment}
use Rattle.graphql_documents.specs.declared.documents.executables.Selection.{Selection}
use Rattle.graphql_documents.specs.declared.documents.executables.Selection.TheVariants as kind
use Rattle.graphql_documents.specs.declared.documents.executables.SelectionSet.{SelectionSet}

-- something holds of a selection that is in the set or at any depth below it, spreads not followed
abbrev pub SetHas : {X : Type 0} → (Selection → X → Type 0) → SelectionSet → X → Type 0
SetHas Itself set x = (s : Selection) × Written set s × Itself s x

-- it holds of the selection itself, or of one below it
pub data SelectionHas {X : Type 0} (Itself : Selection → X → Type 0) (s : Selection) (x : X) : Type 0 where
  has_itself : Itself s x → SelectionHas Itself s x
  has_below_field : (f : Node Field) → s ≡ kind.Field f → SetHas Itself f.value.value.selection_set x → SelectionHas Itself s x
  has_below_inline_fragment : (i : Node InlineFragment) →
      s ≡ kind.InlineFragment i → SetHas Itself i.value.value.selection_set x → SelectionHas Itself s x
