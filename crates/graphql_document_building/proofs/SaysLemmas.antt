-- What a tree says of a selection that was built, kind by kind.
use Rattle.std.proofs.Common.{◌≡◌, ℕ, List, [], ◌∷◌, ◌++◌, ◌+◌, ◌<◌, Option, Some, length, get_or, take}
use Rattle.std.proofs.lemmas.List.{take_more}
use Rattle.graphql_nodes.specs.Names.{NameText}
use Rattle.graphql_nodes.specs.declared.nodes.Node.{Node}
use Rattle.graphql_documents.specs.declared.documents.executables.Field.{Field}
use Rattle.graphql_documents.specs.declared.documents.executables.FragmentSpread.{FragmentSpread}
use Rattle.graphql_documents.specs.declared.documents.executables.InlineFragment.{InlineFragment}
use Rattle.graphql_documents.specs.declared.documents.executables.Selection.{Selection}
use Rattle.graphql_documents.specs.declared.documents.executables.Selection.TheVariants as kind
use Rattle.graphql_documents.specs.declared.documents.schemas.Schema.{Schema}
use Rattle.graphql_trees.specs.declared.executable.Field as field_tree
use Rattle.graphql_trees.specs.declared.executable.FragmentSpread as spread_tree
use Rattle.graphql_trees.specs.declared.executable.InlineFragment as inline_fragment_tree
use Rattle.graphql_trees.specs.declared.executable.Selection as selection_tree
use Rattle.graphql_trees.specs.declared.executable.Selection.TheVariants as tree
use Rattle.graphql_document_building.specs.Selections.{FieldHeadSays, FragmentSpreadSays, InlineFragmentHeadSays, SelectionSays, SelectionsSay, field_says, fragment_spread_says, inline_fragment_says, next_selection, no_selections}
use Rattle.graphql_document_building.specs.Trees.{selections_in}

module _ (schema : Option Schema) (parent : NameText) where
  pub field_said : (x : field_tree.Field) (y : Field) (f : Node Field) → f.value.value ≡ y →
      FieldHeadSays schema parent x y → SelectionsSay schema y.selection_set.ty (selections_in (field_tree.out-Field x).selection_set) y.selection_set.selections.items →
      f.location ≡ Some (field_tree.out-Field x).span → SelectionSays schema parent (tree.Field x) (kind.Field f)
  field_said x y f is head set location = field_says x f (rw is head) (rw is set) location

  pub spread_said : (t : selection_tree.Selection) (x : spread_tree.FragmentSpread) (p : Node FragmentSpread) → t ≡ tree.FragmentSpread x →
      FragmentSpreadSays x p → SelectionSays schema parent t (kind.FragmentSpread p)
  spread_said t x p is says = rw is (fragment_spread_says x p says)

  pub inline_fragment_said : (x : inline_fragment_tree.InlineFragment) (y : InlineFragment) (i : Node InlineFragment) → i.value.value ≡ y →
      InlineFragmentHeadSays parent x y → SelectionsSay schema y.selection_set.ty x.selection_set.selections y.selection_set.selections.items →
      i.location ≡ Some x.span → SelectionSays schema parent (tree.InlineFragment x) (kind.InlineFragment i)
  inline_fragment_said x y i is head set location = inline_fragment_says x i (rw is head) (rw is set) location

  selections_pushed : (xs : List selection_tree.Selection) (ys : List Selection) (x : selection_tree.Selection) (y : Selection) →
      SelectionsSay schema parent xs ys → SelectionSays schema parent x y → SelectionsSay schema parent (xs ++ x ∷ []) (ys ++ y ∷ [])
  selections_pushed xs ys x y no_selections says = next_selection says no_selections
  selections_pushed xs ys x y (next_selection first rest) says = next_selection first (selections_pushed _ _ x y rest says)

  pub selections_more : (xs : List selection_tree.Selection) (i : ℕ) (x : selection_tree.Selection) (ys more : List Selection) (y : Selection) →
      i < length xs → x ≡ get_or xs i x → SelectionsSay schema parent (take i xs) ys → SelectionSays schema parent x y → more ≡ ys ++ y ∷ [] →
      SelectionsSay schema parent (take (i + 1) xs) more
  selections_more xs i x ys more y within is all says grown =
      rw (grown, take_more xs i x within, ← is) (selections_pushed (take i xs) ys x y all says)
