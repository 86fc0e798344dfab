-- What a tree says, by its form. Specification: 2.4 Selection Sets to 2.8 Fragments.
use Rattle.std.proofs.Common.{◌≡◌, Some, refl}
use Rattle.graphql_nodes.specs.Names.{NameText}
use Rattle.graphql_nodes.specs.declared.nodes.Node.{Node}
use Rattle.graphql_documents.specs.declared.documents.executables.Field.{Field}
use Rattle.graphql_documents.specs.declared.documents.executables.FragmentSpread.{FragmentSpread}
use Rattle.graphql_documents.specs.declared.documents.executables.InlineFragment.{InlineFragment}
use Rattle.graphql_documents.specs.declared.documents.executables.Selection.{Selection}
use Rattle.graphql_documents.specs.declared.documents.executables.Selection.TheVariants as kind
use Rattle.graphql_documents.specs.declared.documents.schemas.Schema.{Schema}
use Rattle.graphql_trees.specs.declared.executable.Field as field_tree
use Rattle.graphql_trees.specs.declared.executable.FragmentSpread as spread_tree
use Rattle.graphql_trees.specs.declared.executable.InlineFragment as inline_fragment_tree
use Rattle.graphql_trees.specs.declared.executable.Selection as selection_tree
use Rattle.graphql_trees.specs.declared.executable.Selection.TheOpen as Open
use Rattle.graphql_trees.specs.declared.executable.Selection.TheVariants as tree
use Rattle.graphql_document_building.specs.Selections as says
use Rattle.graphql_document_building.specs.Selections.{FieldHeadSays, FragmentSpreadSays, InlineFragmentHeadSays, SelectionSays, SelectionsSay}
use Rattle.graphql_document_building.specs.Trees.{selections_in}

module _ (s : Schema) where
  -- what a tree says, by its form
  abbrev pub IsSaid : NameText → selection_tree.Selection → Selection → Type 0
  IsSaid parent t x = elim (selection_tree.out-Selection t) [
    | Open.Field x' ↦ (f : Node Field) × FieldHeadSays (Some s) parent x' f.value.value ×
        SelectionsSay (Some s) f.value.value.selection_set.ty (selections_in (field_tree.out-Field x').selection_set) f.value.value.selection_set.selections.items ×
        (f.location ≡ Some (field_tree.out-Field x').span) × (x ≡ kind.Field f)
    | Open.FragmentSpread x' ↦ (p : Node FragmentSpread) × FragmentSpreadSays x' p × (x ≡ kind.FragmentSpread p)
    | Open.InlineFragment x' ↦ (i : Node InlineFragment) × InlineFragmentHeadSays parent x' i.value.value ×
        SelectionsSay (Some s) i.value.value.selection_set.ty x'.selection_set.selections i.value.value.selection_set.selections.items ×
        (i.location ≡ Some x'.span) × (x ≡ kind.InlineFragment i)
  ]

  pub said : (parent : NameText) (t : selection_tree.Selection) (x : Selection) → SelectionSays (Some s) parent t x → IsSaid parent t x
  said parent t x (says.field_says x' f head set location) = rw (tree.outs-Field x', IsSaid) (f, head, set, location, refl)
  said parent t x (says.fragment_spread_says x' p spread) = rw (tree.outs-FragmentSpread x', IsSaid) (p, spread, refl)
  said parent t x (says.inline_fragment_says x' i head set location) = rw (tree.outs-InlineFragment x', IsSaid) (i, head, set, location, refl)

  pub field_form : (parent : NameText) (y : field_tree.Field) (t : Selection) → SelectionSays (Some s) parent (tree.Field y) t →
      (f : Node Field) × FieldHeadSays (Some s) parent y f.value.value ×
      SelectionsSay (Some s) f.value.value.selection_set.ty (selections_in (field_tree.out-Field y).selection_set) f.value.value.selection_set.selections.items × (t ≡ kind.Field f)
  field_form parent y t says =
      let is = rw (tree.outs-Field y, IsSaid) at (said parent (tree.Field y) t says) in
      (is.0, is.1, is.2, is.4)

  pub spread_form : (parent : NameText) (y : spread_tree.FragmentSpread) (t : Selection) → SelectionSays (Some s) parent (tree.FragmentSpread y) t →
      (p : Node FragmentSpread) × FragmentSpreadSays y p × (t ≡ kind.FragmentSpread p)
  spread_form parent y t says = rw (tree.outs-FragmentSpread y, IsSaid) at (said parent (tree.FragmentSpread y) t says)

  pub inline_form : (parent : NameText) (y : inline_fragment_tree.InlineFragment) (t : Selection) → SelectionSays (Some s) parent (tree.InlineFragment y) t →
      (i : Node InlineFragment) × InlineFragmentHeadSays parent y i.value.value ×
      SelectionsSay (Some s) i.value.value.selection_set.ty y.selection_set.selections i.value.value.selection_set.selections.items × (t ≡ kind.InlineFragment i)
  inline_form parent y t says =
      let is = rw (tree.outs-InlineFragment y, IsSaid) at (said parent (tree.InlineFragment y) t says) in
      (is.0, is.1, is.2, is.4)
