-- What selections say, once they are built on their types, against a schema or without one. Specification: 2.4 Selection Sets to 2.8 Fragments.
use Rattle.std.specs.Prelude.{◌≡◌, List, [], ◌∷◌, Option, None, Some, Ok, codes, unwrap_or}
use Rattle.graphql_nodes.specs.Names.{NameText}
use Rattle.graphql_nodes.specs.Nodes.{SameNode}
use Rattle.graphql_nodes.specs.declared.nodes.Node.{Node}
use Rattle.graphql_documents.specs.MetaFields.{FieldHasNoPlace, HasSignature}
use Rattle.graphql_documents.specs.Schemas.{type_field}
use Rattle.graphql_documents.specs.TypeReferences.{inner_named_type}
use Rattle.graphql_documents.specs.declared.documents.components.Component.{Component}
use Rattle.graphql_documents.specs.declared.documents.definitions.FieldDefinition.{FieldDefinition}
use Rattle.graphql_documents.specs.declared.documents.executables.Field.{Field}
use Rattle.graphql_documents.specs.declared.documents.executables.FragmentSpread.{FragmentSpread}
use Rattle.graphql_documents.specs.declared.documents.executables.InlineFragment.{InlineFragment}
use Rattle.graphql_documents.specs.declared.documents.executables.Selection.{Selection}
use Rattle.graphql_documents.specs.declared.documents.executables.Selection.TheVariants as kind
use Rattle.graphql_documents.specs.declared.documents.executables.SelectionSet.{SelectionSet}
use Rattle.graphql_documents.specs.declared.documents.schemas.Schema.{Schema}
use Rattle.graphql_trees.specs.declared.executable.Field as field_tree
use Rattle.graphql_trees.specs.declared.executable.FragmentSpread as spread_tree
use Rattle.graphql_trees.specs.declared.executable.InlineFragment as inline_fragment_tree
use Rattle.graphql_trees.specs.declared.executable.Selection as selection_tree
use Rattle.graphql_trees.specs.declared.executable.Selection.TheVariants as tree
use Rattle.graphql_leaf_building.specs.Directives.{ArgumentsSay, DirectivesSay}
use Rattle.graphql_document_building.specs.Trees.{selections_in}

-- the definition `UNKNOWN: UNKNOWN`, which no text holds
pub record IsUnknownField (d : Node FieldDefinition) : Type 0 where
  pub signature : HasSignature d.value.value (codes "UNKNOWN") [] (codes "UNKNOWN")
  pub place : FieldHasNoPlace d

-- what defines a field of a type: the type, in a schema; without a schema no definition is known
abbrev pub DefinesField : Option Schema → NameText → NameText → Node FieldDefinition → Type 0
DefinesField (Some schema) parent name d = (c : Component FieldDefinition) × (type_field schema parent name ≡ Ok c) × (c.node ≡ d)
DefinesField None parent name d = IsUnknownField d

-- the tree says this field of the type, its set apart: alias, name, arguments and directives as written, with the
-- field's definition, and the set on the type of that
pub record FieldHeadSays (schema : Option Schema) (parent : NameText) (x : field_tree.Field) (f : Field) : Type 0 where
  pub definition : Node FieldDefinition
  pub defines : DefinesField schema parent (field_tree.out-Field x).name definition
  pub same_definition : SameNode definition f.definition
  pub alias : f.alias ≡ (field_tree.out-Field x).alias
  pub name : f.name ≡ (field_tree.out-Field x).name
  pub arguments : ArgumentsSay (field_tree.out-Field x).arguments f.arguments.items
  pub directives : DirectivesSay (field_tree.out-Field x).directives f.directives.items
  pub set_type : f.selection_set.ty ≡ inner_named_type definition.value.value.ty

-- the tree says this spread
pub record FragmentSpreadSays (x : spread_tree.FragmentSpread) (p : Node FragmentSpread) : Type 0 where
  pub name : p.value.value.fragment_name ≡ x.name
  pub directives : DirectivesSay x.directives p.value.value.directives.items
  pub location : p.location ≡ Some x.span

-- the tree says this inline fragment, its set apart: this is on the condition, or on the type around where there is none
pub record InlineFragmentHeadSays (parent : NameText) (x : inline_fragment_tree.InlineFragment) (i : InlineFragment) : Type 0 where
  pub type_condition : i.type_condition ≡ x.type_condition
  pub directives : DirectivesSay x.directives i.directives.items
  pub set_type : i.selection_set.ty ≡ unwrap_or x.type_condition parent

mutual
  -- the tree says this selection of the type, with all that is below it, each at its place
  pub data SelectionSays (schema : Option Schema) : NameText → selection_tree.Selection → Selection → Type 0 where
    field_says : {parent : NameText} (x : field_tree.Field) (f : Node Field) →
        FieldHeadSays schema parent x f.value.value →
        SelectionsSay schema f.value.value.selection_set.ty (selections_in (field_tree.out-Field x).selection_set) f.value.value.selection_set.selections.items →
        f.location ≡ Some (field_tree.out-Field x).span →
        SelectionSays schema parent (tree.Field x) (kind.Field f)
    fragment_spread_says : {parent : NameText} (x : spread_tree.FragmentSpread) (p : Node FragmentSpread) →
        FragmentSpreadSays x p → SelectionSays schema parent (tree.FragmentSpread x) (kind.FragmentSpread p)
    inline_fragment_says : {parent : NameText} (x : inline_fragment_tree.InlineFragment) (i : Node InlineFragment) →
        InlineFragmentHeadSays parent x i.value.value →
        SelectionsSay schema i.value.value.selection_set.ty x.selection_set.selections i.value.value.selection_set.selections.items →
        i.location ≡ Some x.span →
        SelectionSays schema parent (tree.InlineFragment x) (kind.InlineFragment i)

  -- the trees say these selections of the type, in order
  pub data SelectionsSay (schema : Option Schema) : NameText → List selection_tree.Selection → List Selection → Type 0 where
    no_selections : {parent : NameText} → SelectionsSay schema parent [] []
    next_selection : {parent : NameText} {x : selection_tree.Selection} {s : Selection} {xs : List selection_tree.Selection} {ss : List Selection} →
        SelectionSays schema parent x s → SelectionsSay schema parent xs ss → SelectionsSay schema parent (x ∷ xs) (s ∷ ss)

-- the trees say this set on the type
pub record SetSays (schema : Option Schema) (ty : NameText) (xs : List selection_tree.Selection) (set : SelectionSet) : Type 0 where
  pub set_type : set.ty ≡ ty
  pub selections : SelectionsSay schema set.ty xs set.selections.items
