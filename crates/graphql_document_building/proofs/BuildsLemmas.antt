-- Where selections can be built, so can each of them, and what is below it.
use Rattle.std.proofs.Common.{◌≡◌, Bool, true, false, IsTrue, List, [], ◌∷◌, Option, None, Some, Ok, refl, sym, ap, ◌∙◌, subst, Contains}
use Rattle.std.specs.Prelude.{unwrap_or}
use Rattle.graphql_nodes.specs.Names.{NameText}
use Rattle.graphql_documents.proofs.ListLemmas.{none_stands, only_one, stands_first}
use Rattle.graphql_documents.specs.Schemas.{type_field}
use Rattle.graphql_documents.specs.TypeReferences.{inner_named_type}
use Rattle.graphql_nodes.specs.declared.nodes.Node.{Node}
use Rattle.graphql_documents.specs.declared.documents.components.Component.{Component}
use Rattle.graphql_documents.specs.declared.documents.definitions.FieldDefinition.{FieldDefinition}
use Rattle.graphql_documents.specs.declared.documents.schemas.Schema.{Schema}
use Rattle.graphql_trees.specs.declared.executable.Field.{Field, out-Field}
use Rattle.graphql_trees.specs.declared.executable.InlineFragment.{InlineFragment}
use Rattle.graphql_trees.specs.declared.executable.Selection.{Selection}
use Rattle.graphql_trees.specs.declared.executable.Selection.TheVariants as tree
use Rattle.graphql_trees.specs.declared.executable.SelectionSet.{SelectionSet}
use Rattle.graphql_document_building.specs.BuildingRules.{DefinitionBuilds, FieldBuilds, SelectionBuilds, SelectionsBuild, SelectionsBuildIn}
use Rattle.graphql_document_building.specs.Documents.{IsRoot, default_root_name}
use Rattle.graphql_document_building.specs.FieldDefinitions.{IsProper, schema_of}
use Rattle.graphql_document_building.specs.Selections.{DefinesField}
use Rattle.graphql_document_building.specs.declared.field_definitions.FieldDefinitions.{FieldDefinitions}
use Rattle.graphql_document_building.specs.declared.field_definitions.FieldDefinitions.TheVariants.{OfSchema, Unknown}
use Rattle.graphql_trees.specs.declared.documents.Definition.TheVariants as definition
use Rattle.graphql_trees.specs.declared.executable.OperationDefinition.{OperationDefinition}
use Rattle.graphql_document_building.specs.Trees.{StandsOn, names_leaf_type, selections_in, stands_below_field, stands_here, stands_in_inline_fragment, type_below}

module _ (schema : Schema) where
  -- what is below some of the selections is below all of them
  pub stands_among : (parent here : NameText) (xs ys : List Selection) (s : Selection) →
      ((x : Selection) → Contains xs x → Contains ys x) → StandsOn schema parent xs s here → StandsOn schema parent ys s here
  stands_among parent here xs ys s all (stands_here stands) = stands_here (all s stands)
  stands_among parent here xs ys s all (stands_below_field f d stands found opens below) =
      stands_below_field f d (all (tree.Field f) stands) found opens below
  stands_among parent here xs ys s all (stands_in_inline_fragment i stands defined below) =
      stands_in_inline_fragment i (all (tree.InlineFragment i) stands) defined below

  pub one_builds : (parent : NameText) (xs : List Selection) (x : Selection) → Contains xs x → SelectionsBuild schema parent xs → SelectionBuilds schema parent x
  one_builds parent xs x stands builds =
      let among : (y : Selection) → Contains (x ∷ []) y → Contains xs y = λ y only. subst (Contains xs) (sym (only_one x y only)) stands in
      record {
        fields = λ f here s. builds.fields f here (stands_among parent here (x ∷ []) xs (tree.Field f) among s);
        inline_fragments = λ i here s. builds.inline_fragments i here (stands_among parent here (x ∷ []) xs (tree.InlineFragment i) among s);
      }

  nothing_stands : (parent here : NameText) (s : Selection) → ¬ StandsOn schema parent [] s here
  nothing_stands parent here s (stands_here stands) = none_stands s stands
  nothing_stands parent here s (stands_below_field f d stands found opens below) = none_stands (tree.Field f) stands
  nothing_stands parent here s (stands_in_inline_fragment i stands defined below) = none_stands (tree.InlineFragment i) stands

  pub nothing_builds : (parent : NameText) → SelectionsBuild schema parent []
  nothing_builds parent = record {
    fields = λ f here s. absurd (nothing_stands parent here (tree.Field f) s);
    inline_fragments = λ i here s. absurd (nothing_stands parent here (tree.InlineFragment i) s);
  }

  pub field_builds : (parent : NameText) (x : Field) → SelectionBuilds schema parent (tree.Field x) → FieldBuilds schema parent x
  field_builds parent x builds = builds.fields x parent (stands_here (stands_first (tree.Field x) []))

  builds_below : (parent : NameText) (x : Field) (d : Component FieldDefinition) (leaf : Bool) → leaf ≡ names_leaf_type schema (type_below d) →
      SelectionBuilds schema parent (tree.Field x) → type_field schema parent (out-Field x).name ≡ Ok d →
      (IsTrue (names_leaf_type schema (type_below d)) → (out-Field x).selection_set ≡ None) →
      SelectionsBuild schema (type_below d) (selections_in (out-Field x).selection_set)
  builds_below parent x d true is builds found empty =
      subst (λ (set : Option SelectionSet). SelectionsBuild schema (type_below d) (selections_in set)) (sym (empty (sym is))) (nothing_builds (type_below d))
  builds_below parent x d false is builds found empty =
      let first = stands_first (tree.Field x) [] in
      record {
        fields = λ f here s. builds.fields f here (stands_below_field x d first found (sym is) s);
        inline_fragments = λ i here s. builds.inline_fragments i here (stands_below_field x d first found (sym is) s);
      }

  pub set_below_builds : (parent ty : NameText) (x : Field) (d : Component FieldDefinition) →
      SelectionBuilds schema parent (tree.Field x) → type_field schema parent (out-Field x).name ≡ Ok d → ty ≡ type_below d →
      SelectionsBuild schema ty (selections_in (out-Field x).selection_set)
  set_below_builds parent ty x d builds found is =
      let field = field_builds parent x builds in
      let same : field.definition ≡ d = cc in
      let leaf : IsTrue (names_leaf_type schema (type_below d)) → (out-Field x).selection_set ≡ None = subst (λ d. IsTrue (names_leaf_type schema (type_below d)) → (out-Field x).selection_set ≡ None) same field.leaf in
      subst (λ ty. SelectionsBuild schema ty (selections_in (out-Field x).selection_set)) (sym is)
      (builds_below parent x d (names_leaf_type schema (type_below d)) refl builds found leaf)

  pub set_of_fragment_builds : (parent ty : NameText) (x : InlineFragment) (xs : List Selection) →
      SelectionBuilds schema parent (tree.InlineFragment x) → ty ≡ unwrap_or x.type_condition parent → xs ≡ x.selection_set.selections →
      SelectionsBuild schema ty xs
  set_of_fragment_builds parent ty x xs builds is all =
      let first = stands_first (tree.InlineFragment x) [] in
      let defined = builds.inline_fragments x parent (stands_here first) in
      let inside : SelectionsBuild schema (unwrap_or x.type_condition parent) x.selection_set.selections = record {
        fields = λ f here s. builds.fields f here (stands_in_inline_fragment x first defined s);
        inline_fragments = λ i here s. builds.inline_fragments i here (stands_in_inline_fragment x first defined s);
      } in
      rw (is, all) inside

-- the same against a schema or without one
pub one_builds_in : (schema : Option Schema) (parent : NameText) (xs : List Selection) (x : Selection) → Contains xs x →
    SelectionsBuildIn schema parent xs → SelectionsBuildIn schema parent (x ∷ [])
one_builds_in (Some schema) parent xs x stands builds = one_builds schema parent xs x stands builds
one_builds_in None parent xs x stands builds = tt

pub field_is_defined : (definitions : FieldDefinitions) (parent : NameText) (x : Field) → IsProper definitions →
    SelectionsBuildIn (schema_of definitions) parent (tree.Field x ∷ []) →
    (d : Node FieldDefinition) × DefinesField (schema_of definitions) parent (out-Field x).name d
field_is_defined (OfSchema schema) parent x proper builds =
    let field = field_builds schema.now parent x builds in
    (field.definition.node, (field.definition, field.defined, refl))
field_is_defined (Unknown definition) parent x proper builds = (definition.now, proper)

pub set_below_builds_in : (schema : Option Schema) (parent ty : NameText) (x : Field) (d : Node FieldDefinition) →
    SelectionsBuildIn schema parent (tree.Field x ∷ []) → DefinesField schema parent (out-Field x).name d →
    ty ≡ inner_named_type d.value.value.ty → SelectionsBuildIn schema ty (selections_in (out-Field x).selection_set)
set_below_builds_in (Some schema) parent ty x d builds (c, found, same) is =
    set_below_builds schema parent ty x c builds found (is ∙ ap (λ d. inner_named_type d.value.value.ty) (sym same))
set_below_builds_in None parent ty x d builds defines is = tt

pub set_of_fragment_builds_in : (schema : Option Schema) (parent ty : NameText) (x : InlineFragment) (xs : List Selection) →
    SelectionsBuildIn schema parent (tree.InlineFragment x ∷ []) → ty ≡ unwrap_or x.type_condition parent → xs ≡ x.selection_set.selections →
    SelectionsBuildIn schema ty xs
set_of_fragment_builds_in (Some schema) parent ty x xs builds is all = set_of_fragment_builds schema parent ty x xs builds is all
set_of_fragment_builds_in None parent ty x xs builds is all = tt

pub root_is_there : (schema : Option Schema) (x : OperationDefinition) → DefinitionBuilds schema (definition.Operation x) →
    (root : NameText) × IsRoot schema x.operation_type root
root_is_there (Some schema) x builds = (builds.root, builds.defined)
root_is_there None x builds = (default_root_name x.operation_type, refl)
