-- What a tree says against a schema is built against it.
use Rattle.std.proofs.Common.{◌≡◌, List, [], ◌∷◌, Option, None, Some, Ok, refl, sym, ap, ◌∙◌, subst, All, Contains}
use Rattle.std.specs.List.{AllZip}
use Rattle.std.specs.Option.{option_map}
use Rattle.std.specs.Prelude.{option_to_list, map, unwrap_or}
use Rattle.std.proofs.lemmas.List.Elements.{All-append, All-cons, All-contains, All-head, All-nil, All-tail}
use Rattle.indexmap.specs.IndexMap.{values}
use Rattle.graphql_nodes.proofs.NameLemmas.{same_name_itself}
use Rattle.graphql_nodes.specs.Names.{NameText, SameName}
use Rattle.graphql_nodes.specs.declared.nodes.Node.{Node}
use Rattle.graphql_documents.proofs.ValueContentLemmas.{equality_of_field_definitions}
use Rattle.graphql_documents.proofs.ListLemmas.{each_standing, made_by}
use Rattle.graphql_documents.proofs.SelectionLemmas.{not_inline, not_spread, same_field, same_inline, spread_not_inline}
use Rattle.graphql_documents.specs.Built.{FieldIsBuilt, IsBuilt, OperationIsBuilt, SetIsBuilt, SetsAreBuilt, StandsUnderOwnNames}
use Rattle.graphql_documents.specs.Contents.{SameFieldDefinition}
use Rattle.graphql_documents.specs.Schemas.{root_operation, type_field}
use Rattle.graphql_documents.specs.Selections.{SetWritten, selections_of, set_itself, set_in_field, set_in_inline_fragment}
use Rattle.graphql_documents.specs.contracts.documents.definitions.FieldDefinitionEq.TheImpl.Laws as definition_laws
use Rattle.graphql_documents.specs.TypeReferences.{inner_named_type}
use Rattle.graphql_documents.specs.declared.documents.components.ComponentName.{ComponentName}
use Rattle.graphql_documents.specs.declared.documents.definitions.FieldDefinition.{FieldDefinition}
use Rattle.graphql_documents.specs.declared.documents.executables.ExecutableDocument.{ExecutableDocument}
use Rattle.graphql_documents.specs.declared.documents.executables.Field.{Field}
use Rattle.graphql_documents.specs.declared.documents.executables.Fragment.{Fragment}
use Rattle.graphql_documents.specs.declared.documents.executables.InlineFragment.{InlineFragment}
use Rattle.graphql_documents.specs.declared.documents.executables.Operation.{Operation}
use Rattle.graphql_documents.specs.declared.documents.executables.Selection.{Selection}
use Rattle.graphql_documents.specs.declared.documents.executables.Selection.TheVariants as kind
use Rattle.graphql_documents.specs.declared.documents.executables.SelectionSet.{SelectionSet}
use Rattle.graphql_documents.specs.declared.documents.schemas.Schema.{Schema}
use Rattle.graphql_trees.specs.declared.documents.Definition.{Definition}
use Rattle.graphql_trees.specs.declared.documents.Definition.TheVariants as definition
use Rattle.graphql_trees.specs.declared.documents.Document.{Document}
use Rattle.graphql_trees.specs.declared.executable.Field as field_tree
use Rattle.graphql_trees.specs.declared.executable.FragmentDefinition.{FragmentDefinition}
use Rattle.graphql_trees.specs.declared.executable.InlineFragment as inline_fragment_tree
use Rattle.graphql_trees.specs.declared.executable.OperationDefinition.{OperationDefinition}
use Rattle.graphql_trees.specs.declared.executable.Selection as selection_tree
use Rattle.graphql_document_building.specs.Documents.{DocumentSays, FragmentSays, HasOutputFields, OperationSays, SaysUnderName}
use Rattle.graphql_document_building.specs.Selections.{FieldHeadSays, InlineFragmentHeadSays, SelectionSays, SelectionsSay, field_says, fragment_spread_says, inline_fragment_says, next_selection, no_selections}
use Rattle.graphql_document_building.specs.Trees.{as_fragment, fragments_in, selections_in, type_below}

definition_itself : (d : FieldDefinition) → SameFieldDefinition d d
definition_itself d = (equality_of_field_definitions d d).0 (definition_laws.laws-law.refl d)

-- a fragment with its own name
abbrev OwnName : NameText × FragmentDefinition → Type 0
OwnName p = p.0 ≡ p.1.name

own_name : (d : Definition) (p : NameText × FragmentDefinition) → as_fragment d ≡ Some p → OwnName p
own_name (definition.Fragment x) p is = let same : (x.name, x) ≡ p = cc in subst OwnName same refl
own_name _ p is = absurd (let no : ⊥ = cc in no)

own_names : (ds : List Definition) → All OwnName (fragments_in ds)
own_names ds = each_standing OwnName (fragments_in ds) (λ p stands. let made = made_by as_fragment ds p stands in own_name made.0 p made.2)

module _ (schema : Schema) where
  abbrev IsSaid : NameText → Selection → Type 0
  IsSaid parent s = (x : selection_tree.Selection) × SelectionSays (Some schema) parent x s

  all_said : (parent : NameText) (xs : List selection_tree.Selection) (ss : List Selection) → SelectionsSay (Some schema) parent xs ss → All (IsSaid parent) ss
  all_said parent xs ss no_selections = All-nil (IsSaid parent)
  all_said parent xs ss (next_selection {x = x} {s = s} {xs = rest} {ss = more} first behind) =
      All-cons (IsSaid parent) s more (x, first) (all_said parent rest more behind)

  record SaidField (parent : NameText) (f : Node Field) : Type 0 where
    x : field_tree.Field
    head : FieldHeadSays (Some schema) parent x f.value.value
    set : SelectionsSay (Some schema) f.value.value.selection_set.ty (selections_in (field_tree.out-Field x).selection_set) f.value.value.selection_set.selections.items

  record SaidFragment (parent : NameText) (i : Node InlineFragment) : Type 0 where
    x : inline_fragment_tree.InlineFragment
    head : InlineFragmentHeadSays parent x i.value.value
    set : SelectionsSay (Some schema) i.value.value.selection_set.ty x.selection_set.selections i.value.value.selection_set.selections.items

  said_field : (parent : NameText) (x : selection_tree.Selection) (s : Selection) (f : Node Field) → SelectionSays (Some schema) parent x s → s ≡ kind.Field f → SaidField parent f
  said_field parent x s f (field_says y g head set location) is =
      subst (SaidField parent) (same_field f g is) (record { x = y; head = head; set = set })
  said_field parent x s f (fragment_spread_says y p says) is = absurd (not_spread f p is)
  said_field parent x s f (inline_fragment_says y i head set location) is = absurd (not_inline f i is)

  said_fragment : (parent : NameText) (x : selection_tree.Selection) (s : Selection) (i : Node InlineFragment) → SelectionSays (Some schema) parent x s → s ≡ kind.InlineFragment i → SaidFragment parent i
  said_fragment parent x s i (field_says y g head set location) is = absurd (not_inline g i (sym is))
  said_fragment parent x s i (fragment_spread_says y p says) is = absurd (spread_not_inline i p is)
  said_fragment parent x s i (inline_fragment_says y j head set location) is =
      subst (SaidFragment parent) (same_inline j i is) (record { x = y; head = head; set = set })

  module _ (set : SelectionSet) (xs : List selection_tree.Selection) (says : SelectionsSay (Some schema) set.ty xs (selections_of set)) where
    field_in : (f : Node Field) → Contains (selections_of set) (kind.Field f) → SaidField set.ty f
    field_in f stands =
        let said = All-contains (IsSaid set.ty) (selections_of set) (kind.Field f) (all_said set.ty xs (selections_of set) says) stands in
        said_field set.ty said.0 (kind.Field f) f said.1 refl

    fragment_in : (i : Node InlineFragment) → Contains (selections_of set) (kind.InlineFragment i) → SaidFragment set.ty i
    fragment_in i stands =
        let said = All-contains (IsSaid set.ty) (selections_of set) (kind.InlineFragment i) (all_said set.ty xs (selections_of set) says) stands in
        said_fragment set.ty said.0 (kind.InlineFragment i) i said.1 refl

  module _ (out : HasOutputFields schema) where
    field_is_built : (parent : NameText) (f : Node Field) → SaidField parent f → FieldIsBuilt schema parent f.value.value
    field_is_built parent f said =
        let head = said.head in
        let c = head.defines.0 in
        let found = head.defines.1 in
        let same : f.value.value.definition.value.value ≡ c.node.value.value =
        head.same_definition.same_value ∙ ap (λ (d : Node FieldDefinition). d.value.value) (sym head.defines.2) in
        let typed : f.value.value.selection_set.ty ≡ type_below c =
        head.set_type ∙ ap (λ (d : Node FieldDefinition). inner_named_type d.value.value.ty) (sym head.defines.2) in
        record {
          definition = c;
          is_of_parent = subst (λ name. type_field schema parent name ≡ Ok c) (sym head.name) found;
          same = subst (λ e. SameFieldDefinition e c.node.value.value) (sym same) (definition_itself c.node.value.value);
          output = rw same (out parent (field_tree.out-Field said.x).name c found);
          set_type = rw (same, typed) (same_name_itself (type_below c));
        }

    fragment_is_built : (parent : NameText) (i : Node InlineFragment) → SaidFragment parent i →
        SameName i.value.value.selection_set.ty (unwrap_or i.value.value.type_condition parent)
    fragment_is_built parent i said = rw (said.head.set_type, said.head.type_condition) (same_name_itself (unwrap_or said.x.type_condition parent))

    pub sets_are_built : (set inner : SelectionSet) (xs : List selection_tree.Selection) →
        SelectionsSay (Some schema) set.ty xs (selections_of set) → SetWritten set inner → SetIsBuilt schema inner
    sets_are_built set inner xs says set_itself = record {
      fields = λ f stands. field_is_built set.ty f (field_in set xs says f stands);
      inline_fragments = λ i stands. fragment_is_built set.ty i (fragment_in set xs says i stands);
    }
    sets_are_built set inner xs says (set_in_field {f = f} stands below) =
        let said = field_in set xs says f stands in
        sets_are_built f.value.value.selection_set inner _ said.set below
    sets_are_built set inner xs says (set_in_inline_fragment {i = i} stands below) =
        let said = fragment_in set xs says i stands in
        sets_are_built i.value.value.selection_set inner _ said.set below

    root_found : (root : Option ComponentName) (name : NameText) → option_map (λ r. r.name) root ≡ Some name → (r : ComponentName) × (root ≡ Some r) × (name ≡ r.name)
    root_found None name is = absurd (let no : ⊥ = cc in no)
    root_found (Some r) name is = (r, refl, let same : name ≡ r.name = cc in same)

    operation_is_built : (x : OperationDefinition) (o : Node Operation) → OperationSays (Some schema) x o → OperationIsBuilt schema o.value.value
    operation_is_built x o says =
        let found = root_found (root_operation schema.schema_definition.value.value x.operation_type) o.value.value.selection_set.ty says.root in
        record {
          root = found.0;
          named = rw says.operation_type found.1;
          root_type = subst (λ name. SameName name found.0.name) (sym found.2) (same_name_itself found.0.name);
          sets = λ inner. sets_are_built o.value.value.selection_set inner x.selection_set.selections says.selections;
        }

    all_built : (xs : List OperationDefinition) (os : List (Node Operation)) → AllZip (OperationSays (Some schema)) xs os → All (λ o. OperationIsBuilt schema o.value.value) os
    all_built [] [] says = All-nil (λ (o : Node Operation). OperationIsBuilt schema o.value.value)
    all_built [] (o ∷ os) says = absurd says
    all_built (x ∷ xs) [] says = absurd says
    all_built (x ∷ xs) (o ∷ os) says =
        All-cons (λ (o : Node Operation). OperationIsBuilt schema o.value.value) o os (operation_is_built x o says.0) (all_built xs os says.1)

    named_built : (xs : List (NameText × OperationDefinition)) (os : List (NameText × Node Operation)) →
        AllZip (SaysUnderName (OperationSays (Some schema))) xs os → All (λ o. OperationIsBuilt schema o.value.value) (map (λ e. e.1) os)
    named_built [] [] says = All-nil (λ (o : Node Operation). OperationIsBuilt schema o.value.value)
    named_built [] (o ∷ os) says = absurd says
    named_built (x ∷ xs) [] says = absurd says
    named_built (x ∷ xs) (o ∷ os) says =
        All-cons (λ (o : Node Operation). OperationIsBuilt schema o.value.value) o.1 (map (λ e. e.1) os) (operation_is_built x.1 o.1 says.0.1) (named_built xs os says.1)

    abbrev FragmentIsBuilt : NameText × Node Fragment → Type 0
    FragmentIsBuilt entry = SameName entry.0 entry.1.value.value.name × SetsAreBuilt schema entry.1.value.value.selection_set

    fragments_built : (xs : List (NameText × FragmentDefinition)) (ds : List (NameText × Node Fragment)) →
        All OwnName xs → AllZip (SaysUnderName (FragmentSays (Some schema))) xs ds → All FragmentIsBuilt ds
    fragments_built [] [] own says = All-nil FragmentIsBuilt
    fragments_built [] (d ∷ ds) own says = absurd says
    fragments_built (x ∷ xs) [] own says = absurd says
    fragments_built (x ∷ xs) (d ∷ ds) own says =
        let fragment = says.0.1 in
        let named : SameName d.0 d.1.value.value.name = rw (says.0.0, fragment.name, All-head OwnName x xs own) (same_name_itself x.1.name) in
        All-cons FragmentIsBuilt d ds (named, λ inner. sets_are_built d.1.value.value.selection_set inner x.1.selection_set.selections fragment.selections) (fragments_built xs ds (All-tail OwnName x xs own) says.1)

pub document_is_built : (schema : Schema) (tree : Document) (document : ExecutableDocument) →
    DocumentSays (Some schema) tree document → StandsUnderOwnNames schema → HasOutputFields schema → IsBuilt schema document
document_is_built schema tree document says names out = record {
  names = names;
  operations = All-append (λ (o : Node Operation). OperationIsBuilt schema o.value.value) (option_to_list document.operations.anonymous) (values document.operations.named)
      (all_built schema out _ (option_to_list document.operations.anonymous) says.anonymous) (named_built schema out _ document.operations.named.entries says.named);
  fragments = fragments_built schema out (fragments_in tree.definitions) document.fragments.entries (own_names tree.definitions) says.fragments;
}
