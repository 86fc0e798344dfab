-- What can be built against a schema can be built against one that keeps documents valid. Specification: 5.3.1 Field Selections, 5.3.3 Leaf Field
-- Selections, 5.5.1.2 Fragment Spread Type Existence, 5.5.1.3 Fragments On Composite Types.
use Rattle.std.proofs.Common.{◌≡◌, ◌∙◌, inl, false, Option, None, Some, Ok, List, refl, sym, ap, subst}
use Rattle.std.specs.Prelude.{IsFalse, IsTrue, unwrap_or}
use Rattle.std.specs.Option.{option_map_or}
use Rattle.std.proofs.lemmas.List.Elements.{All-weaker}
use Rattle.graphql_nodes.specs.Names.{NameText, SameName}
use Rattle.graphql_nodes.proofs.NameLemmas.{same_name_itself}
use Rattle.graphql_documents.specs.Schemas.{NamesKind, is_composite, is_output_type, type_definition, type_field}
use Rattle.graphql_documents.specs.declared.documents.components.Component.{Component}
use Rattle.graphql_documents.specs.declared.documents.definitions.FieldDefinition.{FieldDefinition}
use Rattle.graphql_documents.specs.declared.documents.schemas.ExtendedType.{ExtendedType}
use Rattle.graphql_documents.specs.declared.documents.schemas.ExtendedType.TheVariants.{Scalar, Object, Interface, Union, Enum, InputObject}
use Rattle.graphql_documents.specs.declared.documents.schemas.Schema.{Schema}
use Rattle.graphql_trees.specs.declared.documents.Definition.{Definition}
use Rattle.graphql_trees.specs.declared.documents.Definition.TheVariants as definition
use Rattle.graphql_trees.specs.declared.documents.Document.{Document}
use Rattle.graphql_trees.specs.declared.executable.Field.{Field, out-Field}
use Rattle.graphql_trees.specs.declared.executable.FragmentDefinition.{FragmentDefinition}
use Rattle.graphql_trees.specs.declared.executable.OperationDefinition.{OperationDefinition}
use Rattle.graphql_trees.specs.declared.executable.Selection.{Selection}
use Rattle.graphql_specification.specs.Fragments.{NamesComposite}
use Rattle.graphql_document_building.specs.BuildingRules.{DefinitionBuilds, DocumentBuilds, FieldBuilds, FragmentBuilds, OperationBuilds, SelectionsBuild}
use Rattle.graphql_document_building.specs.Trees.{StandsOn, is_condition_composite, is_leaf_type, is_type_composite, names_leaf_type, root_name, stands_below_field, stands_here, stands_in_inline_fragment, type_below}
use Rattle.graphql_schema_changes.specs.Keeps.{KeepsField, KeepsLoneFieldsValid}
use Rattle.graphql_kept_rules.proofs.FoundLemmas.{one_ok, some_and_found}
use Rattle.graphql_kept_rules.proofs.NameLemmas.{one_field}
use Rattle.graphql_kept_rules.proofs.PairedLemmas.{has_composite}

-- ==== names of composite types

pub composite_named : (schema : Schema) (name : NameText) → IsTrue (is_type_composite schema name) → NamesComposite schema name
composite_named schema name h = by (type_definition schema name) refl h
  where
    by : (o : Option ExtendedType) → type_definition schema name ≡ o → IsTrue (option_map_or is_composite o false) → NamesComposite schema name
    by None is h = absurd (let no : ⊥ = cc in no)
    by (Some d) is h = (d, is, h)

pub named_composite : (schema : Schema) (name : NameText) → NamesComposite schema name → IsTrue (is_type_composite schema name)
named_composite schema name h = ap (λ o. option_map_or is_composite o false) h.1 ∙ h.2

-- an output type that is no leaf
pub composite_output : (schema : Schema) (name : NameText) → NamesKind schema is_output_type name → IsFalse (names_leaf_type schema name) → NamesComposite schema name
composite_output schema name (d, is, output) leaf = by d is output (sym (ap (λ o. option_map_or is_leaf_type o false) is) ∙ leaf)
  where
    by : (d : ExtendedType) → type_definition schema name ≡ Some d → IsTrue (is_output_type d) → IsFalse (is_leaf_type d) → NamesComposite schema name
    by (Scalar x) is output leaf = absurd (let no : ⊥ = cc in no)
    by (Object x) is output leaf = (Object x, is, refl)
    by (Interface x) is output leaf = (Interface x, is, refl)
    by (Union x) is output leaf = (Union x, is, refl)
    by (Enum x) is output leaf = absurd (let no : ⊥ = cc in no)
    by (InputObject x) is output leaf = absurd (let no : ⊥ = cc in no)

-- a composite type is no leaf
pub composite_no_leaf : (schema : Schema) (name : NameText) → NamesComposite schema name → IsFalse (names_leaf_type schema name)
composite_no_leaf schema name (d, is, composite) = ap (λ o. option_map_or is_leaf_type o false) is ∙ by d composite
  where
    by : (d : ExtendedType) → IsTrue (is_composite d) → IsFalse (is_leaf_type d)
    by (Scalar x) composite = absurd (let no : ⊥ = cc in no)
    by (Object x) composite = refl
    by (Interface x) composite = refl
    by (Union x) composite = refl
    by (Enum x) composite = absurd (let no : ⊥ = cc in no)
    by (InputObject x) composite = absurd (let no : ⊥ = cc in no)

module _ (old new : Schema) (keeps : KeepsLoneFieldsValid old new) where
  pub composite_still : (name : NameText) → NamesComposite old name → NamesComposite new name
  composite_still name h = (keeps.conditions name h name h (λ a b p q. inl (same_name_itself name))).0

  condition_still : (o : Option NameText) → IsTrue (is_condition_composite old o) → IsTrue (is_condition_composite new o)
  condition_still None h = refl
  condition_still (Some condition) h = named_composite new condition (composite_still condition (composite_named old condition h))

  record StillHas (p q : NameText) (f : NameText) (d : Component FieldDefinition) : Type 0 where
    e : Component FieldDefinition
    is : type_field new q f ≡ Ok e
    kept : KeepsField old new d e

  still_has : (p q f : NameText) (d : Component FieldDefinition) → SameName p q → type_field old p f ≡ Ok d → StillHas p q f d
  still_has p q f d same was =
      let k = keeps.fields p (has_composite old p f d was) f d was in
      record { e = k.0; is = sym (one_field new f p q same) ∙ k.1; kept = k.2 }

  one_condition : (o : Option NameText) (p q : NameText) → SameName p q → SameName (unwrap_or o p) (unwrap_or o q)
  one_condition None p q same = same
  one_condition (Some condition) p q same = same_name_itself condition

  stands_back : {q there : NameText} {trees : List Selection} {s : Selection} → StandsOn new q trees s there → (p : NameText) → SameName p q → SelectionsBuild old p trees →
      (here : NameText) × StandsOn old p trees s here × SameName here there
  stands_back (stands_here c) p same builds = (p, stands_here c, same)
  stands_back (stands_below_field {parent = q} f e c found leaf below) p same builds =
      let h = builds.fields f p (stands_here c) in
      let k = still_has p q (out-Field f).name h.definition same h.defined in
      let one : k.e ≡ e = one_ok (type_field new q (out-Field f).name) k.e e k.is found in
      let keeps_it : KeepsField old new h.definition e = subst (KeepsField old new h.definition) one k.kept in
      let no_leaf : IsFalse (names_leaf_type old (type_below h.definition)) = sym keeps_it.leaf ∙ leaf in
      let deep = stands_back below (type_below h.definition) (keeps_it.composite no_leaf) (record {
        fields = λ g here st. builds.fields g here (stands_below_field f h.definition c h.defined no_leaf st);
        inline_fragments = λ g here st. builds.inline_fragments g here (stands_below_field f h.definition c h.defined no_leaf st);
      }) in
      (deep.0, stands_below_field f h.definition c h.defined no_leaf deep.1, deep.2)
  stands_back (stands_in_inline_fragment {parent = q} i c composite below) p same builds =
      let composite_before = builds.inline_fragments i p (stands_here c) in
      let deep = stands_back below (unwrap_or i.type_condition p) (one_condition i.type_condition p q same) (record {
        fields = λ g here st. builds.fields g here (stands_in_inline_fragment i c composite_before st);
        inline_fragments = λ g here st. builds.inline_fragments g here (stands_in_inline_fragment i c composite_before st);
      }) in
      (deep.0, stands_in_inline_fragment i c composite_before deep.1, deep.2)

  field_builds_still : (here there : NameText) (f : Field) → SameName here there → FieldBuilds old here f → FieldBuilds new there f
  field_builds_still here there f same h =
      let k = still_has here there (out-Field f).name h.definition same h.defined in
      record { definition = k.e; defined = k.is; leaf = λ leaf. h.leaf (sym k.kept.leaf ∙ leaf) }

  selections_build_still : (p q : NameText) (trees : List Selection) → SameName p q → SelectionsBuild old p trees → SelectionsBuild new q trees
  selections_build_still p q trees same h = record {
    fields = λ f there st.
        let back = stands_back st p same h in
        field_builds_still back.0 there f back.2 (h.fields f back.0 back.1);
    inline_fragments = λ i there st.
        let back = stands_back st p same h in
        condition_still i.type_condition (h.inline_fragments i back.0 back.1);
  }

  operation_builds_still : (x : OperationDefinition) → OperationBuilds old x → OperationBuilds new x
  operation_builds_still x h =
      let root = some_and_found (root_name new x.operation_type) (SameName h.root) (keeps.roots x.operation_type h.root h.defined) in
      record { root = root.0; defined = root.1; selections = selections_build_still h.root root.0 x.selection_set.selections root.2 h.selections }

  fragment_builds_still : (x : FragmentDefinition) → FragmentBuilds old x → FragmentBuilds new x
  fragment_builds_still x h = record {
    composite = named_composite new x.type_condition (composite_still x.type_condition (composite_named old x.type_condition h.composite));
    selections = selections_build_still x.type_condition x.type_condition x.selection_set.selections (same_name_itself x.type_condition) h.selections;
  }

  definition_builds_still : (x : Definition) → DefinitionBuilds (Some old) x → DefinitionBuilds (Some new) x
  definition_builds_still (definition.Operation x) h = operation_builds_still x h
  definition_builds_still (definition.Fragment x) h = fragment_builds_still x h
  definition_builds_still _ h = absurd h

  pub document_builds_still : (x : Document) → DocumentBuilds (Some old) x → DocumentBuilds (Some new) x
  document_builds_still x h = record {
    definitions = All-weaker (DefinitionBuilds (Some old)) (DefinitionBuilds (Some new)) definition_builds_still x.definitions h.definitions;
    anonymous_operation = h.anonymous_operation;
    operation_names = h.operation_names;
    fragment_names = h.fragment_names;
  }
