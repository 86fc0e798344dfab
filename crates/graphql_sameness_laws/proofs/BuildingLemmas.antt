-- What can be built against a schema can be built against one that is the same. Specification: 5.3.1 Field Selections, 5.3.3 Leaf Field Selections,
-- 5.5.1.2 Fragment Spread Type Existence, 5.5.1.3 Fragments On Composite Types.
use Rattle.std.proofs.Common.{◌≡◌, ◌∙◌, Bool, false, List, Option, None, Some, Ok, Err, Result, refl, sym, ap, subst}
use Rattle.std.specs.Prelude.{IsFalse, option_map}
use Rattle.std.specs.Option.{option_map_or}
use Rattle.std.specs.Result.{result_ok}
use Rattle.std.proofs.lemmas.List.Elements.{All-weaker}
use Rattle.graphql_nodes.specs.Names.{NameText}
use Rattle.graphql_documents.specs.Contents.{SameIfAny}
use Rattle.graphql_documents.specs.Schemas.{is_composite, type_definition, type_field}
use Rattle.graphql_documents.specs.declared.documents.components.Component.{Component}
use Rattle.graphql_documents.specs.declared.documents.components.ComponentName.{ComponentName}
use Rattle.graphql_documents.specs.declared.documents.definitions.FieldDefinition.{FieldDefinition}
use Rattle.graphql_documents.specs.declared.documents.schemas.ExtendedType.{ExtendedType}
use Rattle.graphql_documents.specs.declared.documents.schemas.ExtendedType.TheVariants.{Scalar, Object, Interface, Union, Enum, InputObject}
use Rattle.graphql_documents.specs.declared.documents.schemas.Schema.{Schema}
use Rattle.graphql_trees.specs.declared.documents.Definition.{Definition}
use Rattle.graphql_trees.specs.declared.documents.Definition.TheVariants as definition
use Rattle.graphql_trees.specs.declared.documents.Document.{Document}
use Rattle.graphql_trees.specs.declared.executable.Field.{Field, out-Field}
use Rattle.graphql_trees.specs.declared.executable.FragmentDefinition.{FragmentDefinition}
use Rattle.graphql_trees.specs.declared.executable.OperationDefinition.{OperationDefinition}
use Rattle.graphql_trees.specs.declared.executable.Selection.{Selection}
use Rattle.graphql_document_building.specs.BuildingRules.{DefinitionBuilds, DocumentBuilds, FieldBuilds, FragmentBuilds, OperationBuilds, SelectionsBuild}
use Rattle.graphql_document_building.specs.SameLeaves.{SameField}
use Rattle.graphql_document_building.specs.Trees.{StandsOn, is_condition_composite, is_leaf_type, is_type_composite, names_leaf_type, selections_in, stands_below_field, stands_here, stands_in_inline_fragment, type_below}
use Rattle.graphql_building_laws.specs.SameSchemas.{SameComponent, SameSchema, SameType}
use Rattle.graphql_sameness_laws.proofs.SchemaLookupLemmas.{field_alike, one_root_operation, type_alike}
use Rattle.graphql_sameness_laws.proofs.SchemaSamenessLemmas.{schema_back}
use Rattle.graphql_sameness_laws.proofs.TypeKindLemmas.{both_composite}
use Rattle.graphql_sameness_laws.proofs.TypeLemmas.{one_name}
use Rattle.graphql_sameness_laws.proofs.ZipLemmas.{other_side}

both_leaf : (x y : ExtendedType) → SameType x y → is_leaf_type x ≡ is_leaf_type y
both_leaf (Scalar d) (Scalar e) same = refl
both_leaf (Object d) (Object e) same = refl
both_leaf (Interface d) (Interface e) same = refl
both_leaf (Union d) (Union e) same = refl
both_leaf (Enum d) (Enum e) same = refl
both_leaf (InputObject d) (InputObject e) same = refl
both_leaf _ _ same = absurd same

tested : (test : ExtendedType → Bool) → ((x y : ExtendedType) → SameType x y → test x ≡ test y) → (o p : Option ExtendedType) → SameIfAny SameType o p →
    option_map_or test o false ≡ option_map_or test p false
tested test alike None None same = refl
tested test alike None (Some y) same = absurd same
tested test alike (Some x) None same = absurd same
tested test alike (Some x) (Some y) same = alike x y same

found_ok : {X E : Type 0} (r : Result X E) (x : X) → result_ok r ≡ Some x → r ≡ Ok x
found_ok (Ok y) x e = let same : y ≡ x = cc in ap Ok same
found_ok (Err y) x e = absurd (let no : ⊥ = cc in no)

module _ (a b : Schema) (schemas : SameSchema a b) where
  pub field_ok_too : (parent name : NameText) (d : Component FieldDefinition) → type_field a parent name ≡ Ok d →
      (e : Component FieldDefinition) × (type_field b parent name ≡ Ok e) × SameComponent SameField d e
  field_ok_too parent name d is =
      let e = other_side (SameComponent SameField) (result_ok (type_field a parent name)) (result_ok (type_field b parent name)) d
      (field_alike a b schemas parent name) (ap result_ok is) in
      (e.0, found_ok (type_field b parent name) e.0 e.1, e.2)

  both_name_leaf : (name : NameText) → names_leaf_type a name ≡ names_leaf_type b name
  both_name_leaf name = tested is_leaf_type both_leaf (type_definition a name) (type_definition b name) (type_alike a b schemas name)

  both_name_composite : (name : NameText) → is_type_composite a name ≡ is_type_composite b name
  both_name_composite name = tested is_composite both_composite (type_definition a name) (type_definition b name) (type_alike a b schemas name)

  both_conditions : (condition : Option NameText) → is_condition_composite a condition ≡ is_condition_composite b condition
  both_conditions None = refl
  both_conditions (Some condition) = both_name_composite condition

  stands_too : {parent here : NameText} {trees : List Selection} {s : Selection} → StandsOn a parent trees s here → StandsOn b parent trees s here
  stands_too (stands_here c) = stands_here c
  stands_too {here = here} {s = s} (stands_below_field {parent = parent} f d c is no_leaf below) =
      let e = field_ok_too parent (out-Field f).name d is in
      let name : type_below d ≡ type_below e.0 = one_name _ _ e.2.1.ty in
      stands_below_field f e.0 c e.1 (subst (λ n. IsFalse (names_leaf_type b n)) name (sym (both_name_leaf (type_below d)) ∙ no_leaf))
      (subst (λ n. StandsOn b n (selections_in (out-Field f).selection_set) s here) name (stands_too below))
  stands_too (stands_in_inline_fragment i c composite below) =
      stands_in_inline_fragment i c (sym (both_conditions i.type_condition) ∙ composite) (stands_too below)

module _ (a b : Schema) (schemas : SameSchema a b) where
  field_builds_too : (here : NameText) (f : Field) → FieldBuilds a here f → FieldBuilds b here f
  field_builds_too here f h =
      let e = field_ok_too a b schemas here (out-Field f).name h.definition h.defined in
      record {
        definition = e.0;
        defined = e.1;
        leaf = λ is. h.leaf (both_name_leaf a b schemas (type_below h.definition) ∙ ap (names_leaf_type b) (one_name _ _ e.2.1.ty) ∙ is);
      }

  selections_build_too : (parent : NameText) (trees : List Selection) → SelectionsBuild a parent trees → SelectionsBuild b parent trees
  selections_build_too parent trees h =
      let back = schema_back a b schemas in
      record {
        fields = λ f here stands. field_builds_too here f (h.fields f here (stands_too b a back stands));
        inline_fragments = λ i here stands. sym (both_conditions a b schemas i.type_condition) ∙ h.inline_fragments i here (stands_too b a back stands);
      }

  operation_builds_too : (x : OperationDefinition) → OperationBuilds a x → OperationBuilds b x
  operation_builds_too x h = record {
    root = h.root;
    defined = sym (ap (option_map (λ (root : ComponentName). root.name)) (one_root_operation a b schemas x.operation_type)) ∙ h.defined;
    selections = selections_build_too h.root x.selection_set.selections h.selections;
  }

  fragment_builds_too : (x : FragmentDefinition) → FragmentBuilds a x → FragmentBuilds b x
  fragment_builds_too x h = record {
    composite = sym (both_name_composite a b schemas x.type_condition) ∙ h.composite;
    selections = selections_build_too x.type_condition x.selection_set.selections h.selections;
  }

  definition_builds_too : (x : Definition) → DefinitionBuilds (Some a) x → DefinitionBuilds (Some b) x
  definition_builds_too (definition.Operation x) h = operation_builds_too x h
  definition_builds_too (definition.Fragment x) h = fragment_builds_too x h
  definition_builds_too _ h = absurd h

  pub document_builds_too : (x : Document) → DocumentBuilds (Some a) x → DocumentBuilds (Some b) x
  document_builds_too x h = record {
    definitions = All-weaker (DefinitionBuilds (Some a)) (DefinitionBuilds (Some b)) definition_builds_too x.definitions h.definitions;
    anonymous_operation = h.anonymous_operation;
    operation_names = h.operation_names;
    fragment_names = h.fragment_names;
  }
