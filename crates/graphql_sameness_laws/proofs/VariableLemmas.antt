-- Operations that are the same define and use the same variables. Specification: 5.8 Variables.
use Rattle.std.proofs.Common.{List, [], ◌∷◌, Option, None, refl, sym, subst}
use Rattle.std.specs.List.{AllZip}
use Rattle.graphql_nodes.specs.Names.{AreDistinct, NameText}
use Rattle.graphql_nodes.specs.declared.directive_locations.DirectiveLocation.TheVariants as allowed_at
use Rattle.graphql_nodes.specs.declared.nodes.Node.{Node}
use Rattle.graphql_documents.specs.Contents.{SameIfAny}
use Rattle.graphql_documents.specs.Selections.{Fragments, Reachable, arguments_of, directives_of}
use Rattle.graphql_documents.specs.Values.{StandsIn, VariablesIn, VariablesInEntries, VariablesInItems, in_boolean, in_enum, in_float, in_int, in_list, in_null, in_object, in_string, in_variable, next_entry, next_item, no_entries, no_items}
use Rattle.graphql_documents.specs.VariableUses as uses
use Rattle.graphql_documents.specs.VariableUses.{StandsInArguments, StandsInDirectives, UsesVariable}
use Rattle.graphql_documents.specs.declared.documents.definitions.VariableDefinition.{VariableDefinition}
use Rattle.graphql_documents.specs.declared.documents.directives.Argument.{Argument}
use Rattle.graphql_documents.specs.declared.documents.directives.Directive.{Directive}
use Rattle.graphql_documents.specs.declared.documents.executables.Operation.{Operation}
use Rattle.graphql_documents.specs.declared.documents.schemas.Schema.{Schema}
use Rattle.graphql_documents.specs.declared.documents.values.Value.{Value}
use Rattle.graphql_documents.specs.declared.documents.values.Value.TheVariants as literal
use Rattle.graphql_specification.specs.Variables.{VariableDefinitionHolds, VariableDefinitionsHold, VariablesAreUsed, VariablesHold}
use Rattle.graphql_document_building.specs.SameDocuments.{SameOperation, SameUnderName}
use Rattle.graphql_document_building.specs.SameLeaves.{SameArgument, SameArguments, SameContents, SameDirective, SameDirectives, SameValue, SameVariable}
use Rattle.graphql_building_laws.specs.SameSchemas.{SameSchema}
use Rattle.graphql_sameness_laws.proofs.AcceptLemmas.{accepts_too}
use Rattle.graphql_sameness_laws.proofs.DirectiveLemmas.{applications_too, schemas_back}
use Rattle.graphql_sameness_laws.proofs.LeafLemmas.{variable_back}
use Rattle.graphql_sameness_laws.proofs.NamedLemmas.{default_alike}
use Rattle.graphql_sameness_laws.proofs.ReachLemmas.{fragment_too, reachable_too}
use Rattle.graphql_sameness_laws.proofs.SchemaLookupLemmas.{names_kind_too, schema_too}
use Rattle.graphql_sameness_laws.proofs.SchemaSamenessLemmas.{schema_back}
use Rattle.graphql_sameness_laws.proofs.SelectionLemmas.{SameFragments, as_spread, operation_set, own_arguments, own_directives}
use Rattle.graphql_sameness_laws.proofs.TypeKindLemmas.{both_input_type}
use Rattle.graphql_sameness_laws.proofs.TypeLemmas.{one_name}
use Rattle.graphql_sameness_laws.proofs.ValueLemmas.{boolean_too, contents_back, enum_too, float_too, int_too, list_too, null_too, object_too, string_too, variable_too}
use Rattle.graphql_sameness_laws.proofs.ZipLemmas.{other_side, zip_all, zip_any, zip_one}

-- ==== the variables in values

mutual
  pub variables_in_too : {v : Value} {names : List NameText} → VariablesIn v names → (w : Value) → SameContents v w → VariablesIn w names
  variables_in_too in_null w same = subst (λ w. VariablesIn w []) (sym (null_too _ w same refl)) in_null
  variables_in_too (in_enum {name}) w same = subst (λ w. VariablesIn w []) (sym (enum_too _ w name same refl)) in_enum
  variables_in_too (in_variable {name}) w same = subst (λ w. VariablesIn w (name ∷ [])) (sym (variable_too _ w name same refl)) in_variable
  variables_in_too (in_string text) w same =
      let other = string_too (literal.String text) w text same refl in
      subst (λ w. VariablesIn w []) (sym other.2) (in_string other.0)
  variables_in_too (in_float {text}) w same = subst (λ w. VariablesIn w []) (sym (float_too _ w text same refl)) in_float
  variables_in_too (in_int {text}) w same = subst (λ w. VariablesIn w []) (sym (int_too _ w text same refl)) in_int
  variables_in_too (in_boolean {b}) w same = subst (λ w. VariablesIn w []) (sym (boolean_too _ w b same refl)) in_boolean
  variables_in_too (in_list items {names} inner) w same =
      let other = list_too (literal.List items) w items same refl in
      subst (λ w. VariablesIn w names) (sym other.2) (in_list other.0 (variables_in_items_too inner other.0.items other.1))
  variables_in_too (in_object entries {names} inner) w same =
      let other = object_too (literal.Object entries) w entries same refl in
      subst (λ w. VariablesIn w names) (sym other.2) (in_object other.0 (variables_in_entries_too inner other.0.items other.1))

  variables_in_items_too : {xs : List (Node Value)} {names : List NameText} → VariablesInItems xs names → (ys : List (Node Value)) → AllZip SameValue xs ys →
      VariablesInItems ys names
  variables_in_items_too no_items [] zip = no_items
  variables_in_items_too no_items (y ∷ ys) zip = absurd zip
  variables_in_items_too (next_item first rest) [] zip = absurd zip
  variables_in_items_too (next_item first rest) (y ∷ ys) zip = next_item (variables_in_too first y.value.value zip.0.contents) (variables_in_items_too rest ys zip.1)

  variables_in_entries_too : {xs : List (NameText × Node Value)} {names : List NameText} → VariablesInEntries xs names →
      (ys : List (NameText × Node Value)) → AllZip (SameUnderName SameValue) xs ys → VariablesInEntries ys names
  variables_in_entries_too no_entries [] zip = no_entries
  variables_in_entries_too no_entries (y ∷ ys) zip = absurd zip
  variables_in_entries_too (next_entry first rest) [] zip = absurd zip
  variables_in_entries_too (next_entry first rest) (y ∷ ys) zip =
      next_entry (variables_in_too first y.1.value.value zip.0.1.contents) (variables_in_entries_too rest ys zip.1)

stands_in_too : (name : NameText) (v w : Value) → SameContents v w → StandsIn name v → StandsIn name w
stands_in_too name v w same (names, used, inside, among, named) = (names, used, variables_in_too inside w same, among, named)

stands_in_arguments_too : (name : NameText) (xs ys : List (Node Argument)) → SameArguments xs ys → StandsInArguments name xs → StandsInArguments name ys
stands_in_arguments_too name xs ys same =
    zip_any SameArgument (λ a. StandsIn name a.value.value.value.value.value) (λ a. StandsIn name a.value.value.value.value.value)
    (λ x y p h. stands_in_too name _ _ p.value.contents h) xs ys same

stands_in_directives_too : (name : NameText) (xs ys : List (Node Directive)) → SameDirectives xs ys → StandsInDirectives name xs → StandsInDirectives name ys
stands_in_directives_too name xs ys same =
    zip_any SameDirective (λ d. StandsInArguments name d.value.value.arguments.items) (λ d. StandsInArguments name d.value.value.arguments.items)
    (λ x y p h. stands_in_arguments_too name _ _ p.arguments h) xs ys same

-- ==== operations

module _ (before after : Fragments) (alike : SameFragments before after) (o p : Node Operation) (same : SameOperation None o p) where
  pub uses_too : (name : NameText) → UsesVariable before o.value.value name → UsesVariable after p.value.value name
  uses_too name (uses.in_operation stands) = uses.in_operation (stands_in_directives_too name _ _ same.directives stands)
  uses_too name (uses.in_directives {s = s} reached stands) =
      let t = reachable_too before after alike reached p.value.value.selection_set (operation_set o p same) in
      uses.in_directives t.1 (stands_in_directives_too name (directives_of s) (directives_of t.0) (own_directives t.2) stands)
  uses_too name (uses.in_arguments {s = s} reached stands) =
      let t = reachable_too before after alike reached p.value.value.selection_set (operation_set o p same) in
      uses.in_arguments t.1 (stands_in_arguments_too name (arguments_of s) (arguments_of t.0) (own_arguments t.2) stands)
  uses_too name (uses.in_fragment_definition {p = spread} {d = d} reached defined stands) =
      let t = reachable_too before after alike reached p.value.value.selection_set (operation_set o p same) in
      let q = as_spread spread t.0 t.2 in
      let e = fragment_too before after alike spread.value.value.fragment_name q.0.value.value.fragment_name d q.1.name defined in
      uses.in_fragment_definition (subst (Reachable after p.value.value.selection_set) q.2 t.1) e.1 (stands_in_directives_too name _ _ e.2.directives stands)

  pub variables_used_too : VariablesAreUsed before o.value.value → VariablesAreUsed after p.value.value
  variables_used_too = zip_all SameVariable
      (λ v. UsesVariable before o.value.value v.value.value.name) (λ v. UsesVariable after p.value.value v.value.value.name)
      (λ v w q h. subst (UsesVariable after p.value.value) q.name (uses_too v.value.value.name h)) _ _ same.variables

module _ (oa ob : Option Schema) (schemas : SameIfAny SameSchema oa ob) where
  definition_holds_too : (v w : Node VariableDefinition) → SameVariable v w → VariableDefinitionHolds oa v.value.value → VariableDefinitionHolds ob w.value.value
  definition_holds_too v w same h = record {
    directives = applications_too oa ob schemas [] [] tt allowed_at.VariableDefinition _ _ same.directives h.directives;
    type_holds = λ b has.
        let a = schema_too ob oa b (schemas_back oa ob schemas) has in
        names_kind_too a.0 b (schema_back b a.0 a.2) _ both_input_type _ _ (one_name _ _ same.ty.written) (h.type_holds a.0 a.1);
    default_holds = λ b has value is.
        let a = schema_too ob oa b (schemas_back oa ob schemas) has in
        let back = variable_back v w same in
        let x = other_side SameValue w.value.value.default_value v.value.value.default_value value (default_alike _ _ back.default_value) is in
        accepts_too a.0 b (schema_back b a.0 a.2) [] [] tt (h.default_holds a.0 a.1 x.0 x.1) w.value.value.ty.value.value value.value.value same.ty.written
        (contents_back x.2.contents);
  }

  pub definitions_hold_too : (xs ys : List (Node VariableDefinition)) → AllZip SameVariable xs ys → VariableDefinitionsHold oa xs → VariableDefinitionsHold ob ys
  definitions_hold_too xs ys zip h = record {
    each = zip_all SameVariable (λ v. VariableDefinitionHolds oa v.value.value) (λ v. VariableDefinitionHolds ob v.value.value) definition_holds_too xs ys zip h.each;
    distinct = subst AreDistinct (zip_one SameVariable (λ v. v.value.value.name) (λ x y p. p.name) xs ys zip) h.distinct;
  }

  module _ (before after : Fragments) (alike : SameFragments before after) (o p : Node Operation) (same : SameOperation None o p) where
    pub variables_hold_too : VariablesHold oa before o.value.value → VariablesHold ob after p.value.value
    variables_hold_too h = record {
      definitions = definitions_hold_too _ _ same.variables h.definitions;
      used = variables_used_too before after alike o p same h.used;
    }
