-- Operations of one text use the same variables. Specification: 5.8 Variables.
use Rattle.std.proofs.Common.{◌∙◌, List, [], ◌∷◌, refl, sym, subst}
use Rattle.std.specs.List.{AllZip}
use Rattle.graphql_nodes.specs.Names.{NameText}
use Rattle.graphql_nodes.specs.declared.nodes.Node.{Node}
use Rattle.graphql_documents.specs.Selections.{Fragments, Reachable, arguments_of, directives_of, fragments_of}
use Rattle.graphql_documents.specs.Values.{StandsIn, VariablesIn, VariablesInEntries, VariablesInItems, in_boolean, in_enum, in_float, in_int, in_list, in_null, in_object, in_string, in_variable, next_entry, next_item, no_entries, no_items}
use Rattle.graphql_documents.specs.VariableUses as uses
use Rattle.graphql_documents.specs.VariableUses.{StandsInArguments, StandsInDirectives, UsesVariable}
use Rattle.graphql_documents.specs.declared.documents.directives.Argument.{Argument}
use Rattle.graphql_documents.specs.declared.documents.directives.Directive.{Directive}
use Rattle.graphql_documents.specs.declared.documents.executables.Operation.{Operation}
use Rattle.graphql_documents.specs.declared.documents.values.Value.{Value}
use Rattle.graphql_documents.specs.declared.documents.values.Value.TheVariants as literal
use Rattle.graphql_specification.specs.Variables.{VariablesAreUsed}
use Rattle.graphql_document_building.specs.SameDocuments.{SameUnderName}
use Rattle.graphql_kept_rules.specs.SameTexts.{SameOperationText, SameText}
use Rattle.graphql_documents.specs.declared.documents.executables.ExecutableDocument.{ExecutableDocument}
use Rattle.graphql_usage_rules.specs.UndefinedVariables.{UsedVariablesAreDefined, VariableUsesAreDefined}
use Rattle.graphql_kept_rules.proofs.TextFragmentLemmas.{fragments_back}
use Rattle.graphql_document_building.specs.SameLeaves.{SameArgument, SameArguments, SameContents, SameDirective, SameDirectives, SameValue, SameVariable}
use Rattle.graphql_sameness_laws.proofs.NamedLemmas.{variable_alike}
use Rattle.graphql_kept_rules.proofs.TextReachLemmas.{fragment_too, reachable_too}
use Rattle.graphql_kept_rules.proofs.TextSelectionLemmas.{SameFragments, as_spread, fragments_alike, operation_back, operation_set, operations_alike, own_arguments, own_directives}
use Rattle.graphql_sameness_laws.proofs.ValueLemmas.{boolean_too, enum_too, float_too, int_too, list_too, null_too, object_too, string_too, variable_too}
use Rattle.graphql_sameness_laws.proofs.ZipLemmas.{some_alike, zip_all, zip_any}

-- ==== the variables in values

mutual
  pub variables_in_too : {v : Value} {names : List NameText} → VariablesIn v names → (w : Value) → SameContents v w → VariablesIn w names
  variables_in_too in_null w same = subst (λ w. VariablesIn w []) (sym (null_too _ w same refl)) in_null
  variables_in_too (in_enum {name}) w same = subst (λ w. VariablesIn w []) (sym (enum_too _ w name same refl)) in_enum
  variables_in_too (in_variable {name}) w same = subst (λ w. VariablesIn w (name ∷ [])) (sym (variable_too _ w name same refl)) in_variable
  variables_in_too (in_string text) w same =
      let other = string_too (literal.String text) w text same refl in
      subst (λ w. VariablesIn w []) (sym other.2) (in_string other.0)
  variables_in_too (in_float {text}) w same = subst (λ w. VariablesIn w []) (sym (float_too _ w text same refl)) in_float
  variables_in_too (in_int {text}) w same = subst (λ w. VariablesIn w []) (sym (int_too _ w text same refl)) in_int
  variables_in_too (in_boolean {b}) w same = subst (λ w. VariablesIn w []) (sym (boolean_too _ w b same refl)) in_boolean
  variables_in_too (in_list items {names} inner) w same =
      let other = list_too (literal.List items) w items same refl in
      subst (λ w. VariablesIn w names) (sym other.2) (in_list other.0 (variables_in_items_too inner other.0.items other.1))
  variables_in_too (in_object entries {names} inner) w same =
      let other = object_too (literal.Object entries) w entries same refl in
      subst (λ w. VariablesIn w names) (sym other.2) (in_object other.0 (variables_in_entries_too inner other.0.items other.1))

  variables_in_items_too : {xs : List (Node Value)} {names : List NameText} → VariablesInItems xs names → (ys : List (Node Value)) → AllZip SameValue xs ys →
      VariablesInItems ys names
  variables_in_items_too no_items [] zip = no_items
  variables_in_items_too no_items (y ∷ ys) zip = absurd zip
  variables_in_items_too (next_item first rest) [] zip = absurd zip
  variables_in_items_too (next_item first rest) (y ∷ ys) zip = next_item (variables_in_too first y.value.value zip.0.contents) (variables_in_items_too rest ys zip.1)

  variables_in_entries_too : {xs : List (NameText × Node Value)} {names : List NameText} → VariablesInEntries xs names →
      (ys : List (NameText × Node Value)) → AllZip (SameUnderName SameValue) xs ys → VariablesInEntries ys names
  variables_in_entries_too no_entries [] zip = no_entries
  variables_in_entries_too no_entries (y ∷ ys) zip = absurd zip
  variables_in_entries_too (next_entry first rest) [] zip = absurd zip
  variables_in_entries_too (next_entry first rest) (y ∷ ys) zip =
      next_entry (variables_in_too first y.1.value.value zip.0.1.contents) (variables_in_entries_too rest ys zip.1)

stands_in_too : (name : NameText) (v w : Value) → SameContents v w → StandsIn name v → StandsIn name w
stands_in_too name v w same (names, used, inside, among, named) = (names, used, variables_in_too inside w same, among, named)

stands_in_arguments_too : (name : NameText) (xs ys : List (Node Argument)) → SameArguments xs ys → StandsInArguments name xs → StandsInArguments name ys
stands_in_arguments_too name xs ys same =
    zip_any SameArgument (λ a. StandsIn name a.value.value.value.value.value) (λ a. StandsIn name a.value.value.value.value.value)
    (λ x y p h. stands_in_too name _ _ p.value.contents h) xs ys same

stands_in_directives_too : (name : NameText) (xs ys : List (Node Directive)) → SameDirectives xs ys → StandsInDirectives name xs → StandsInDirectives name ys
stands_in_directives_too name xs ys same =
    zip_any SameDirective (λ d. StandsInArguments name d.value.value.arguments.items) (λ d. StandsInArguments name d.value.value.arguments.items)
    (λ x y p h. stands_in_arguments_too name _ _ p.arguments h) xs ys same

-- ==== operations

module _ (before after : Fragments) (alike : SameFragments before after) (o p : Node Operation) (same : SameOperationText o p) where
  pub uses_too : (name : NameText) → UsesVariable before o.value.value name → UsesVariable after p.value.value name
  uses_too name (uses.in_operation stands) = uses.in_operation (stands_in_directives_too name _ _ same.directives stands)
  uses_too name (uses.in_directives {s = s} reached stands) =
      let t = reachable_too before after alike reached p.value.value.selection_set (operation_set o p same) in
      uses.in_directives t.1 (stands_in_directives_too name (directives_of s) (directives_of t.0) (own_directives t.2) stands)
  uses_too name (uses.in_arguments {s = s} reached stands) =
      let t = reachable_too before after alike reached p.value.value.selection_set (operation_set o p same) in
      uses.in_arguments t.1 (stands_in_arguments_too name (arguments_of s) (arguments_of t.0) (own_arguments t.2) stands)
  uses_too name (uses.in_fragment_definition {p = spread} {d = d} reached defined stands) =
      let t = reachable_too before after alike reached p.value.value.selection_set (operation_set o p same) in
      let q = as_spread spread t.0 t.2 in
      let e = fragment_too before after alike spread.value.value.fragment_name q.0.value.value.fragment_name d q.1.name defined in
      uses.in_fragment_definition (subst (Reachable after p.value.value.selection_set) q.2 t.1) e.1 (stands_in_directives_too name _ _ e.2.directives stands)

  pub variables_used_too : VariablesAreUsed before o.value.value → VariablesAreUsed after p.value.value
  variables_used_too = zip_all SameVariable
      (λ v. UsesVariable before o.value.value v.value.value.name) (λ v. UsesVariable after p.value.value v.value.value.name)
      (λ v w q h. subst (UsesVariable after p.value.value) q.name (uses_too v.value.value.name h)) _ _ same.variables

-- ==== variables that are used are defined

module _ (before after : Fragments) (alike : SameFragments before after) where
  uses_defined_too : (o p : Node Operation) → SameOperationText o p → UsedVariablesAreDefined before o.value.value → UsedVariablesAreDefined after p.value.value
  uses_defined_too o p same h name uses =
      sym (some_alike SameVariable _ _ (variable_alike name o.value.value.variables.items p.value.value.variables.items same.variables)) ∙
      h name (uses_too after before (fragments_back before after alike) p o (operation_back o p same) name uses)

pub variable_uses_too : (d e : ExecutableDocument) → SameText d e → VariableUsesAreDefined d → VariableUsesAreDefined e
variable_uses_too d e same =
    zip_all SameOperationText (λ o. UsedVariablesAreDefined (fragments_of d) o.value.value) (λ o. UsedVariablesAreDefined (fragments_of e) o.value.value)
    (uses_defined_too (fragments_of d) (fragments_of e) (fragments_alike d e same)) _ _ (operations_alike d e same)
