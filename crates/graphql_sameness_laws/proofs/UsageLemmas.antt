-- Operations that are the same use the same variables in the same way. Specification: 5.8.3 All Variable Uses Defined, 5.8.5 All Variable Usages
-- Are Allowed.
use Rattle.std.proofs.Common.{◌≡◌, ◌∙◌, ◌&&◌, inl, inr, not, List, None, Some, refl, sym, ap₂, subst}
use Rattle.std.specs.Option.{option_and_then}
use Rattle.indexmap.specs.IndexMap.{get}
use Rattle.graphql_nodes.specs.Names.{NameText, same_name}
use Rattle.graphql_nodes.specs.declared.nodes.Node.{Node}
use Rattle.graphql_documents.specs.Contents.{SameIfAny}
use Rattle.graphql_documents.specs.Definitions.{definition_named, variable_named}
use Rattle.graphql_documents.specs.Directives.{directive_definition}
use Rattle.graphql_documents.specs.Schemas.{input_object_named}
use Rattle.graphql_documents.specs.Selections.{Fragments, Reachable, arguments_of, directives_of, fragments_of}
use Rattle.graphql_documents.specs.TypeReferences.{as_written, inner_named_type, is_non_null, nullable}
use Rattle.graphql_documents.specs.declared.documents.definitions.DirectiveDefinition.{DirectiveDefinition}
use Rattle.graphql_documents.specs.declared.documents.definitions.InputValueDefinition.{InputValueDefinition}
use Rattle.graphql_documents.specs.declared.documents.definitions.VariableDefinition.{VariableDefinition}
use Rattle.graphql_documents.specs.declared.documents.directives.Argument.{Argument}
use Rattle.graphql_documents.specs.declared.documents.directives.Directive.{Directive}
use Rattle.graphql_documents.specs.declared.documents.executables.ExecutableDocument.{ExecutableDocument}
use Rattle.graphql_documents.specs.declared.documents.executables.Operation.{Operation}
use Rattle.graphql_documents.specs.declared.documents.executables.Selection.{Selection}
use Rattle.graphql_documents.specs.declared.documents.executables.Selection.TheVariants as kind
use Rattle.graphql_documents.specs.declared.documents.schemas.Schema.{Schema}
use Rattle.graphql_documents.specs.declared.documents.type_references.Type.{«Type»}
use Rattle.graphql_documents.specs.declared.documents.values.Value.{Value}
use Rattle.graphql_document_building.specs.SameDocuments.{SameDocument, SameOperation, SameSelection, SameUnderName, same_field, same_inline_fragment, same_spread}
use Rattle.graphql_document_building.specs.SameLeaves.{SameArgument, SameArguments, SameDirective, SameDirectiveDefinition, SameDirectives, SameInputValue, SameInputValues, SameValue, SameVariable}
use Rattle.graphql_building_laws.specs.SameSchemas.{SameComponent, SameInputObject, SameSchema}
use Rattle.graphql_sameness_laws.proofs.ArgumentLemmas.{match_too, non_null_default_too}
use Rattle.graphql_sameness_laws.proofs.FragmentLemmas.{fragments_back}
use Rattle.graphql_sameness_laws.proofs.LeafLemmas.{variable_back}
use Rattle.graphql_sameness_laws.proofs.NamedLemmas.{default_alike, definition_named_alike, variable_alike}
use Rattle.graphql_sameness_laws.proofs.ReachLemmas.{fragment_too, reachable_too}
use Rattle.graphql_sameness_laws.proofs.SchemaLookupLemmas.{directive_alike, input_object_alike}
use Rattle.graphql_sameness_laws.proofs.SchemaSamenessLemmas.{schema_back}
use Rattle.graphql_sameness_laws.proofs.SelectionLemmas.{SameFragments, as_spread, fragments_alike, operation_back, operation_set, operations_alike, own_arguments, own_directives}
use Rattle.graphql_sameness_laws.proofs.TypeLemmas.{both_assignable, both_lists, one_item, one_name, one_null, one_nullable}
use Rattle.graphql_sameness_laws.proofs.ValueLemmas.{list_too, object_too, variable_too}
use Rattle.graphql_sameness_laws.proofs.VariableLemmas.{uses_too}
use Rattle.graphql_sameness_laws.proofs.ZipLemmas.{options_then, other_side, some_alike, zip_all, zip_contains, zip_lookup}
use Rattle.graphql_usage_rules.specs.UndefinedVariables.{UsedVariablesAreDefined, VariableUsesAreDefined}
use Rattle.graphql_usage_rules.specs.Usages as scope
use Rattle.graphql_usage_rules.specs.Usages.{Location, Usage, UsedAtSelection, UsedIn, UsedInArguments, UsedInDirectives, UsedInScope, argument_definitions_of, input_field_at, item_location, location_of, used_in_entry, used_in_item, used_itself}
use Rattle.graphql_usage_rules.specs.VariableMisuses.{IsAllowedAt, OperationUsagesAreAllowed, VariableUsagesAreAllowed}
use Rattle.graphql_sameness_laws.proofs.FoundLemmas.{found_too}

-- ==== variables that are used are defined

module _ (before after : Fragments) (alike : SameFragments before after) where
  uses_defined_too : (o p : Node Operation) → SameOperation None o p → UsedVariablesAreDefined before o.value.value → UsedVariablesAreDefined after p.value.value
  uses_defined_too o p same h name uses =
      sym (some_alike SameVariable _ _ (variable_alike name o.value.value.variables.items p.value.value.variables.items same.variables)) ∙
      h name (uses_too after before (fragments_back before after alike) p o (operation_back o p same) name uses)

pub variable_uses_too : (d e : ExecutableDocument) → SameDocument None d e → VariableUsesAreDefined d → VariableUsesAreDefined e
variable_uses_too d e same =
    zip_all (SameOperation None) (λ o. UsedVariablesAreDefined (fragments_of d) o.value.value) (λ o. UsedVariablesAreDefined (fragments_of e) o.value.value)
    (uses_defined_too (fragments_of d) (fragments_of e) (fragments_alike d e same)) _ _ (operations_alike d e same)

-- ==== usages

record SameLocation (m n : Location) : Type 0 where
  ty : as_written m.ty ≡ as_written n.ty
  has_default : m.has_default ≡ n.has_default

record SameUsage (u v : Usage) : Type 0 where
  name : u.name ≡ v.name
  place : u.place ≡ v.place
  location : SameLocation u.location v.location

definition_location : (d e : Node InputValueDefinition) → SameInputValue d e → SameLocation (location_of d.value.value) (location_of e.value.value)
definition_location d e same = record {
  ty = same.ty.written;
  has_default = some_alike SameValue _ _ (default_alike d.value.value.default_value e.value.value.default_value same.default_value);
}

module _ (a b : Schema) (schemas : SameSchema a b) where
  field_at_alike : (ty other : «Type») (name key : NameText) → as_written ty ≡ as_written other → name ≡ key →
      SameIfAny (SameComponent SameInputValue) (input_field_at a ty name) (input_field_at b other key)
  field_at_alike ty other name key written is =
      let types : inner_named_type ty ≡ inner_named_type other = one_name ty other written in
      subst (λ n. SameIfAny (SameComponent SameInputValue) (input_field_at a ty name) (option_and_then (λ d. get same_name d.value.value.fields key) (input_object_named b n))) types
      (subst (λ n. SameIfAny (SameComponent SameInputValue) (input_field_at a ty name)
      (option_and_then (λ d. get same_name d.value.value.fields n) (input_object_named b (inner_named_type ty)))) is
      (options_then SameInputObject (SameComponent SameInputValue) (λ d. get same_name d.value.value.fields name) (λ d. get same_name d.value.value.fields name)
      (λ x y p. zip_lookup (SameComponent SameInputValue) (same_name name) x.value.value.fields.entries y.value.value.fields.entries p.fields)
      (input_object_named a (inner_named_type ty)) (input_object_named b (inner_named_type ty)) (input_object_alike a b schemas (inner_named_type ty))))

  used_in_too : {location : Location} {value : Node Value} {usage : Usage} → UsedIn a location value usage → (spot : Location) (w : Node Value) →
      SameLocation location spot → SameValue value w → (other : Usage) × UsedIn b spot w other × SameUsage usage other
  used_in_too (used_itself {location = location} {value = value} name is) spot w here same = (
    record { name = name; place = w.location; location = spot },
    used_itself name (variable_too value.value.value w.value.value name same.contents is),
    record { name = refl; place = same.location; location = here },
  )
  used_in_too (used_in_item {location = location} {value = value} items item {usage} is lists c below) spot w here same =
      let other = list_too value.value.value w.value.value items same.contents is in
      let x = zip_contains SameValue items.items other.0.items item other.1 c in
      let deep = used_in_too below (item_location spot) x.0 (record { ty = one_item location.ty spot.ty here.ty; has_default = refl }) x.2 in
      (deep.0, used_in_item other.0 x.0 other.2 (sym (both_lists location.ty spot.ty here.ty) ∙ lists) x.1 deep.1, deep.2)
  used_in_too (used_in_entry {location = location} {value = value} entries entry field {usage} is c found below) spot w here same =
      let other = object_too value.value.value w.value.value entries same.contents is in
      let x = zip_contains (SameUnderName SameValue) entries.items other.0.items entry other.1 c in
      let f = other_side (SameComponent SameInputValue) (input_field_at a location.ty entry.0) (input_field_at b spot.ty x.0.0) field
      (field_at_alike location.ty spot.ty entry.0 x.0.0 here.ty x.2.0) found in
      let deep = used_in_too below (location_of f.0.node.value.value) x.0.1 (definition_location field.node f.0.node f.2.1) x.2.1 in
      (deep.0, used_in_entry other.0 x.0 f.0 other.2 x.1 f.1 deep.1, deep.2)

  used_in_arguments_too : (ds es : List (Node InputValueDefinition)) (xs ys : List (Node Argument)) (usage : Usage) → SameInputValues ds es → SameArguments xs ys →
      UsedInArguments a ds xs usage → (other : Usage) × UsedInArguments b es ys other × SameUsage usage other
  used_in_arguments_too ds es xs ys usage definitions same =
      found_too SameArgument
      (λ x. (d : Node InputValueDefinition) × (definition_named x.value.value.name ds ≡ Some d) × UsedIn a (location_of d.value.value) x.value.value.value usage)
      (λ other y. (d : Node InputValueDefinition) × (definition_named y.value.value.name es ≡ Some d) × UsedIn b (location_of d.value.value) y.value.value.value other)
      (SameUsage usage)
      (λ x y p used.
      let e = other_side SameInputValue (definition_named x.value.value.name ds) (definition_named x.value.value.name es) used.0
      (definition_named_alike x.value.value.name ds es definitions) used.1 in
      let deep = used_in_too used.2 (location_of e.0.value.value) y.value.value.value (definition_location used.0 e.0 e.2) p.value in
      (deep.0, (e.0, subst (λ n. definition_named n es ≡ Some e.0) p.name e.1, deep.1), deep.2)) xs ys same

  used_in_directives_too : (xs ys : List (Node Directive)) (usage : Usage) → SameDirectives xs ys →
      UsedInDirectives a xs usage → (other : Usage) × UsedInDirectives b ys other × SameUsage usage other
  used_in_directives_too xs ys usage same =
      found_too SameDirective
      (λ x. (d : Node DirectiveDefinition) × (directive_definition a x.value.value.name ≡ Some d) × UsedInArguments a d.value.value.arguments.items x.value.value.arguments.items usage)
      (λ other y. (d : Node DirectiveDefinition) × (directive_definition b y.value.value.name ≡ Some d) ×
      UsedInArguments b d.value.value.arguments.items y.value.value.arguments.items other)
      (SameUsage usage)
      (λ x y p used.
      let e = other_side SameDirectiveDefinition (directive_definition a x.value.value.name) (directive_definition b x.value.value.name) used.0
      (directive_alike a b schemas x.value.value.name) used.1 in
      let deep = used_in_arguments_too used.0.value.value.arguments.items e.0.value.value.arguments.items x.value.value.arguments.items y.value.value.arguments.items usage
      e.2.arguments p.arguments used.2 in
      (deep.0, (e.0, subst (λ n. directive_definition b n ≡ Some e.0) p.name e.1, deep.1), deep.2)) xs ys same

  own_definitions : {s t : Selection} → SameSelection None s t → SameInputValues (argument_definitions_of s) (argument_definitions_of t)
  own_definitions (same_field f g head set at) = rw (kind.outs-Field f, kind.outs-Field g, argument_definitions_of) head.definition.arguments
  own_definitions (same_spread p q same) = rw (kind.outs-FragmentSpread p, kind.outs-FragmentSpread q, argument_definitions_of) tt
  own_definitions (same_inline_fragment i j head set at) = rw (kind.outs-InlineFragment i, kind.outs-InlineFragment j, argument_definitions_of) tt

  used_at_selection_too : (s t : Selection) (usage : Usage) → SameSelection None s t → UsedAtSelection a s usage →
      (other : Usage) × UsedAtSelection b t other × SameUsage usage other
  used_at_selection_too s t usage same used = elim used [
    | inl arguments ↦
        let deep = used_in_arguments_too (argument_definitions_of s) (argument_definitions_of t) (arguments_of s) (arguments_of t) usage
        (own_definitions same) (own_arguments same) arguments in
        (deep.0, inl deep.1, deep.2)
    | inr directives ↦
        let deep = used_in_directives_too (directives_of s) (directives_of t) usage (own_directives same) directives in
        (deep.0, inr deep.1, deep.2)
  ]

  used_in_scope_too : (before after : Fragments) → SameFragments before after → (o p : Node Operation) → SameOperation None o p → (usage : Usage) →
      UsedInScope a before o.value.value usage → (other : Usage) × UsedInScope b after p.value.value other × SameUsage usage other
  used_in_scope_too before after alike o p same usage (scope.in_operation used) =
      let deep = used_in_directives_too _ _ usage same.directives used in
      (deep.0, scope.in_operation deep.1, deep.2)
  used_in_scope_too before after alike o p same usage (scope.at_selection s reached used) =
      let t = reachable_too before after alike reached p.value.value.selection_set (operation_set o p same) in
      let deep = used_at_selection_too s t.0 usage t.2 used in
      (deep.0, scope.at_selection t.0 t.1 deep.1, deep.2)
  used_in_scope_too before after alike o p same usage (scope.in_fragment_definition spread d reached defined used) =
      let t = reachable_too before after alike reached p.value.value.selection_set (operation_set o p same) in
      let q = as_spread spread t.0 t.2 in
      let e = fragment_too before after alike spread.value.value.fragment_name q.0.value.value.fragment_name d q.1.name defined in
      let deep = used_in_directives_too _ _ usage e.2.directives used in
      (deep.0, scope.in_fragment_definition q.0 e.0 (subst (Reachable after p.value.value.selection_set) q.2 t.1) e.1 deep.1, deep.2)

-- ==== usages that are allowed

allowed_too : (v w : Node VariableDefinition) (m n : Location) → SameVariable v w → SameLocation m n → IsAllowedAt v.value.value m → IsAllowedAt w.value.value n
allowed_too v w m n same here =
    let s = v.value.value.ty.value.value in
    let t = w.value.value.ty.value.value in
    match_too (is_non_null m.ty && not (is_non_null s)) (is_non_null n.ty && not (is_non_null t)) _ _ _ _
    (ap₂ (λ x y. x && not y) (one_null m.ty n.ty here.ty) (one_null s t same.ty.written))
    (λ h. (
      elim h.0 [ inl own ↦ inl (non_null_default_too v w same own) | inr given ↦ inr (sym here.has_default ∙ given) ],
      sym (both_assignable s (nullable m.ty) t (nullable n.ty) same.ty.written (one_nullable m.ty n.ty here.ty)) ∙ h.1,
    ))
    (λ h. sym (both_assignable s m.ty t n.ty same.ty.written here.ty) ∙ h)

module _ (a b : Schema) (schemas : SameSchema a b) (d e : ExecutableDocument) (same : SameDocument None d e) where
  operation_usages_too : (o p : Node Operation) → SameOperation None o p → OperationUsagesAreAllowed a d o.value.value → OperationUsagesAreAllowed b e p.value.value
  operation_usages_too o p operations h usage used w named =
      let back = operation_back o p operations in
      let before = used_in_scope_too b a (schema_back a b schemas) (fragments_of e) (fragments_of d) (fragments_back (fragments_of d) (fragments_of e) (fragments_alike d e same))
      p o back usage used in
      let v = other_side SameVariable (variable_named usage.name p.value.value.variables.items) (variable_named usage.name o.value.value.variables.items) w
      (variable_alike usage.name p.value.value.variables.items o.value.value.variables.items back.variables) named in
      allowed_too v.0 w before.0.location usage.location (variable_back w v.0 v.2)
      (record { ty = sym before.2.location.ty; has_default = sym before.2.location.has_default })
      (h before.0 before.1 v.0 (subst (λ n. variable_named n o.value.value.variables.items ≡ Some v.0) before.2.name v.1))

  pub variable_usages_too : VariableUsagesAreAllowed a d → VariableUsagesAreAllowed b e
  variable_usages_too = zip_all (SameOperation None) (λ o. OperationUsagesAreAllowed a d o.value.value) (λ o. OperationUsagesAreAllowed b e o.value.value)
      operation_usages_too _ _ (operations_alike d e same)
