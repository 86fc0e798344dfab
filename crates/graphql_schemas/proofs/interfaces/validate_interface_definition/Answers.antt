-- One check after another, in words of the type.
use Rattle.std.proofs.Common.{◌≡◌, List, map, refl, ap, ◌∙◌}
use Rattle.graphql_diagnostics.specs.Diagnostics.{IsDiagnostic}
use Rattle.graphql_documents.specs.Directives.{directives_of_type}
use Rattle.graphql_specification.specs.Types.{TypeReport}
use Rattle.graphql_documents.specs.declared.documents.components.Component.{Component}
use Rattle.graphql_documents.specs.declared.documents.directives.Directive.{Directive}
use Rattle.graphql_documents.specs.declared.documents.schemas.ExtendedType.TheVariants as types
use Rattle.graphql_documents.specs.declared.documents.schemas.InterfaceType.{InterfaceType}
use Rattle.graphql_diagnostics.proofs.ReportLemmas.{both, checks-err, checks_after, checks_words, kept_by, kept_then}
use Rattle.graphql_field_definitions.proofs.BuiltInScalarLemmas.{keeps_itself}
use Rattle.graphql_schemas.proofs.TypeLemmas.{directives_checked, directives_kept, fields_checked, fields_kept, implementations_same, names_implementation, interface_decides, on_ok_known, records_fields}
use Rattle.graphql_schemas.specs.TypeSteps.{AreOf}
use Rattle.graphql_schemas.proofs.interfaces.validate_interface_definition.Goals as goal

pub returns-in_err-validate_component_directives-clause-checks : goal.returns-in_err-validate_component_directives-clause-checks
returns-in_err-validate_component_directives-clause-checks c =
    let schema = c.args.schema.now in
    let d = c.args.interface.now in
    let are : map (λ (x : Component Directive). x.node) c.deref-2.result.now ≡ directives_of_type (types.Interface d) =
    ap (λ (l : List (Component Directive)). map (λ x. x.node) l) (c.deref-2.ensures.value ∙ ap (λ (t : InterfaceType). t.directives.items) c.deref.ensures) in
    checks-err _ _ _ _ _ c.from_residual.ensures.0
    (directives_kept schema (types.Interface d) c.deref-2.result.now are refl c.in_err-validate_component_directives.ensures)

pub returns-in_err-validate_component_directives-clause-keeps : goal.returns-in_err-validate_component_directives-clause-keeps
returns-in_err-validate_component_directives-clause-keeps c = keeps_itself c.args.built_in_scalars.now

pub returns-in_err-validate_does_not_list_itself-clause-checks : goal.returns-in_err-validate_does_not_list_itself-clause-checks
returns-in_err-validate_does_not_list_itself-clause-checks c =
    let schema = c.args.schema.now in
    let d = c.args.interface.now in
    let are : map (λ (x : Component Directive). x.node) c.deref-2.result.now ≡ directives_of_type (types.Interface d) =
    ap (λ (l : List (Component Directive)). map (λ x. x.node) l) (c.deref-2.ensures.value ∙ ap (λ (t : InterfaceType). t.directives.items) c.deref.ensures) in
    checks-err _ _ _ _ _ c.from_residual-in_err-validate_does_not_list_itself.ensures.0
    (kept_then (kept_by (directives_checked schema (types.Interface d) c.deref-2.result.now are refl c.in_ok-validate_component_directives.ensures))
    (c.in_err-validate_does_not_list_itself.ensures schema))

pub returns-in_err-validate_does_not_list_itself-clause-keeps : goal.returns-in_err-validate_does_not_list_itself-clause-keeps
returns-in_err-validate_does_not_list_itself-clause-keeps c = keeps_itself c.args.built_in_scalars.now

pub returns-in_err-validate_field_definitions-clause-checks : goal.returns-in_err-validate_field_definitions-clause-checks
returns-in_err-validate_field_definitions-clause-checks c =
    let schema = c.args.schema.now in
    let d = c.args.interface.now in
    let are : map (λ (x : Component Directive). x.node) c.deref-2.result.now ≡ directives_of_type (types.Interface d) =
    ap (λ (l : List (Component Directive)). map (λ x. x.node) l) (c.deref-2.ensures.value ∙ ap (λ (t : InterfaceType). t.directives.items) c.deref.ensures) in
    checks-err _ _ _ _ _ c.from_residual-in_err-validate_field_definitions.ensures.0
    (kept_then (kept_by (both (directives_checked schema (types.Interface d) c.deref-2.result.now are refl c.in_ok-validate_component_directives.ensures)
    (c.in_ok-validate_does_not_list_itself.ensures schema)))
    (fields_kept schema (types.Interface d) c.deref-3.result.now.fields.entries (ap (λ (t : InterfaceType). t.fields.entries) c.deref-3.ensures) c.in_err-validate_field_definitions.ensures.checks))

pub returns-in_err-validate_is_not_empty-clause-checks : goal.returns-in_err-validate_is_not_empty-clause-checks
returns-in_err-validate_is_not_empty-clause-checks c =
    let schema = c.args.schema.now in
    let d = c.args.interface.now in
    let are : map (λ (x : Component Directive). x.node) c.deref-2.result.now ≡ directives_of_type (types.Interface d) =
    ap (λ (l : List (Component Directive)). map (λ x. x.node) l) (c.deref-2.ensures.value ∙ ap (λ (t : InterfaceType). t.directives.items) c.deref.ensures) in
    checks-err _ _ _ _ _ c.from_residual-in_err-validate_is_not_empty.ensures.0
    (kept_then
    (kept_by (both (both (directives_checked schema (types.Interface d) c.deref-2.result.now are refl c.in_ok-validate_component_directives.ensures)
    (c.in_ok-validate_does_not_list_itself.ensures schema))
    (fields_checked schema (types.Interface d) c.deref-3.result.now.fields.entries (ap (λ (t : InterfaceType). t.fields.entries) c.deref-3.ensures) c.in_ok-validate_field_definitions.ensures.checks)))
    (c.in_err-validate_is_not_empty.ensures schema))

pub returns-clause-checks : goal.returns-clause-checks
returns-clause-checks c =
    let schema = c.args.schema.now in
    let d = c.args.interface.now in
    let are : map (λ (x : Component Directive). x.node) c.deref-2.result.now ≡ directives_of_type (types.Interface d) =
    ap (λ (l : List (Component Directive)). map (λ x. x.node) l) (c.deref-2.ensures.value ∙ ap (λ (t : InterfaceType). t.directives.items) c.deref.ensures) in
    let says = IsDiagnostic (TypeReport schema (types.Interface d)) in
    let last = c.validate_implementations.result in
    let of : AreOf (types.Interface d) c.deref-4.result.now.name d.location c.deref-5.result.now.fields.entries c.deref-6.result.now.implements_interfaces.keys =
    record {
      name_is = ap (λ (t : InterfaceType). t.name) c.deref-4.ensures;
      location_is = refl;
      fields_are = ap (λ (t : InterfaceType). t.fields.entries) c.deref-5.ensures;
      interfaces_are = ap (λ (t : InterfaceType). t.implements_interfaces.keys) c.deref-6.ensures;
    } in
    checks_words last _ _ says says _ _ (interface_decides schema d) (λ e q. q)
    (checks_after last _ _ says _ _ _
    (both
    (both (both (directives_checked schema (types.Interface d) c.deref-2.result.now are refl c.in_ok-validate_component_directives.ensures)
    (c.in_ok-validate_does_not_list_itself.ensures schema))
    (fields_checked schema (types.Interface d) c.deref-3.result.now.fields.entries (ap (λ (t : InterfaceType). t.fields.entries) c.deref-3.ensures) c.in_ok-validate_field_definitions.ensures.checks))
    (c.in_ok-validate_is_not_empty.ensures schema))
    (checks_words last _ _ _ says _ _ (implementations_same schema (types.Interface d) of) (names_implementation schema (types.Interface d))
    (c.validate_implementations.ensures (types.Interface d) of)))

pub returns-clause-records : goal.returns-clause-records
returns-clause-records c =
    on_ok_known c.validate_implementations.result
    (records_fields (types.Interface c.args.interface.now) refl c.deref-3.result.now.fields.entries (ap (λ (t : InterfaceType). t.fields.entries) c.deref-3.ensures) c.in_ok-validate_field_definitions.ensures.records)
