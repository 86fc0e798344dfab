-- The directives, the cycle, the fields, and that there is one.
use Rattle.std.proofs.Common.{◌≡◌, List, inl, map, refl, ap, ◌∙◌}
use Rattle.graphql_diagnostics.specs.Diagnostics.{IsLimitEntry}
use Rattle.graphql_documents.specs.Directives.{directives_of_type}
use Rattle.graphql_documents.specs.declared.documents.components.Component.{Component}
use Rattle.graphql_documents.specs.declared.documents.directives.Directive.{Directive}
use Rattle.graphql_documents.specs.declared.documents.schemas.ExtendedType.TheVariants as types
use Rattle.graphql_documents.specs.declared.documents.schemas.InputObjectType.{InputObjectType}
use Rattle.graphql_diagnostics.proofs.ReportLemmas.{kept_then, kept_wider, wider}
use Rattle.graphql_diagnostics.proofs.ReportWithinLemmas.{both_within, checks_after_within, checks_refused_within, checks_within, kept_within, wider_within, within}
use Rattle.graphql_field_definitions.proofs.BuiltInScalarLemmas.{keeps_itself}
use Rattle.graphql_schemas.proofs.NamedTypeLemmas.{KindEntryReport, names_input_object_cycle}
use Rattle.graphql_schemas.proofs.TypeLemmas.{checks_iff_within, directives_checked, directives_kept, input_object_decides, on_ok_known}
use Rattle.graphql_schemas.proofs.input_objects.validate_input_object_by_levels.Goals as goal

pub returns-in_err-validate_component_directives-clause-checks : goal.returns-in_err-validate_component_directives-clause-checks
returns-in_err-validate_component_directives-clause-checks c =
    let schema = c.args.levels.now.schema.now in
    let d = c.args.input_object.now in
    let are : map (λ (x : Component Directive). x.node) c.deref-2.result.now ≡ directives_of_type (types.InputObject d) =
    ap (λ (l : List (Component Directive)). map (λ x. x.node) l) (c.deref-2.ensures.value ∙ ap (λ (t : InputObjectType). t.directives.items) c.deref.ensures) in
    checks_refused_within IsLimitEntry _ _ _ _ _ c.from_residual.ensures.0
    (kept_wider (λ e said. inl said) (directives_kept schema (types.InputObject d) c.deref-2.result.now are refl c.in_err-validate_component_directives.ensures))

pub returns-in_err-validate_component_directives-clause-keeps : goal.returns-in_err-validate_component_directives-clause-keeps
returns-in_err-validate_component_directives-clause-keeps c = keeps_itself c.args.built_in_scalars.now

pub returns-in_err-validate_input_object_cycles_by_levels-clause-checks : goal.returns-in_err-validate_input_object_cycles_by_levels-clause-checks
returns-in_err-validate_input_object_cycles_by_levels-clause-checks c =
    let schema = c.args.levels.now.schema.now in
    let d = c.args.input_object.now in
    let are : map (λ (x : Component Directive). x.node) c.deref-2.result.now ≡ directives_of_type (types.InputObject d) =
    ap (λ (l : List (Component Directive)). map (λ x. x.node) l) (c.deref-2.ensures.value ∙ ap (λ (t : InputObjectType). t.directives.items) c.deref.ensures) in
    let applied = wider {Q' = KindEntryReport schema (types.InputObject d)} (λ e said. inl said)
    (directives_checked schema (types.InputObject d) c.deref-2.result.now are refl c.in_ok-validate_component_directives.ensures) in
    checks_refused_within IsLimitEntry _ _ _ _ _ c.from_residual-in_err-validate_input_object_cycles_by_levels.ensures.0
    (kept_then (kept_within IsLimitEntry (within IsLimitEntry applied)) (kept_wider (names_input_object_cycle schema d) c.in_err-validate_input_object_cycles_by_levels.ensures))

pub returns-in_err-validate_input_object_cycles_by_levels-clause-keeps : goal.returns-in_err-validate_input_object_cycles_by_levels-clause-keeps
returns-in_err-validate_input_object_cycles_by_levels-clause-keeps c = keeps_itself c.args.built_in_scalars.now

pub returns-in_err-validate_input_fields-clause-checks : goal.returns-in_err-validate_input_fields-clause-checks
returns-in_err-validate_input_fields-clause-checks c =
    let schema = c.args.levels.now.schema.now in
    let d = c.args.input_object.now in
    let are : map (λ (x : Component Directive). x.node) c.deref-2.result.now ≡ directives_of_type (types.InputObject d) =
    ap (λ (l : List (Component Directive)). map (λ x. x.node) l) (c.deref-2.ensures.value ∙ ap (λ (t : InputObjectType). t.directives.items) c.deref.ensures) in
    let applied = wider {Q' = KindEntryReport schema (types.InputObject d)} (λ e said. inl said)
    (directives_checked schema (types.InputObject d) c.deref-2.result.now are refl c.in_ok-validate_component_directives.ensures) in
    checks_refused_within IsLimitEntry _ _ _ _ _ c.from_residual-in_err-validate_input_fields.ensures.0
    (kept_then (kept_within IsLimitEntry (both_within IsLimitEntry (within IsLimitEntry applied) (wider_within IsLimitEntry (names_input_object_cycle schema d) c.in_ok-validate_input_object_cycles_by_levels.ensures)))
    (kept_wider (λ e said. inl said) c.in_err-validate_input_fields.ensures.checks))

pub returns-clause-checks : goal.returns-clause-checks
returns-clause-checks c =
    let schema = c.args.levels.now.schema.now in
    let d = c.args.input_object.now in
    let are : map (λ (x : Component Directive). x.node) c.deref-2.result.now ≡ directives_of_type (types.InputObject d) =
    ap (λ (l : List (Component Directive)). map (λ x. x.node) l) (c.deref-2.ensures.value ∙ ap (λ (t : InputObjectType). t.directives.items) c.deref.ensures) in
    let says = KindEntryReport schema (types.InputObject d) in
    let last = c.validate_is_not_empty.result in
    let applied = wider {Q' = says} (λ e said. inl said)
    (directives_checked schema (types.InputObject d) c.deref-2.result.now are refl c.in_ok-validate_component_directives.ensures) in
    let fields = wider {Q' = says} (λ e said. inl said) c.in_ok-validate_input_fields.ensures.checks in
    checks_iff_within last _ _ says _ _ (input_object_decides schema d)
    (checks_after_within IsLimitEntry last _ _ says _ _ _
    (both_within IsLimitEntry (both_within IsLimitEntry (within IsLimitEntry applied) (wider_within IsLimitEntry (names_input_object_cycle schema d) c.in_ok-validate_input_object_cycles_by_levels.ensures)) (within IsLimitEntry fields))
    (checks_within IsLimitEntry last _ _ says _ _ (λ e said. inl said) (c.validate_is_not_empty.ensures schema)))

pub returns-clause-records : goal.returns-clause-records
returns-clause-records c = on_ok_known c.validate_is_not_empty.result c.in_ok-validate_input_fields.ensures.records
