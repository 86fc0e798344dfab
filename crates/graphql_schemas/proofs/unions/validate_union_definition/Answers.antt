-- The directives, the contents, and that there are some.
use Rattle.std.proofs.Common.{◌≡◌, List, map, refl, ap, ◌∙◌}
use Rattle.graphql_diagnostics.specs.Diagnostics.{IsDiagnostic}
use Rattle.graphql_documents.specs.Directives.{directives_of_type}
use Rattle.graphql_documents.specs.declared.documents.components.Component.{Component}
use Rattle.graphql_documents.specs.declared.documents.directives.Directive.{Directive}
use Rattle.graphql_documents.specs.declared.documents.schemas.ExtendedType.TheVariants as types
use Rattle.graphql_documents.specs.declared.documents.schemas.UnionType.{UnionType}
use Rattle.graphql_specification.specs.Types.{TypeReport}
use Rattle.graphql_diagnostics.proofs.ReportLemmas.{both, checks-err, checks_after, checks_words, kept_by, kept_then}
use Rattle.graphql_schemas.proofs.TypeLemmas.{directives_checked, directives_kept, union_decides}
use Rattle.graphql_schemas.proofs.unions.validate_union_definition.Goals as goal

pub returns-in_err-validate_component_directives : goal.returns-in_err-validate_component_directives
returns-in_err-validate_component_directives c =
    let schema = c.args.schema.now in
    let d = c.args.union.now in
    let are : map (λ (x : Component Directive). x.node) c.deref-2.result.now ≡ directives_of_type (types.Union d) =
    ap (λ (l : List (Component Directive)). map (λ x. x.node) l) (c.deref-2.ensures.value ∙ ap (λ (t : UnionType). t.directives.items) c.deref.ensures) in
    checks-err _ _ _ _ _ c.from_residual.ensures.0
    (directives_kept schema (types.Union d) c.deref-2.result.now are refl c.in_err-validate_component_directives.ensures)

pub returns-in_err-validate_members : goal.returns-in_err-validate_members
returns-in_err-validate_members c =
    let schema = c.args.schema.now in
    let d = c.args.union.now in
    let are : map (λ (x : Component Directive). x.node) c.deref-2.result.now ≡ directives_of_type (types.Union d) =
    ap (λ (l : List (Component Directive)). map (λ x. x.node) l) (c.deref-2.ensures.value ∙ ap (λ (t : UnionType). t.directives.items) c.deref.ensures) in
    checks-err _ _ _ _ _ c.from_residual-in_err-validate_members.ensures.0
    (kept_then
    (kept_by (directives_checked schema (types.Union d) c.deref-2.result.now are refl c.in_ok-validate_component_directives.ensures))
    c.in_err-validate_members.ensures)

pub returns : goal.returns
returns c =
    let schema = c.args.schema.now in
    let d = c.args.union.now in
    let are : map (λ (x : Component Directive). x.node) c.deref-2.result.now ≡ directives_of_type (types.Union d) =
    ap (λ (l : List (Component Directive)). map (λ x. x.node) l) (c.deref-2.ensures.value ∙ ap (λ (t : UnionType). t.directives.items) c.deref.ensures) in
    let says = IsDiagnostic (TypeReport schema (types.Union d)) in
    checks_words c.validate_is_not_empty.result _ _ says says _ _ (union_decides schema d) (λ e q. q)
    (checks_after c.validate_is_not_empty.result _ _ says _ _ _
    (both (directives_checked schema (types.Union d) c.deref-2.result.now are refl c.in_ok-validate_component_directives.ensures) c.in_ok-validate_members.ensures)
    (c.validate_is_not_empty.ensures schema))
