use Rattle.std.proofs.Common.{◌≡◌, List, inl, map, sym, ap, ◌∙◌}
use Rattle.std.specs.Prelude.{IsFalse, IsTrue}
use Rattle.graphql_documents.specs.Schemas.{is_built_in}
use Rattle.graphql_documents.specs.Directives.{directives_of_type}
use Rattle.graphql_documents.specs.declared.documents.components.Component.{Component}
use Rattle.graphql_documents.specs.declared.documents.directives.Directive.{Directive}
use Rattle.graphql_documents.specs.declared.documents.schemas.ExtendedType.TheVariants as types
use Rattle.graphql_documents.specs.declared.documents.schemas.ScalarType.{ScalarType}
use Rattle.graphql_diagnostics.proofs.ReportLemmas.{checks_words, holds}
use Rattle.graphql_schemas.proofs.TypeLemmas.{names_directives, scalar_decides}
use Rattle.graphql_schemas.proofs.scalars.validate_scalar_definition.Goals as goal

pub returns-then-is_built_in : goal.returns-then-is_built_in
returns-then-is_built_in c =
    let built_in : IsTrue (is_built_in (types.Scalar c.args.scalar.now)) = sym c.is_built_in.ensures ∙ c.if-is_built_in.true in
    holds _ _ _ (inl built_in)

pub returns : goal.returns
returns c =
    let schema = c.args.schema.now in
    let d = c.args.scalar.now in
    let checked : IsFalse (is_built_in (types.Scalar d)) = sym c.is_built_in.ensures ∙ c.if-is_built_in.false in
    let are : map (λ (x : Component Directive). x.node) c.deref-2.result.now ≡ directives_of_type (types.Scalar d) =
    ap (λ (l : List (Component Directive)). map (λ x. x.node) l) (c.deref-2.ensures.value ∙ ap (λ (s : ScalarType). s.directives.items) c.deref.ensures) in
    checks_words c.validate_component_directives.result _ _ _ _ _ _ (scalar_decides schema d checked) (names_directives schema (types.Scalar d) checked)
    (rw are at c.validate_component_directives.ensures)
