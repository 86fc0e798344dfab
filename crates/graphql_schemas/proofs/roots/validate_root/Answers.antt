use Rattle.std.proofs.Common.{◌≡◌, None, Some, map, sym, ◌∙◌}
use Rattle.std.proofs.lemmas.Option.{none-some}
use Rattle.graphql_diagnostics.specs.Diagnostics.{IsDiagnostic}
use Rattle.graphql_specification.specs.SchemaDefinitions.{RootsReport}
use Rattle.graphql_diagnostics.proofs.ReportLemmas.{both, checks-err, checks_after, checks_words, holds, kept_wider, wider}
use Rattle.graphql_variables.proofs.FirstPlaceLemmas.{next_stands}
use Rattle.graphql_schemas.specs.RootSteps.{lent_root, root_named}
use Rattle.graphql_schemas.proofs.RootLemmas.{first_lent, names_root}
use Rattle.graphql_schemas.proofs.roots.validate_root.Goals as goal

pub returns-in_err-validate_root_type : goal.returns-in_err-validate_root_type
returns-in_err-validate_root_type c = λ next.
    let schema = c.args.schema.now in
    checks-err _ _ _ _ _ c.from_residual.ensures.0
    (kept_wider (names_root schema schema.schema_definition.value.value (lent_root c.args.root) (next_stands next)) c.in_err-validate_root_type.ensures)

pub returns-in-Some : goal.returns-in-Some
returns-in-Some c = λ next.
    let schema = c.args.schema.now in
    let d = schema.schema_definition.value.value in
    let name = c.args.root.1.now.name in
    let before = map lent_root c.args.seen.now in
    let Q = IsDiagnostic (RootsReport schema d) in
    let found : root_named name before ≡ Some (lent_root c.in-Some.first.now) = first_lent name c.args.seen.now (Some c.in-Some.first.now) c.in-Some.ensures in
    checks_after c.report_repetition.result _ _ Q _ _ _
    (wider (names_root schema d (lent_root c.args.root) (next_stands next)) c.in_ok-validate_root_type.ensures)
    (checks_words c.report_repetition.result _ _ Q Q _ _ (λ no. absurd no, λ new. none-some (lent_root c.in-Some.first.now) (sym new ∙ found)) (λ e q. q)
    (c.report_repetition.ensures schema d before found next))

pub returns-in-None : goal.returns-in-None
returns-in-None c = λ next.
    let schema = c.args.schema.now in
    let d = schema.schema_definition.value.value in
    let name = c.args.root.1.now.name in
    both (wider (names_root schema d (lent_root c.args.root) (next_stands next)) c.in_ok-validate_root_type.ensures)
    (holds _ _ _ (first_lent name c.args.seen.now None c.in-None.ensures))
