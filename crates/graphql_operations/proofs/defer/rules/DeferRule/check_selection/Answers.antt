use Rattle.std.proofs.Common.{◌∙◌, All, subst, sym}
use Rattle.graphql_specification.specs.Defer.{defers}
use Rattle.graphql_diagnostics.proofs.ReportLemmas.{checks_words}
use Rattle.graphql_operations.specs.OperationDefers.{DirectivesDeferReport, Meets}
use Rattle.graphql_operations.proofs.defer.rules.DeferRule.check_selection.Goals as goal

pub returns-then-concerns : goal.returns-then-concerns
returns-then-concerns c =
    let r = c.args.self in
    let concerned = sym c.concerns.ensures ∙ c.if-concerns.true in
    let is = c.directives_of.ensures in
    checks_words c.check_directives.result _ _ _ _ _ _
    (λ all asked. subst (λ l. All (Meets r) (defers l)) is all, λ holds. subst (λ l. All (Meets r) (defers l)) (sym is) (holds concerned))
    (λ e breaks. (concerned, subst (λ l. DirectivesDeferReport r l e) is breaks))
    c.check_directives.ensures
