use Rattle.std.proofs.Common.{ap, sym, ◌∙◌, subst}
use Rattle.graphql_diagnostics.proofs.ReportLemmas.{checks-push}
use Rattle.graphql_diagnostics.specs.declared.data.DiagnosticData.TheVariants as report
use Rattle.graphql_documents.specs.declared.documents.executables.FragmentSpread.{FragmentSpread}
use Rattle.graphql_rules.specs.SelectionSteps.{IsUndefined, is_undefined}
use Rattle.graphql_rules.proofs.operations.fragments.report_undefined_fragment.Goals as goal

pub returns : goal.returns
returns c =
    let p = c.args.spread.now in
    let same = c.in_ok-name.ensures.cases ∙ ap (λ (p : FragmentSpread). p.fragment_name) c.deref.ensures in
    checks-push _ _ _ _ _ _ c.push.ensures.ok c.push.ensures.err (λ x. x)
    (subst (λ name. IsUndefined p (report.UndefinedFragment name) p.location) (sym same) is_undefined)
