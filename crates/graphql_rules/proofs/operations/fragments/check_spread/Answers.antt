use Rattle.std.proofs.Common.{ap, sym, ◌∙◌}
use Rattle.graphql_documents.specs.Selections.{fragments_of}
use Rattle.graphql_diagnostics.proofs.ReportLemmas.{both, checks-err, in_words, kept_by, kept_then, kept_wider, wider}
use Rattle.graphql_documents.specs.declared.documents.executables.FragmentSpread.{FragmentSpread}
use Rattle.graphql_operations.specs.Contexts.{parent_of, schema_of, variables_of}
use Rattle.graphql_specification.specs.Fragments.{SpreadReport, by_spread_directives}
use Rattle.graphql_rules.proofs.AppliedLemmas.{directives_kept, directives_reported}
use Rattle.graphql_rules.proofs.FragmentLemmas.{names_spread, names_undefined, spread_decides, undefined_decides}
use Rattle.graphql_rules.proofs.operations.fragments.check_spread.Goals as goal

pub returns-in_err-check_each_directive-clause-checks :
    goal.returns-in_err-check_each_directive-clause-checks
returns-in_err-check_each_directive-clause-checks c =
    let same = c.deref-2.ensures.value ∙ ap (λ (p : FragmentSpread). p.directives.items) c.deref.ensures in
    checks-err _ _ _ _ _ c.from_residual.ensures.0
    (directives_kept _ (λ r at broken. by_spread_directives broken) same c.in_err-check_each_directive.ensures)

pub returns-in_err-report_undefined_fragment-clause-checks :
    goal.returns-in_err-report_undefined_fragment-clause-checks
returns-in_err-report_undefined_fragment-clause-checks c =
    let schema = schema_of c.args.context.now in
    let variables = variables_of c.args.context.now in
    let fragments = fragments_of c.args.document.now in
    let parent = parent_of c.args.against_type in
    let p = c.args.spread.now in
    let same = c.deref-2.ensures.value ∙ ap (λ (p : FragmentSpread). p.directives.items) c.deref.ensures in
    let none = ap (λ (p : FragmentSpread). fragments p.fragment_name) (sym c.deref-3.ensures) ∙ sym c.in_default.ensures.value in
    checks-err _ _ _ _ _ c.from_residual-in_err-report_undefined_fragment.ensures.0
    (kept_then
    (kept_by (directives_reported (SpreadReport schema fragments variables parent p) (λ r at broken. by_spread_directives broken) same c.in_ok-check_each_directive.ensures))
    (kept_wider (names_undefined schema fragments variables parent p none) c.in_err-report_undefined_fragment.ensures))

pub returns-in_default-clause-checks : goal.returns-in_default-clause-checks
returns-in_default-clause-checks c =
    let schema = schema_of c.args.context.now in
    let variables = variables_of c.args.context.now in
    let fragments = fragments_of c.args.document.now in
    let parent = parent_of c.args.against_type in
    let p = c.args.spread.now in
    let same = c.deref-2.ensures.value ∙ ap (λ (p : FragmentSpread). p.directives.items) c.deref.ensures in
    let none = ap (λ (p : FragmentSpread). fragments p.fragment_name) (sym c.deref-3.ensures) ∙ sym c.in_default.ensures.value in
    in_words (undefined_decides schema fragments variables parent p none)
    (both
    (directives_reported (SpreadReport schema fragments variables parent p) (λ r at broken. by_spread_directives broken) same c.in_ok-check_each_directive.ensures)
    (wider (names_undefined schema fragments variables parent p none) c.in_ok-report_undefined_fragment.ensures))

pub returns-in_err-check_possible-clause-checks : goal.returns-in_err-check_possible-clause-checks
returns-in_err-check_possible-clause-checks c =
    let schema = schema_of c.args.context.now in
    let variables = variables_of c.args.context.now in
    let fragments = fragments_of c.args.document.now in
    let parent = parent_of c.args.against_type in
    let p = c.args.spread.now in
    let same = c.deref-2.ensures.value ∙ ap (λ (p : FragmentSpread). p.directives.items) c.deref.ensures in
    let found = ap (λ (p : FragmentSpread). fragments p.fragment_name) (sym c.deref-3.ensures) ∙ sym c.in-Some.ensures.value in
    checks-err _ _ _ _ _ c.from_residual-in_err-check_possible.ensures.0
    (kept_then
    (kept_by (directives_reported (SpreadReport schema fragments variables parent p) (λ r at broken. by_spread_directives broken) same c.in_ok-check_each_directive.ensures))
    (kept_wider (names_spread schema fragments variables parent p) (c.in_err-check_possible.ensures.checks fragments found)))

pub returns-clause-checks : goal.returns-clause-checks
returns-clause-checks c =
    let schema = schema_of c.args.context.now in
    let variables = variables_of c.args.context.now in
    let fragments = fragments_of c.args.document.now in
    let parent = parent_of c.args.against_type in
    let p = c.args.spread.now in
    let same = c.deref-2.ensures.value ∙ ap (λ (p : FragmentSpread). p.directives.items) c.deref.ensures in
    let found = ap (λ (p : FragmentSpread). fragments p.fragment_name) (sym c.deref-3.ensures) ∙ sym c.in-Some.ensures.value in
    in_words (spread_decides schema fragments variables parent p c.in-Some.fragment.now found)
    (both
    (directives_reported (SpreadReport schema fragments variables parent p) (λ r at broken. by_spread_directives broken) same c.in_ok-check_each_directive.ensures)
    (wider (names_spread schema fragments variables parent p) (c.in_ok-check_possible.ensures.checks fragments found)))
