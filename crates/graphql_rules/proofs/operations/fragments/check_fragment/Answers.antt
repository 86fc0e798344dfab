use Rattle.std.proofs.Common.{◌≡◌, length, ap, sym, ◌∙◌, arith}
use Rattle.std.proofs.lemmas.Bool.Decides.{nat_tests}
use Rattle.graphql_diagnostics.specs.Diagnostics.{IsLimitEntry, entries}
use Rattle.graphql_diagnostics.proofs.ReportLemmas.{kept_by, kept_then, kept_wider}
use Rattle.graphql_diagnostics.proofs.ReportWithinLemmas.{checks_refused_within, kept_within}
use Rattle.graphql_documents.specs.Selections.{fragments_of}
use Rattle.graphql_documents.specs.declared.documents.executables.Fragment.{Fragment}
use Rattle.graphql_operations.specs.Contexts.{schema_of, variables_of}
use Rattle.graphql_specification.specs.Fragments.{FragmentReport, by_fragment_directives}
use Rattle.graphql_rules.proofs.AppliedLemmas.{directives_kept, directives_reported}
use Rattle.graphql_rules.proofs.FragmentLemmas.{both_hold, fragment_reported, kept_second, names_broken, names_cycle, names_said, none_added}
use Rattle.graphql_rules.proofs.operations.fragments.check_fragment.Goals as goal

pub returns-in_err-check_each_directive-clause-checks :
    goal.returns-in_err-check_each_directive-clause-checks
returns-in_err-check_each_directive-clause-checks c =
    let schema = schema_of c.args.context.now in
    let variables = variables_of c.args.context.now in
    let fragments = fragments_of c.args.document.now in
    let d = c.args.fragment.now in
    let same = c.deref-2.ensures.value ∙ ap (λ (d : Fragment). d.directives.items) c.deref.ensures in
    checks_refused_within IsLimitEntry _ _ _ _ _ c.from_residual.ensures.0
    (kept_wider (names_said schema fragments variables d)
    (directives_kept (FragmentReport schema fragments variables d) (λ r at broken. by_fragment_directives broken) same c.in_err-check_each_directive.ensures))

pub returns-in_err-check_target-clause-checks : goal.returns-in_err-check_target-clause-checks
returns-in_err-check_target-clause-checks c =
    let schema = schema_of c.args.context.now in
    let variables = variables_of c.args.context.now in
    let fragments = fragments_of c.args.document.now in
    let d = c.args.fragment.now in
    let same = c.deref-2.ensures.value ∙ ap (λ (d : Fragment). d.directives.items) c.deref.ensures in
    let directed = directives_reported (FragmentReport schema fragments variables d) (λ r at broken. by_fragment_directives broken) same c.in_ok-check_each_directive.ensures in
    checks_refused_within IsLimitEntry _ _ _ _ _ c.from_residual-in_err-check_target.ensures.0
    (kept_then (kept_wider (names_said schema fragments variables d) (kept_by directed))
    (kept_wider (names_broken schema fragments variables d) (c.in_err-check_target.ensures fragments)))

pub returns-in_err-check_cycles-clause-checks :
    goal.returns-in_err-check_cycles-clause-checks
returns-in_err-check_cycles-clause-checks c =
    let schema = schema_of c.args.context.now in
    let variables = variables_of c.args.context.now in
    let fragments = fragments_of c.args.document.now in
    let d = c.args.fragment.now in
    let same = c.deref-2.ensures.value ∙ ap (λ (d : Fragment). d.directives.items) c.deref.ensures in
    let directed = directives_reported (FragmentReport schema fragments variables d) (λ r at broken. by_fragment_directives broken) same c.in_ok-check_each_directive.ensures in
    checks_refused_within IsLimitEntry _ _ _ _ _ c.from_residual-in_err-check_cycles.ensures.0
    (kept_then
    (kept_then (kept_wider (names_said schema fragments variables d) (kept_by directed))
    (kept_wider (names_broken schema fragments variables d) (kept_by (c.in_ok-check_target.ensures fragments))))
    (kept_wider (names_cycle schema fragments variables d) (c.in_err-check_cycles.ensures schema)))

pub returns-clause-checks : goal.returns-clause-checks
returns-clause-checks c =
    let schema = schema_of c.args.context.now in
    let variables = variables_of c.args.context.now in
    let fragments = fragments_of c.args.document.now in
    let d = c.args.fragment.now in
    let same = c.deref-2.ensures.value ∙ ap (λ (d : Fragment). d.directives.items) c.deref.ensures in
    let directed = directives_reported (FragmentReport schema fragments variables d) (λ r at broken. by_fragment_directives broken) same c.in_ok-check_each_directive.ensures in
    fragment_reported schema fragments variables d directed (c.in_ok-check_target.ensures fragments) (c.in_ok-check_cycles.ensures schema)

pub returns-clause-answer : goal.returns-clause-answer
returns-clause-answer c = λ other same.
    let schema = schema_of c.args.context.now in
    let variables = variables_of c.args.context.now in
    let fragments = fragments_of c.args.document.now in
    let d = c.args.fragment.now in
    let lengths : length (entries c.check_cycles.new.diagnostics) ≡ length (entries c.check_each_directive.new.diagnostics) =
    kept_second (kept_by c.in_ok-check_each_directive.ensures)
    (kept_then
    (kept_wider (names_broken schema fragments variables d) (kept_by (c.in_ok-check_target.ensures fragments)))
    (kept_wider (names_cycle schema fragments variables d) (kept_within IsLimitEntry (c.in_ok-check_cycles.ensures schema)))) same in
    let equal : c.len.result ≡ c.len-before.result = c.len.ensures ∙ lengths ∙ sym c.len-before.ensures in
    grind (arith, nat_tests)

pub returns-clause-goes_on : goal.returns-clause-goes_on
returns-clause-goes_on c = λ yes.
    let schema = schema_of c.args.context.now in
    let fragments = fragments_of c.args.document.now in
    let equal : c.len.result ≡ c.len-before.result = grind (arith, nat_tests) in
    let same : length (entries c.check_cycles.new.diagnostics) ≡ length (entries c.check_each_directive.new.diagnostics) =
    sym c.len.ensures ∙ equal ∙ c.len-before.ensures in
    both_hold (c.in_ok-check_target.ensures fragments) (c.in_ok-check_cycles.ensures schema) same

pub returns-clause-stops : goal.returns-clause-stops
returns-clause-stops c = λ other target no_cycle kept.
    let schema = schema_of c.args.context.now in
    let fragments = fragments_of c.args.document.now in
    let lengths : length (entries c.check_cycles.new.diagnostics) ≡ length (entries c.check_each_directive.new.diagnostics) =
    none_added (c.in_ok-check_target.ensures fragments) (c.in_ok-check_cycles.ensures schema)
    (kept_by c.in_ok-check_each_directive.ensures) kept target no_cycle in
    let equal : c.len.result ≡ c.len-before.result = c.len.ensures ∙ lengths ∙ sym c.len-before.ensures in
    grind (arith, nat_tests)
