use Rattle.std.proofs.Common.{ap, sym, ◌∙◌}
use Rattle.std.proofs.lemmas.Option.{none-some}
use Rattle.graphql_diagnostics.specs.Diagnostics.{IsDiagnostic}
use Rattle.graphql_specification.specs.Fragments.{InlineFragmentHolds, TargetHolds, InlineFragmentConditionReport, InlineFragmentReport, by_inline_directives}
use Rattle.graphql_diagnostics.proofs.ReportLemmas.{checks-err, checks_after, checks_words, in_words}
use Rattle.graphql_documents.specs.declared.documents.executables.InlineFragment.{InlineFragment}
use Rattle.graphql_operations.specs.Contexts.{parent_of, schema_of, variables_of}
use Rattle.graphql_rules.specs.SelectionSteps.{ConditionHolds}
use Rattle.graphql_rules.proofs.AppliedLemmas.{directives_kept, directives_reported}
use Rattle.graphql_rules.proofs.FragmentLemmas.{inline_decides, inline_decides_alone, inline_needs, names_condition, known_target, says_no}
use Rattle.graphql_rules.proofs.operations.fragments.check_inline_fragment.Goals as goal

pub returns-in_err-check_each_directive-clause-checks :
    goal.returns-in_err-check_each_directive-clause-checks
returns-in_err-check_each_directive-clause-checks c =
    let same = c.deref-2.ensures.value ∙ ap (λ (i : InlineFragment). i.directives.items) c.deref.ensures in
    checks-err _ _ _ _ _ c.from_residual.ensures.0
    (directives_kept _ (λ r at broken. by_inline_directives broken) same c.in_err-check_each_directive.ensures)

pub returns-in-Some-clause-checks : goal.returns-in-Some-clause-checks
returns-in-Some-clause-checks c =
    let schema = schema_of c.args.context.now in
    let variables = variables_of c.args.context.now in
    let parent = parent_of c.args.against_type in
    let i = c.args.inline.now in
    let condition = c.in-Some.condition in
    let Said = IsDiagnostic (InlineFragmentReport schema variables parent i) in
    let same = c.deref-2.ensures.value ∙ ap (λ (i : InlineFragment). i.directives.items) c.deref.ensures in
    let is = ap (λ (i : InlineFragment). i.type_condition) (sym c.deref-3.ensures) ∙ c.in-Some.is in
    checks_words c.check_condition.result _ _ Said Said _ _ (inline_decides schema variables parent i condition is) (λ e q. q)
    (checks_after c.check_condition.result _ _ Said _ _ _
    (directives_reported (InlineFragmentReport schema variables parent i) (λ r at broken. by_inline_directives broken) same c.in_ok-check_each_directive.ensures)
    (checks_words c.check_condition.result (ConditionHolds schema parent condition) (ConditionHolds schema parent condition)
    (IsDiagnostic (InlineFragmentConditionReport schema parent i)) Said _ _ (λ x. x, λ x. x)
    (names_condition schema variables parent i) c.check_condition.ensures.checks))

pub returns-in-Some-clause-answer : goal.returns-in-Some-clause-answer
returns-in-Some-clause-answer c =
    let schema = schema_of c.args.context.now in
    let variables = variables_of c.args.context.now in
    let parent = parent_of c.args.against_type in
    let i = c.args.inline.now in
    let condition = c.in-Some.condition in
    let is = ap (λ (i : InlineFragment). i.type_condition) (sym c.deref-3.ensures) ∙ c.in-Some.is in
    says_no c.check_condition.result (TargetHolds schema condition) (InlineFragmentHolds schema variables parent i.value.value)
    (inline_needs schema variables parent i condition is) c.check_condition.ensures.answer

pub returns-in-None-clause-checks : goal.returns-in-None-clause-checks
returns-in-None-clause-checks c =
    let schema = schema_of c.args.context.now in
    let variables = variables_of c.args.context.now in
    let parent = parent_of c.args.against_type in
    let i = c.args.inline.now in
    let same = c.deref-2.ensures.value ∙ ap (λ (i : InlineFragment). i.directives.items) c.deref.ensures in
    let is = ap (λ (i : InlineFragment). i.type_condition) (sym c.deref-3.ensures) ∙ c.in-None.is in
    in_words (inline_decides_alone schema variables parent i is)
    (directives_reported (InlineFragmentReport schema variables parent i) (λ r at broken. by_inline_directives broken) same c.in_ok-check_each_directive.ensures)

pub returns-in-Some-clause-goes_on : goal.returns-in-Some-clause-goes_on
returns-in-Some-clause-goes_on c =
    let i = c.args.inline.now in
    let condition = c.in-Some.condition in
    let is = ap (λ (i : InlineFragment). i.type_condition) (sym c.deref-3.ensures) ∙ c.in-Some.is in
    known_target c.check_condition.result (schema_of c.args.context.now) i.value.value.type_condition condition is c.check_condition.ensures.goes_on

pub returns-in-None-clause-goes_on : goal.returns-in-None-clause-goes_on
returns-in-None-clause-goes_on c = λ yes condition given.
    absurd (none-some condition (sym (ap (λ (i : InlineFragment). i.type_condition) (sym c.deref-3.ensures) ∙ c.in-None.is) ∙ given))
