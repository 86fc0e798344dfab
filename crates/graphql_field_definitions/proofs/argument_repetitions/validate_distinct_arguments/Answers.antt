use Rattle.std.proofs.Common.{arith, map, rules, subst, take}
use Rattle.std.proofs.lemmas.List.{take_all}
use Rattle.graphql_diagnostics.specs.Diagnostics.{IsDiagnostic, entries}
use Rattle.graphql_nodes.specs.Names.{AreDistinct}
use Rattle.graphql_diagnostics.specs.Reports.{Reports}
use Rattle.graphql_diagnostics.proofs.ReportLemmas.{both, checks-err, holds, in_words, kept_by, kept_then}
use Rattle.graphql_documents.specs.declared.documents.definitions.InputValueDefinition.{InputValueDefinition}
use Rattle.graphql_nodes.specs.declared.nodes.Node.{Node}
use Rattle.graphql_field_definitions.specs.FieldDefinitionSteps.{RepetitionsReport}
use Rattle.graphql_variables.proofs.FirstPlaceLemmas.{distinct_names_more}
use Rattle.graphql_variables.proofs.ReferenceLemmas.{referred, referred_more, referred_next}
use Rattle.graphql_field_definitions.proofs.argument_repetitions.validate_distinct_arguments.Goals as goal

pub loop-argument-init : goal.loop-argument-init
loop-argument-init c = record {
  reported = holds _ _ _ (λ i j d lt h. absurd (let none : ⊥ = omega arith in none));
  remembered = c.with_hasher-seen.ensures;
}

pub returns-in_err-check_next_argument : goal.returns-in_err-check_next_argument
returns-in_err-check_next_argument c =
    let xs = c.args.arguments.now in
    let i = c.loop-argument.argument-index in
    checks-err _ _ _ _ _ c.from_residual.ensures.0
    (kept_then (kept_by c.loop-argument.invariant.reported)
    (c.in_err-check_next_argument.ensures.checks (referred (take i xs)) c.loop-argument.invariant.remembered (referred xs)
    (referred_next xs i c.argument-item.result c.loop-argument-test.true c.argument-item.is)))

pub loop-argument-preserved : goal.loop-argument-preserved
loop-argument-preserved c =
    let xs = c.args.arguments.now in
    let i = c.loop-argument.argument-index in
    let x = c.argument-item.result in
    let before = referred (take i xs) in
    let more = referred_more xs i x c.loop-argument-test.true c.argument-item.is in
    let next = referred_next xs i x c.loop-argument-test.true c.argument-item.is in
    record {
      reported = rw more
          (in_words (distinct_names_more (λ (d : Node InputValueDefinition). d.value.value.name) before x.now)
          (both c.loop-argument.invariant.reported (c.in_ok-check_next_argument.ensures.checks before c.loop-argument.invariant.remembered (referred xs) next)));
      remembered = rw more (c.in_ok-check_next_argument.ensures.remembers before c.loop-argument.invariant.remembered);
    }

pub returns : goal.returns
returns c =
    let xs = c.args.arguments.now in
    subst (λ l. Reports (AreDistinct (map (λ d. d.value.value.name) (referred l))) (IsDiagnostic (RepetitionsReport (referred xs)))
    (entries c.args.diagnostics.now) (entries c.loop-argument.diagnostics))
    (take_all c.loop-argument.argument-index xs c.loop-argument-test.false) c.loop-argument.invariant.reported
