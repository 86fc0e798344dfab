use Rattle.std.proofs.Common.{take, subst, arith}
use Rattle.std.specs.Option.{option_copied}
use Rattle.std.proofs.lemmas.List.{take_all}
use Rattle.std.proofs.lemmas.List.Elements.{All-nil}
use Rattle.graphql_diagnostics.specs.Diagnostics.{IsDiagnostic, entries}
use Rattle.graphql_diagnostics.specs.Reports.{Reports}
use Rattle.graphql_specification.specs.Variables.{VariablesReport, VariableDefinitionsHold}
use Rattle.graphql_diagnostics.proofs.ReportLemmas.{checks-err, holds, kept_by, kept_then}
use Rattle.graphql_documents.proofs.ListLemmas.{more_is}
use Rattle.graphql_variables.proofs.FirstPlaceLemmas.{next_at}
use Rattle.graphql_values.proofs.VariableLemmas.{variable_checked}
use Rattle.graphql_values.proofs.directive.variable_definitions.validate_variable_definitions.Goals as goal

pub loop-variable-init : goal.loop-variable-init
loop-variable-init c = record {
  reported = holds _ _ _ (record { each = All-nil _; distinct = λ i j d lt h. absurd (let none : ⊥ = omega arith in none) });
  remembered = c.with_hasher-seen.ensures;
}

pub returns-in_err-validate_variable_definition : goal.returns-in_err-validate_variable_definition
returns-in_err-validate_variable_definition c =
    let xs = c.args.variables.now in
    let i = c.loop-variable.variable-index in
    checks-err _ _ _ _ _ c.from_residual.ensures.0
    (kept_then (kept_by c.loop-variable.invariant.reported)
    (c.in_err-validate_variable_definition.ensures.checks (take i xs) c.loop-variable.invariant.remembered xs
    (next_at xs i c.variable-item.result c.loop-variable-test.true c.variable-item.is)))

pub loop-variable-preserved : goal.loop-variable-preserved
loop-variable-preserved c =
    let xs = c.args.variables.now in
    let i = c.loop-variable.variable-index in
    let x = c.variable-item.result in
    let before = take i xs in
    let more = more_is xs i x c.loop-variable-test.true c.variable-item.is in
    let next = next_at xs i x c.loop-variable-test.true c.variable-item.is in
    record {
      reported = rw more
          (variable_checked (option_copied c.args.schema) xs before x _ _ _ c.loop-variable.invariant.reported
          (c.in_ok-validate_variable_definition.ensures.checks before c.loop-variable.invariant.remembered xs next));
      remembered = rw more (c.in_ok-validate_variable_definition.ensures.remembers before c.loop-variable.invariant.remembered);
    }

pub returns : goal.returns
returns c =
    let xs = c.args.variables.now in
    subst (λ l. Reports (VariableDefinitionsHold (option_copied c.args.schema) l) (IsDiagnostic (VariablesReport (option_copied c.args.schema) xs))
    (entries c.args.diagnostics.now) (entries c.loop-variable.diagnostics))
    (take_all c.loop-variable.variable-index xs c.loop-variable-test.false) c.loop-variable.invariant.reported
