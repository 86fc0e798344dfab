use Rattle.std.proofs.Common.{refl, sym, true≢false, ◌∙◌}
use Rattle.graphql_diagnostics.proofs.ReportLemmas.{checks-err, checks-push, holds, kept}
use Rattle.graphql_specification.specs.Fragments.{NamesComposite, invalid_target}
use Rattle.graphql_operations.proofs.type_conditions.validate_fragment_type_condition.Goals as goal

pub returns-then-names_composite : goal.returns-then-names_composite
returns-then-names_composite c = holds _ _ _ (c.names_composite.ensures.0 c.if-names_composite.true)

pub returns-in_err-ty : goal.returns-in_err-ty
returns-in_err-ty c = checks-err _ _ _ _ _ c.from_residual.ensures.0 (kept _ _)

pub returns : goal.returns
returns c =
    let not_composite : ¬ NamesComposite c.args.schema.now c.args.condition.now =
    λ composite. true≢false (sym (c.names_composite.ensures.1 composite) ∙ c.if-names_composite.false) in
    checks-push _ _ _ _ _ _ c.push.ensures.ok c.push.ensures.err not_composite
    (invalid_target (record {
      against = c.args.schema.now;
      has_schema = refl;
      not_composite = not_composite;
      type_is = c.in_ok-ty.ensures.cases;
      at_is = refl;
    }))
