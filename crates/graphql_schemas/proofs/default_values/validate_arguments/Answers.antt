use Rattle.std.proofs.Common.{refl, sym, Contains}
use Rattle.graphql_specification.specs.DefaultValues.{DefaultValueHolds}
use Rattle.graphql_documents.specs.declared.documents.definitions.InputValueDefinition.{InputValueDefinition}
use Rattle.graphql_nodes.specs.declared.nodes.Node.{Node}
use Rattle.graphql_diagnostics.proofs.ReportLemmas.{checks-err, kept_by, kept_then, kept_wider, walked_all, walked_more, wider}
use Rattle.graphql_schemas.proofs.DefaultValueLemmas.{Break, one_breaks}
use Rattle.graphql_schemas.proofs.default_values.validate_arguments.Goals as goal

pub returns-in_err-validate_default_value : goal.returns-in_err-validate_default_value
returns-in_err-validate_default_value c =
    let S = c.args.schema.now in
    let xs = c.args.arguments.now in
    let x = c.argument-item.result in
    let among : Contains xs x = (c.loop-argument.argument-index, c.loop-argument-test.true, sym c.argument-item.is) in
    checks-err _ _ _ _ _ c.from_residual.ensures.0
    (kept_then (kept_by c.loop-argument.invariant) (kept_wider (one_breaks S xs x among) c.in_err-validate_default_value.ensures))

pub loop-argument-preserved : goal.loop-argument-preserved
loop-argument-preserved c =
    let S = c.args.schema.now in
    let xs = c.args.arguments.now in
    let x = c.argument-item.result in
    let among : Contains xs x = (c.loop-argument.argument-index, c.loop-argument-test.true, sym c.argument-item.is) in
    walked_more (λ (d : Node InputValueDefinition). DefaultValueHolds S d.value.value) (Break S xs) xs c.loop-argument.argument-index x _ _ _
    c.loop-argument-test.true c.argument-item.is c.loop-argument.invariant (wider (one_breaks S xs x among) c.in_ok-validate_default_value.ensures)

pub returns : goal.returns
returns c =
    let S = c.args.schema.now in
    let xs = c.args.arguments.now in
    walked_all (λ (d : Node InputValueDefinition). DefaultValueHolds S d.value.value) (Break S xs) xs c.loop-argument.argument-index xs _ _ refl
    c.loop-argument-test.false c.loop-argument.invariant
