use Rattle.std.proofs.Common.{◌∙◌, sym}
use Rattle.graphql_schema_checking.specs.SchemaBuilds.{is_default_root}
use Rattle.graphql_repetitions.proofs.ReferenceLemmas.{found_next, not_found_next}
use Rattle.graphql_schema_checking.proofs.roots.default_root.Goals as goal

pub returns-then-is_default_root : goal.returns-then-is_default_root
returns-then-is_default_root c =
    sym (found_next (is_default_root c.args.operation_type) c.args.types.now c.loop-definition.definition-index c.definition-item.result c.loop-definition-test.true c.definition-item.is
    c.loop-definition.invariant (sym c.is_default_root.ensures ∙ c.if-is_default_root.true))

pub loop-definition-preserved : goal.loop-definition-preserved
loop-definition-preserved c =
    not_found_next (is_default_root c.args.operation_type) c.args.types.now c.loop-definition.definition-index c.definition-item.result c.loop-definition-test.true c.definition-item.is
    c.loop-definition.invariant (sym c.is_default_root.ensures ∙ c.if-is_default_root.false)
