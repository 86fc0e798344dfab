use Rattle.graphql_schema_checking.specs.SchemaBuilds.{HasDistinctParts}
use Rattle.std.proofs.Common.{Contains}
use Rattle.std.proofs.lemmas.List.Elements.{All-contains, All-nil}
use Rattle.graphql_diagnostics.proofs.ReportLemmas.{checks-err, holds, kept_by, kept_then, kept_wider, wider}
use Rattle.graphql_schema_checking.specs.Definitions.{types}
use Rattle.graphql_schema_checking.specs.SchemaReports.{DefinitionsReport, PartsReport, of_parts}
use Rattle.graphql_repetitions.specs.References.{nows}
use Rattle.graphql_repetitions.proofs.ReferenceLemmas.{stands_now}
use Rattle.graphql_repetitions.proofs.WalkLemmas.{walked_all_now, walked_more_now}
use Rattle.graphql_schema_checking.proofs.checks.check_all_parts.Goals as goal

pub loop-definition-init : goal.loop-definition-init
loop-definition-init c = λ definitions among f. holds _ _ _ (All-nil _)

pub returns-in_err-check_type : goal.returns-in_err-check_type
returns-in_err-check_type c = λ definitions among f.
    let xs = c.args.first.now in
    let i = c.loop-definition.definition-index in
    let x = c.definition-item.result in
    let in' : Contains (types definitions) x.now = All-contains (Contains (types definitions)) (nows xs) x.now among (stands_now xs i x c.loop-definition-test.true c.definition-item.is) in
    checks-err _ _ _ _ _ c.from_residual.ensures.0
    (kept_then (kept_by (c.loop-definition.invariant definitions among f))
    (kept_wider (λ e (q : PartsReport definitions x.now e). let r : DefinitionsReport definitions e = of_parts in' q in r) (c.in_err-check_type.ensures definitions f)))

pub loop-definition-preserved : goal.loop-definition-preserved
loop-definition-preserved c = λ definitions among f.
    let xs = c.args.first.now in
    let i = c.loop-definition.definition-index in
    let x = c.definition-item.result in
    let in' : Contains (types definitions) x.now = All-contains (Contains (types definitions)) (nows xs) x.now among (stands_now xs i x c.loop-definition-test.true c.definition-item.is) in
    walked_more_now (HasDistinctParts definitions) _ xs i x _ _ _ c.loop-definition-test.true c.definition-item.is (c.loop-definition.invariant definitions among f)
    (wider (λ e (q : PartsReport definitions x.now e). let r : DefinitionsReport definitions e = of_parts in' q in r) (c.in_ok-check_type.ensures definitions f))

pub returns : goal.returns
returns c = λ definitions among f.
    walked_all_now (HasDistinctParts definitions) _ c.args.first.now c.loop-definition.definition-index _ _ c.loop-definition-test.false (c.loop-definition.invariant definitions among f)
