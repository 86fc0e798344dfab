use Rattle.std.proofs.Common.{◌<◌, length, refl, arith}
use Rattle.graphql_diagnostics.proofs.ReportLemmas.{checks-push, holds}
use Rattle.graphql_operations.proofs.SubscriptionLemmas.{few_fields, says_several, several_fields}
use Rattle.graphql_operations.proofs.subscription.check_number.Goals as goal

pub returns-then-len-le1 : goal.returns-then-len-le1
returns-then-len-le1 c = λ document visited is_one walk.
    holds _ _ _ (few_fields document c.args.operation.now _ visited walk c.in_ok-fields.fields.items c.in_ok-fields.ensures (omega (arith, c.if-len-le1.true, c.len.ensures, c.in_ok-fields.fields.ok)))

pub returns : goal.returns
returns c = λ document visited is_one walk.
    let o = c.args.operation.now in
    let fields = c.in_ok-fields.fields in
    let many : 1 < length fields.items = omega (arith, c.if-len-le1.false, c.len.ensures, fields.ok) in
    checks-push _ _ _ _ _ _ c.push.ensures.ok c.push.ensures.err (several_fields document o _ visited walk fields.items c.in_ok-fields.ensures many)
    (says_several document o _ visited walk fields.items c.in_ok-fields.ensures fields c.in_ok-name.name refl is_one many c.in_ok-name.ensures)
