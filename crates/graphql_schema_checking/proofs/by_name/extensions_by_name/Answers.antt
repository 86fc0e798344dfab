use Rattle.std.proofs.Common.{take, sym, subst, rules}
use Rattle.graphql_repetitions.specs.References.{nows}
use Rattle.graphql_schema_checking.specs.Steps.{FindsAll}
use Rattle.graphql_repetitions.proofs.ReferenceLemmas.{nows_all, nows_more}
use Rattle.graphql_schema_checking.proofs.by_name.extensions_by_name.Goals as goal

pub loop-extension-init : goal.loop-extension-init
loop-extension-init c = record { look_up = λ name. search rules }

pub loop-extension-preserved : goal.loop-extension-preserved
loop-extension-preserved c =
    let xs = c.args.extensions.now in
    let i = c.loop-extension.extension-index in
    let x = c.extension-item.result in
    subst (FindsAll c.add_extension.new.found) (sym (nows_more xs i x c.loop-extension-test.true c.extension-item.is))
    (c.in_ok-add_extension.ensures (nows (take i xs)) c.loop-extension.invariant)

pub returns : goal.returns
returns c =
    subst (FindsAll c.loop-extension.found) (nows_all c.args.extensions.now c.loop-extension.extension-index c.loop-extension-test.false) c.loop-extension.invariant
