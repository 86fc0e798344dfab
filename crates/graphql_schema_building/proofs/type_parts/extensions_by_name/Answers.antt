use Rattle.std.proofs.Common.{ap, take, sym, subst, rules}
use Rattle.std.proofs.lemmas.List.{take_all}
use Rattle.graphql_schema_building.specs.Steps.{FindsParts}
use Rattle.graphql_schema_building.specs.TypeParts.{originated}
use Rattle.graphql_schema_building.proofs.FoundLemmas.{originated_more}
use Rattle.graphql_schema_building.proofs.type_parts.extensions_by_name.Goals as goal

pub loop-extension-init : goal.loop-extension-init
loop-extension-init c = record { look_up = λ name. search rules }

pub loop-extension-preserved : goal.loop-extension-preserved
loop-extension-preserved c =
    let xs = c.args.extensions.now in
    let i = c.loop-extension.extension-index in
    let x = c.extension-item.result in
    subst (FindsParts c.add_extension.new.found) (sym (originated_more xs i x c.loop-extension-test.true c.extension-item.is))
    (c.in_ok-add_extension.ensures (originated (take i xs)) c.loop-extension.invariant)

pub returns : goal.returns
returns c =
    subst (FindsParts c.loop-extension.found) (ap originated (take_all c.loop-extension.extension-index c.args.extensions.now c.loop-extension-test.false))
    c.loop-extension.invariant
