use Rattle.std.proofs.Common.{◌∙◌, ◌++◌, ap, sym}
use Rattle.std.specs.Prelude.{reverse}
use Rattle.std.proofs.lemmas.List.{append-nil}
use Rattle.graphql_project_checking.proofs.PartLemmas.{one_turned}
use Rattle.graphql_project_checking.proofs.parts.turned.Goals as goal

pub loop-definition-init : goal.loop-definition-init
loop-definition-init c = ap (λ l. l ++ reverse c.args.definitions) (sym c.new-turned.ensures)

pub loop-definition-preserved : goal.loop-definition-preserved
loop-definition-preserved c =
    let new = c.pop.new.self in
    one_turned c.args.definitions c.loop-definition.turned c.loop-definition.definitions new c.in-Some.definition c.in-Some.ensures c.loop-definition.invariant ∙
    ap (λ l. l ++ reverse new) (sym c.in_ok-push.ensures.ok)

pub returns : goal.returns
returns c =
    let turned = c.loop-definition.turned in
    sym (c.loop-definition.invariant ∙ ap (λ l. turned ++ reverse l) c.in_default.ensures.0 ∙ append-nil turned)
