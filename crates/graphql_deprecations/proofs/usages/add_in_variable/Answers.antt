use Rattle.std.proofs.Common.{subst, OnOk}
use Rattle.std.proofs.lemmas.Result.{on_ok_weaker}
use Rattle.graphql_deprecations.specs.InOrder.{Adds, DirectivesUse}
use Rattle.graphql_deprecations.proofs.AddLemmas.{adds_both}
use Rattle.graphql_deprecations.proofs.usages.add_in_variable.Goals as goal

pub returns : goal.returns
returns c =
    let r = c.add_in_directives.result in
    on_ok_weaker r (λ applied. adds_both c.in_ok-add_in_default_value.ensures applied)
    (subst (λ l. OnOk r (Adds (DirectivesUse c.args.schema.now l) c.add_in_default_value.new.found.items c.add_in_directives.new.found.items)) c.deref.ensures.value c.add_in_directives.ensures)
