use Rattle.std.proofs.Common.{subst}
use Rattle.std.proofs.lemmas.Result.{on_ok_weaker}
use Rattle.graphql_deprecations.specs.InOrder.{Adds, DirectivesUse}
use Rattle.graphql_deprecations.proofs.AddLemmas.{adds_both}
use Rattle.graphql_deprecations.proofs.usages.add_in_fragment.Goals as goal

pub returns : goal.returns
returns c =
    let applied = subst (λ l. Adds (DirectivesUse c.args.schema.now l) c.args.found.now.items c.add_in_directives.new.found.items) c.deref.ensures.value c.in_ok-add_in_directives.ensures in
    on_ok_weaker c.add_in_selection_set.result (λ below. adds_both applied below) c.add_in_selection_set.ensures
