use Rattle.std.proofs.Common.{sym, subst}
use Rattle.graphql_guards.specs.declared.recursion.CycleError.TheVariants.{Recursed}
use Rattle.graphql_cycles.specs.CycleSearches.{GoesOn}
use Rattle.graphql_cycles.proofs.steps.trace_step.Goals as goal

pub returns-in-Ok-push : goal.returns-in-Ok-push
returns-in-Ok-push g c =
    subst (λ e. GoesOn c.args.step.now e (Recursed c.push.new.self)) (sym c.in-Recursed.is)
    (c.in-Ok.copy, c.in-Ok-push.ensures.items, c.in-Ok.ensures.cases)
