-- What a stack, a counter or a guard is once a guard that borrows from it is gone.
use Rattle.std.specs.Prelude.{◌≡◌, Result, []}
use Rattle.std.specs.Borrow.{MutBor, Fml, Lends, RestsIfErr}
use mir.Syntax.{named}
use Rattle.graphql_guards.specs.Guards.{path_of, path_limit}
use Rattle.graphql_nodes.specs.declared.errors.RecursionLimitError.{RecursionLimitError}
use Rattle.graphql_guards.specs.declared.depth.DepthCounter.{DepthCounter}
use Rattle.graphql_guards.specs.declared.depth.DepthGuard.{DepthGuard}
use Rattle.graphql_guards.specs.declared.recursion.CycleError.{CycleError}
use Rattle.graphql_guards.specs.declared.recursion.RecursionStack.{RecursionStack}
use Rattle.graphql_guards.specs.declared.recursion.RecursionGuard.{RecursionGuard}
use Rattle.graphql_guards.specs.contracts.depth.DepthCounter as counter
use Rattle.graphql_guards.specs.contracts.depth.DepthGuard as depth_guard
use Rattle.graphql_guards.specs.contracts.recursion.RecursionStack as stack
use Rattle.graphql_guards.specs.contracts.recursion.RecursionGuard as recursion_guard

-- the guard over another counter
abbrev pub over_counter : DepthGuard → DepthCounter → DepthGuard
over_counter guard c = record guard { counter = record guard.counter { now = c } }

-- the guard keeps its counter as the borrow left it
abbrev pub LendsCounter : MutBor DepthGuard → MutBor DepthCounter → Fml
LendsCounter guard c = Lends (depth_guard.the_row (record { mir = named 1; lft = [] })) counter.the_row guard c (over_counter guard.now)

-- the counter is as the guard leaves it, and where there is none, as it was
abbrev pub CounterRestsIfErr : MutBor DepthCounter → Result DepthGuard RecursionLimitError → Fml
CounterRestsIfErr c r = RestsIfErr counter.the_row c (λ child. child.counter.ghost_name) r (λ after. after ≡ c.now)

-- the guard over another stack
abbrev pub over_stack : RecursionGuard → RecursionStack → RecursionGuard
over_stack guard s = record guard { stack = record guard.stack { now = s } }

-- the guard keeps its stack as the borrow left it
abbrev pub LendsStack : MutBor RecursionGuard → MutBor RecursionStack → Fml
LendsStack guard s = Lends (recursion_guard.the_row (record { mir = named 1; lft = [] })) stack.the_row guard s (over_stack guard.now)

-- the stack is as the guard leaves it, and where there is none, its path and limit are as they were
abbrev pub StackRestsIfErr : {T : Type 0} → MutBor RecursionStack → Result RecursionGuard (CycleError T) → Fml
StackRestsIfErr s r = RestsIfErr stack.the_row s (λ child. child.stack.ghost_name) r
    (λ after. (path_of after ≡ path_of s.now) × (path_limit after ≡ path_limit s.now))
