-- Paths, depths and counts of walks.
use Rattle.std.specs.Prelude.{ℕ, ◌-◌, ◌<◌, ◌≤◌, List, length, take}
use Rattle.graphql_nodes.specs.Names.{NameText}
use Rattle.graphql_guards.specs.declared.limits.LimitCounter.{LimitCounter}
use Rattle.graphql_guards.specs.declared.depth.DepthCounter.{DepthCounter}
use Rattle.graphql_guards.specs.declared.recursion.RecursionStack.{RecursionStack}
use Rattle.graphql_guards.specs.declared.recursion.CycleError.{CycleError}
use Rattle.graphql_guards.specs.declared.recursion.CycleError.TheVariants.{Recursed, Limit, Memory}

-- the names of a path, from the first that was visited
abbrev pub path_of : RecursionStack → List NameText
path_of stack = stack.names.keys

-- how many names a path may hold
abbrev pub path_limit : RecursionStack → ℕ
path_limit stack = stack.limit

-- the path but its last name
abbrev pub without_last : List NameText → List NameText
without_last path = take (length path - 1) path

-- the path holds fewer names than it may
abbrev pub HasRoom : RecursionStack → Type 0
HasRoom stack = length (path_of stack) < path_limit stack

-- a path refuses a name for the limit where it has no room, and for a failed allocation where it has
abbrev pub Refuses : {T : Type 0} → RecursionStack → CycleError T → Type 0
Refuses stack (Recursed trace) = ⊥
Refuses stack Limit = path_limit stack ≤ length (path_of stack)
Refuses stack Memory = HasRoom stack

-- how deep a walk is
abbrev pub depth_of : DepthCounter → ℕ
depth_of counter = counter.depth

-- how deep a walk may go
abbrev pub depth_limit : DepthCounter → ℕ
depth_limit counter = counter.limit

-- the current value of a counter
abbrev pub count_of : LimitCounter → ℕ
count_of counter = counter.current

-- the greatest value that a counter may have
abbrev pub count_limit : LimitCounter → ℕ
count_limit counter = counter.limit

-- the greatest value that was asked for
abbrev pub highest_of : LimitCounter → ℕ
highest_of counter = counter.high
