-- The statuses that the process ends with.
use Rattle.std.specs.Prelude.{ℕ}
use Rattle.gqlvalidate_inputs.specs.declared.statuses.Status.{Status}
use Rattle.gqlvalidate_inputs.specs.declared.statuses.Status.TheVariants.{Accepted, Reported, BadArguments, OutOfMemory, OutputFailed, Unreadable}

-- the number of a status
abbrev pub number_of : Status → ℕ
number_of Accepted = 0
number_of Reported = 1
number_of BadArguments = 2
number_of OutOfMemory = 3
number_of OutputFailed = 4
number_of Unreadable = 5
