-- The work that merging by pairs counts.
use Rattle.std.specs.Prelude.{◌+◌, ◌*◌, ◌-◌, ◌^◌, ◌<◌, ◌≤◌, ℕ, Bool, true, false, List, sum_by, length}
use Rattle.graphql_pair_merging.specs.declared.work.PairWork.{PairWork}

-- how many units were counted
abbrev pub counted_of : PairWork → ℕ
counted_of work = work.counted

-- how many may be
abbrev pub most_of : PairWork → ℕ
most_of work = work.most

-- more were counted than may be
abbrev pub IsPassed : PairWork → Type 0
IsPassed work = most_of work < counted_of work

-- from one moment to another a hundred steps at most were taken for each unit that was counted, and these beside, unless the count is full
abbrev pub Paid : (work : PairWork) (steps : ℕ) (work_then : PairWork) (steps_then beside : ℕ) → Type 0
Paid work steps work_then steps_then beside =
    (counted_of work ≤ counted_of work_then) ×
    (counted_of work_then < 2 ^ 64 - 1 → steps_then + 100 * counted_of work ≤ steps + 100 * counted_of work_then + beside)

-- how often one of so many fields is compared with one of them, if one decides for all, or if none does
abbrev pub comparisons : (alone : Bool) → ℕ → ℕ
comparisons true count = count
comparisons false count = count * count

-- how many lists there are, and numbers in them
abbrev pub places_in : List (List ℕ) → ℕ
places_in lists = sum_by (λ l. length l + 1) lists
