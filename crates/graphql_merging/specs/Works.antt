-- The work of merging, and the steps that it pays for.
use Rattle.std.specs.Prelude.{◌≡◌, ◌≤◌, ◌+◌, ◌*◌, ℕ, IsSome, List, [], ◌∷◌, None, length, sum_by, unwrap_or}
use Rattle.graphql_specification.specs.Merging.{FieldSelection}
use Rattle.graphql_merging.specs.declared.groups.Pass.{Pass}
use Rattle.graphql_merging.specs.declared.groups.Pass.TheVariants.{NamesAndArguments, Shapes}
use Rattle.graphql_merging.specs.declared.work.Work.{Work}

-- any number of fields may be listed
abbrev pub IsUnbounded : Work → Type 0
IsUnbounded work = work.left ≡ None

-- so many at most
abbrev pub IsBounded : Work → Type 0
IsBounded work = IsSome work.left

-- how many units are left, if there is a bound
abbrev pub left_in : Work → ℕ
left_in work = unwrap_or work.left 0

-- from one moment to another, at least so many units of bounded work were counted
abbrev pub Spends : (work work_then : Work) (units : ℕ) → Type 0
Spends work work_then units = IsBounded work → IsBounded work_then × (left_in work_then + units ≤ left_in work)

-- from one moment to another, at most 26 steps were taken for each unit of bounded work that was counted, and these beside
abbrev pub Pays : (work work_then : Work) (steps steps_then beside : ℕ) → Type 0
Pays work work_then steps steps_then beside =
    IsBounded work → IsBounded work_then × (steps_then + 26 * left_in work_then ≤ steps + 26 * left_in work + beside)

-- how many arguments a field has
abbrev pub count_of_arguments : FieldSelection → ℕ
count_of_arguments x = length x.field.value.value.arguments.items

-- how many arguments are read when the first of some fields is compared with each other one
abbrev pub arguments_compared : List FieldSelection → ℕ
arguments_compared [] = 0
arguments_compared (x ∷ xs) = sum_by (λ y. count_of_arguments x + count_of_arguments y) xs

-- the same in a pass: none for shapes
abbrev pub compared_in : Pass → List FieldSelection → ℕ
compared_in Shapes fields = 0
compared_in NamesAndArguments fields = arguments_compared fields

-- one for each list of fields, and one for each field in it
abbrev pub weight : List (List FieldSelection) → ℕ
weight lists = sum_by (λ list. 1 + length list) lists
