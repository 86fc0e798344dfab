-- Lines and columns are no more than the bytes before them, and one.
use Rattle.std.proofs.Common.{ℕ, zero, suc, ◌+◌, ◌≤◌, Bool, true, false, List, if◌then◌else◌, arith}
use Rattle.graphql_places.specs.Places.{begins_character, column, ends_line, line}

one_more : (b : Bool) (m k : ℕ) → m ≤ k + 1 → (if b then m + 1 else m) ≤ suc k + 1
one_more true m k h = omega (arith, h)
one_more false m k h = omega (arith, h)

pub line_within : (text : List ℕ) (k : ℕ) → line text k ≤ k + 1
line_within text zero = omega arith
line_within text (suc k) = one_more (ends_line text k) (line text k) k (line_within text k)

one_or : (b : Bool) (m k : ℕ) → m ≤ suc k + 1 → (if b then 1 else m) ≤ suc k + 1
one_or true m k h = omega arith
one_or false m k h = h

pub column_within : (text : List ℕ) (k : ℕ) → column text k ≤ k + 1
column_within text zero = omega arith
column_within text (suc k) =
    one_or (ends_line text k) _ k (one_more (begins_character text k) (column text k) k (column_within text k))
