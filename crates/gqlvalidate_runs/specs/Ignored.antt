-- Which findings comments ignore.
use Rattle.std.specs.Prelude.{Bool, false, List, None, Option, Some, ℕ}
use Rattle.std.specs.BTreeSet.{contains_by}
use Rattle.std.specs.Borrow.{Bor}
use Rattle.std.specs.Cmp.Lexicographic.{slice_cmp}
use Rattle.std.specs.Option.{option_map}
use Rattle.std.specs.Ordering.{nat_cmp, ordering_then}
use Rattle.std.specs.declared.cmp.Ordering.{Ordering}
use Rattle.graphql_nodes.specs.declared.spans.SourceSpan.{SourceSpan}
use Rattle.gqlvalidate_formats.specs.NamedTexts.{Part, Text, part_at}
use Rattle.gqlvalidate_runs.specs.declared.comments.Comments.{Comments}

-- a file, by the number of its first text; a line of it; and a rule, by its name
abbrev pub Spot : Type 0
Spot = ℕ × ℕ × Bor (List ℕ)

-- by file, then by line, then by the bytes of the name
abbrev pub spot_order : Spot → Spot → Ordering
spot_order a b = ordering_then (ordering_then (nat_cmp a.0 b.0) (nat_cmp a.1 b.1)) (slice_cmp nat_cmp a.2.now b.2.now)

-- the spot of a report of the rule at this place, if it is in a text, when `first` says which is the first text of the same file
abbrev pub spot_at : List Text → (ℕ → ℕ) → Bor (List ℕ) → Option SourceSpan → Option Spot
spot_at texts first rule place = option_map (λ (p : Part). (first p.span.file_id.0, p.start.line, rule)) (part_at texts place)

abbrev pub is_ignored_spot : Comments → Option Spot → Bool
is_ignored_spot comments None = false
is_ignored_spot comments (Some spot) = contains_by (spot_order spot) comments.ignored

-- the comments ignore a report of the rule at this place
abbrev pub is_ignored : Comments → List Text → (ℕ → ℕ) → Bor (List ℕ) → Option SourceSpan → Bool
is_ignored comments texts first rule place = is_ignored_spot comments (spot_at texts first rule place)
