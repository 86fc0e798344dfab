-- What the output calls levels, and where changes are. Specification: 5 Validation.
use Rattle.std.specs.Prelude.{ℕ, Bool, false, true, List, Option, None, Some, codes}
use Rattle.graphql_report_formats.specs.NamedTexts.{Part, part_at, texts_of}
use Rattle.graphql_change_kinds.specs.declared.changes.SchemaChange.{SchemaChange}
use Rattle.graphql_change_kinds.specs.declared.levels.BreakingReason.TheVariants as reason
use Rattle.graphql_change_kinds.specs.declared.levels.Level.{Level}
use Rattle.graphql_change_kinds.specs.declared.levels.Level.TheVariants as level
use Rattle.graphql_change_formats.specs.declared.shown_changes.ComparedTexts.{ComparedTexts}

-- what the output calls a level
abbrev pub level_name : Level → List ℕ
level_name (level.Breaking reason) = codes "breaking"
level_name level.Dangerous = codes "dangerous"
level_name level.Safe = codes "other"

-- what it calls what a change breaks
abbrev pub reason_name : Level → Option (List ℕ)
reason_name (level.Breaking reason.Documents) = Some (codes "documents")
reason_name (level.Breaking reason.Merging) = Some (codes "merging")
reason_name (level.Breaking reason.Responses) = Some (codes "responses")
reason_name _ = None

-- whether a change breaks something, is dangerous, or is neither
abbrev pub is_breaking : Level → Bool
is_breaking (level.Breaking reason) = true
is_breaking _ = false

abbrev pub is_dangerous : Level → Bool
is_dangerous level.Dangerous = true
is_dangerous _ = false

abbrev pub is_other : Level → Bool
is_other level.Safe = true
is_other _ = false

-- the first of two parts that is there
abbrev pub first_part : Option Part → Option Part → Option Part
first_part None other = other
first_part (Some part) other = Some part

-- where a change is shown: in the new schema, or if it has no place there, in the old one
abbrev pub shown_place : ComparedTexts → SchemaChange → Option Part
shown_place texts change = first_part (part_at (texts_of texts.new) change.new) (part_at (texts_of texts.old) change.old)
