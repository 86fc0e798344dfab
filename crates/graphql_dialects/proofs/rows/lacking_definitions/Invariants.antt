use Rattle.std.proofs.Common.{◌≡◌, string_bytes, take}
use Rattle.graphql_repetitions.specs.References.{nows}
use Rattle.graphql_dialects.specs.Rows.{definitions_of}
use Rattle.graphql_dialects.proofs.rows.lacking_definitions.Given as goal

abbrev pub invariant-loop-row : goal.invariant-loop-row
invariant-loop-row l = string_bytes l.text ≡ definitions_of (nows l.taken) (take l.row-index l.rows)
