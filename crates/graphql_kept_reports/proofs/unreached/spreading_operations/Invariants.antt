use Rattle.std.proofs.Common.{◌≡◌, take}
use Rattle.std.specs.Prelude.{flat_map, map, string_bytes}
use Rattle.graphql_kept_reports.specs.Unreached.{spreading}
use Rattle.graphql_kept_reports.proofs.unreached.spreading_operations.Given as goal

abbrev pub invariant-loop-name : goal.invariant-loop-name
invariant-loop-name l = string_bytes l.text ≡ flat_map spreading (map string_bytes (take l.name-index l.names))
