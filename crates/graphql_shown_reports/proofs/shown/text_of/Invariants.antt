use Rattle.std.proofs.Common.{◌≡◌, drop}
use Rattle.graphql_shown_reports.specs.Shown.{text_of}
use Rattle.graphql_shown_reports.proofs.shown.text_of.Given as goal

abbrev pub invariant-loop-source : goal.invariant-loop-source
invariant-loop-source l = text_of l.sources l.file_id ≡ text_of (drop l.source-index l.sources) l.file_id
