use Rattle.std.specs.List.{AllZip}
use Rattle.std.specs.Option.{option_copied}
use Rattle.graphql_findings.specs.Findings.{IsFindingOf}
use Rattle.graphql_findings.proofs.findings.with_notes.Given as goal

abbrev pub invariant-loop-one : goal.invariant-loop-one
invariant-loop-one l = AllZip (IsFindingOf (option_copied l.schema) l.sources l.bounds) l.yielded l.findings.items
