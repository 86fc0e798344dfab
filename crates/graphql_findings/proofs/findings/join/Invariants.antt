use Rattle.std.proofs.Common.{◌≡◌, ◌+◌, drop, length, take}
use Rattle.std.specs.Vec.Iter.{into_iter_items, into_iter_len}
use Rattle.graphql_findings.specs.Findings.{IsJoined}
use Rattle.graphql_findings.proofs.findings.join.Given as goal

abbrev pub invariant-loop-single : goal.invariant-loop-single
invariant-loop-single l =
    (into_iter_items l.shown ≡ drop l.single-index l.fn.shown.items) × (into_iter_len l.shown + l.single-index ≡ length l.singles) ×
    IsJoined (take l.single-index l.fn.shown.items) (take l.single-index l.singles) l.fn.found.items l.found.items
