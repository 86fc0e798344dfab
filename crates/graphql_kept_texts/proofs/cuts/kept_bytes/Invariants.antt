use Rattle.std.proofs.Common.{◌≡◌, ◌++◌, drop}
use Rattle.graphql_kept_texts.specs.Cuts.{kept_bytes, kept_from}
use Rattle.graphql_kept_texts.proofs.cuts.kept_bytes.Given as goal

-- what is kept, and what is kept of the rest, are what is kept of the text
abbrev pub invariant-loop-cut : goal.invariant-loop-cut
invariant-loop-cut l = l.kept.items ++ kept_from l.text l.at (drop l.cut-index l.cuts) ≡ kept_bytes l.text l.cuts
