use Rattle.std.proofs.Common.{◌≡◌, ◌≤◌, None, length}
use Rattle.graphql_tokens.specs.Lexical.{Lexes}
use Rattle.graphql_tokens.specs.Scans.{ignored_at}
use Rattle.graphql_tokens.proofs.lexer.scan_into.Given as goal

abbrev pub invariant-loop-rest : goal.invariant-loop-rest
invariant-loop-rest l = record {
  lexes : Lexes (length l.text) l.text l.tokens.items l.rest;
  no_more_ignored : ignored_at l.rest ≡ None;
  within : length l.rest ≤ length l.text;
  few : length l.tokens.items ≤ l.bound;
}

abbrev pub decreases-loop-rest : goal.decreases-loop-rest
decreases-loop-rest l = length l.rest
