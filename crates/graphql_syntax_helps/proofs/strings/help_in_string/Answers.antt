use Rattle.std.proofs.Common.{◌≡◌, drop, false, subst, sym}
use Rattle.graphql_syntax_helps.specs.SyntaxHelps.{is_open}
use Rattle.std.proofs.lemmas.Bool.{false≢true, ne_eqb}
use Rattle.graphql_syntax_helps.proofs.StringLemmas.{code_here, escape_begins, escape_here, past_byte, past_escape}
use Rattle.graphql_syntax_helps.proofs.strings.help_in_string.Goals.{then-is_escaped+else-not-is_escape+then-has_code, then-is_escaped+else-not-is_escape+else-has_code, else-is_escaped+else-byte-eq34}
use Rattle.graphql_syntax_helps.proofs.strings.help_in_string.Goals as goal

pub returns-then-not-is_escape : goal.returns-then-not-is_escape
returns-then-not-is_escape c =
    let ends = c.loop-byte.invariant.1 c.if-is_escaped.true in
    (_, escape_here c.args.inside.now c.loop-byte.byte-index 0 c.loop-byte-test.true ends.0 ends.1, sym c.if-not-is_escape.ensures)

pub loop-byte-preserved : goal.loop-byte-preserved
loop-byte-preserved c =
    let inside = c.args.inside.now in
    let i = c.loop-byte.byte-index in
    let within = c.loop-byte-test.true in
    elim c.if-is_escaped.branch [
      | then-is_escaped+else-not-is_escape+then-has_code w ↦
          let whole = subst (λ b. is_open false inside ≡ is_open b (drop i inside)) w.if-is_escaped.true c.loop-byte.invariant.0 in
          rw (w.is_escaped-is, w.has_code-is)
          (past_escape inside i 0 within c.if-ends_line.ensures whole, (λ e. absurd (false≢true e)), c.loop-byte.invariant.2)
      | then-is_escaped+else-not-is_escape+else-has_code w ↦
          let whole = subst (λ b. is_open false inside ≡ is_open b (drop i inside)) w.if-is_escaped.true c.loop-byte.invariant.0 in
          let ends = c.loop-byte.invariant.1 w.if-is_escaped.true in
          rw (w.is_escaped-is, w.has_code-is)
          (past_escape inside i 0 within c.if-ends_line.ensures whole, (λ e. absurd (false≢true e)), (λ e. code_here inside i 0 within ends.0 ends.1 e))
      | else-is_escaped+else-byte-eq34 w ↦
          let whole = subst (λ b. is_open false inside ≡ is_open b (drop i inside)) w.if-is_escaped.false c.loop-byte.invariant.0 in
          rw (w.is_escaped-is, w.has_code-is)
          (past_byte inside i 0 within c.if-ends_line.ensures (ne_eqb _ 34 w.if-byte-eq34.false) whole, (λ e. escape_begins inside i 0 within e), c.loop-byte.invariant.2)
    ]
