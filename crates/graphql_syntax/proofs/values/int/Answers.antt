use Rattle.std.proofs.Common.{sym, ◌∙◌}
use Rattle.graphql_syntax.specs.Inputs.{next_text}
use Rattle.graphql_syntax.specs.Reading.{input}
use Rattle.graphql_syntax.proofs.AsciiLemmas.{integer_ascii}
use Rattle.graphql_syntax.proofs.StepLemmas.{next_is_integer}
use Rattle.graphql_syntax.proofs.values.int.Goals as goal

pub ascii_text-requires : goal.ascii_text-requires
ascii_text-requires c =
    let is = next_is_integer (input c.args.cursor) c.args.cursor.spelled (sym c.sees.ensures ∙ c.if-not-sees.false) in
    rw c.next_text.ensures (integer_ascii (next_text (input c.args.cursor)) is)

pub returns-in-None : goal.returns-in-None
returns-in-None c =
    let named = next_is_integer (input c.args.cursor) c.args.cursor.spelled (sym c.sees.ensures ∙ c.if-not-sees.false) in
    absurd (let is = c.in-None.ensures.integer.1 (rw (c.in_ok-text.ensures, c.next_text.ensures) named) in let h : ⊥ = cc in h)
