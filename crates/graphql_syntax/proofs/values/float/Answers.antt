use Rattle.std.proofs.Common.{sym, ◌∙◌}
use Rattle.graphql_numbers.specs.Numbers.{IsFloat}
use Rattle.graphql_syntax.specs.Inputs.{next_text}
use Rattle.graphql_syntax.specs.Reading.{input}
use Rattle.graphql_syntax.proofs.StepLemmas.{next_is_float, next_float_ascii}
use Rattle.graphql_syntax.proofs.values.float.Goals as goal

pub ascii_text-requires : goal.ascii_text-requires
ascii_text-requires c =
    rw c.next_text.ensures (next_float_ascii (input c.args.cursor) c.args.cursor.spelled (sym c.sees.ensures ∙ c.if-not-sees.false))

pub returns-in-None : goal.returns-in-None
returns-in-None c =
    absurd (next_is_float (input c.args.cursor) c.args.cursor.floats (sym c.sees.ensures ∙ c.if-not-sees.false)
    (λ (is : IsFloat (next_text (input c.args.cursor))). let found = c.in-None.ensures.float.1 (rw (c.in_ok-text.ensures, c.next_text.ensures) is) in let h : ⊥ = cc in h))
