use Rattle.std.proofs.Common.{◌≡◌, ◌∙◌, ap, sym, true, false, length, unwrap_or, true≢false}
use Rattle.std.specs.List.{position_or_len}
use Rattle.graphql_numbers.specs.Numbers.{begins_exponent, ends_integer, is_integer}
use Rattle.graphql_numbers.proofs.NumberLemmas.{float_after, no_float, position_or_end}
use Rattle.graphql_numbers.proofs.floats.is_float_text.Goals as goal

pub returns-then-is_integer_text : goal.returns-then-is_integer_text
returns-then-is_integer_text c =
    let text = c.args.text.now in
    let ends : c.unwrap_or.result ≡ position_or_len ends_integer text =
    c.unwrap_or.ensures ∙ ap (λ o. unwrap_or o (length text)) c.end_of_integer.ensures ∙ position_or_end ends_integer text in
    let rest = c.split_at.result.1.now in
    let starts : c.unwrap_or-2.result ≡ position_or_len begins_exponent rest =
    c.unwrap_or-2.ensures ∙ ap (λ o. unwrap_or o (length rest)) c.start_of_exponent.ensures ∙ position_or_end begins_exponent rest in
    let whole : is_integer c.split_at.result.0.now ≡ true = sym c.is_integer_text.ensures ∙ c.if-is_integer_text.true in
    let float = float_after text c.unwrap_or.result c.unwrap_or-2.result ends (rw c.split_at.ensures.back at starts) (rw c.split_at.ensures.front at whole) in
    rw (c.is_fraction_or_exponent_text.ensures, c.split_at-2.ensures.front, c.split_at-2.ensures.back, c.split_at.ensures.back) float

pub returns-else-is_integer_text : goal.returns-else-is_integer_text
returns-else-is_integer_text c =
    let text = c.args.text.now in
    let ends : c.unwrap_or.result ≡ position_or_len ends_integer text =
    c.unwrap_or.ensures ∙ ap (λ o. unwrap_or o (length text)) c.end_of_integer.ensures ∙ position_or_end ends_integer text in
    let rest = c.split_at.result.1.now in
    let starts : c.unwrap_or-2.result ≡ position_or_len begins_exponent rest =
    c.unwrap_or-2.ensures ∙ ap (λ o. unwrap_or o (length rest)) c.start_of_exponent.ensures ∙ position_or_end begins_exponent rest in
    let whole : is_integer c.split_at.result.0.now ≡ false = sym c.is_integer_text.ensures ∙ c.if-is_integer_text.false in
    let refused = no_float text c.unwrap_or.result c.unwrap_or-2.result ends (rw c.split_at.ensures.back at starts) (rw c.split_at.ensures.front at whole) in
    (λ h. absurd (true≢false (sym h ∙ c.if-is_integer_text.false)), λ f. absurd (refused f))
