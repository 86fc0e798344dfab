use Rattle.std.proofs.Common.{◌≡◌, List, ℕ, length, Some, None, refl, sym, ◌∙◌, ap, arith}
use Rattle.graphql_tokens.specs.Strings.{is_string_byte}
use Rattle.graphql_tokens.specs.Scans.{after_run, after_all, past_string_character}
use Rattle.graphql_tokens.proofs.ScanLemmas.{run_within, after_more, after_none, after_passed}
use Rattle.graphql_tokens.proofs.StringScans.{past_shrinks, past_plain}
use Rattle.graphql_tokens.proofs.quoted.after_string_characters.Goals as goal

passed : (text rest : List ℕ) → rest ≡ after_run is_string_byte text → after_all past_string_character rest ≡ after_all past_string_character text
passed text rest e = rw e (after_passed past_string_character past_shrinks is_string_byte past_plain text)

pub loop-part-init : goal.loop-part-init
loop-part-init c = passed c.args.text.now c.after_run-rest.result.now c.after_run-rest.ensures

pub loop-part-smaller : goal.loop-part-smaller
loop-part-smaller c =
    let on : past_string_character c.loop-part.rest.now ≡ Some c.in-Some.behind.now = rw c.in-Some.ensures refl in
    omega (
      arith,
      past_shrinks c.loop-part.rest.now c.in-Some.behind.now on,
      run_within is_string_byte c.in-Some.behind.now,
      ap length c.after_run-rest-in-Some.ensures,
    )

pub loop-part-preserved : goal.loop-part-preserved
loop-part-preserved c =
    let on : past_string_character c.loop-part.rest.now ≡ Some c.in-Some.behind.now = rw c.in-Some.ensures refl in
    passed c.in-Some.behind.now c.after_run-rest-in-Some.result.now c.after_run-rest-in-Some.ensures
    ∙ sym (after_more past_string_character past_shrinks c.loop-part.rest.now c.in-Some.behind.now on)
    ∙ c.loop-part.invariant

pub returns : goal.returns
returns c =
    let stops : past_string_character c.loop-part.rest.now ≡ None = rw c.in_default.ensures refl in
    sym (after_none past_string_character past_shrinks c.loop-part.rest.now stops) ∙ c.loop-part.invariant
