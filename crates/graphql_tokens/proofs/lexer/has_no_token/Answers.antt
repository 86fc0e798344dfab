use Rattle.std.proofs.Common.{◌≡◌, ◌≤◌, length, ap, ◌∙◌, arith}
use Rattle.std.proofs.lemmas.Bool.Decides.{nat_tests}
use Rattle.graphql_tokens.specs.Scans.{after_all, ignored_at}
use Rattle.graphql_tokens.proofs.IgnoredLemmas.{all_ignored, no_token}
use Rattle.graphql_tokens.proofs.lexer.has_no_token.Goals as goal

pub returns-clause-none : goal.returns-clause-none
returns-clause-none c = λ empty.
    let at : c.after_ignored.result.now ≡ after_all ignored_at c.args.text.now = c.after_ignored.ensures ∙ ap (λ l. after_all ignored_at l) c.as_bytes.ensures.value in
    let none : length c.after_ignored.result.now ≤ 0 = grind (arith, nat_tests, c.is_empty.ensures, empty) in
    no_token c.args.text.now (rw at at none)

pub returns-clause-only : goal.returns-clause-only
returns-clause-only c = λ are.
    let at : c.after_ignored.result.now ≡ after_all ignored_at c.args.text.now = c.after_ignored.ensures ∙ ap (λ l. after_all ignored_at l) c.as_bytes.ensures.value in
    let none : length c.after_ignored.result.now ≤ 0 = rw at (all_ignored c.args.text.now are) in
    grind (arith, nat_tests, c.is_empty.ensures, none)
