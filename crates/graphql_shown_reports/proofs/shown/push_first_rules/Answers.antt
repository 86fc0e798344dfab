use Rattle.std.proofs.Common.{◌≡◌, ◌-◌, [], ◌∷◌, length, map, rules, subst, take}
use Rattle.std.proofs.lemmas.Result.{on_ok_weaker}
use Rattle.graphql_diagnostics.specs.Diagnostics.{entries}
use Rattle.graphql_shown_reports.specs.Shown.{Shows, ShowsEntry, ShowsMore, ShowsThatMore, more, validation}
use Rattle.graphql_shown_reports.proofs.ShownLemmas.{alone, before_others}
use Rattle.graphql_shown_reports.proofs.shown.push_first_rules.Goals as goal

pub returns : goal.returns
returns c = λ sources bounds.
    let R = Shows sources bounds in
    let most = c.args.most in
    let found = entries c.args.list.now in
    let old = c.args.shown.now.items in
    let mid = c.push_rules.new.shown.items in
    let new = c.push_more.new.shown.items in
    let first_are : c.first.result.now ≡ take most found = cc in
    let left : c.saturating_sub.result ≡ most - length found = search rules in
    on_ok_weaker {P = ShowsMore ShowsThatMore (take c.saturating_sub.result (tt ∷ [])) mid new} c.push_more.result
    (λ so. before_others validation R most found (more ∷ []) old mid new
    (subst (λ l. ShowsMore ShowsEntry l old mid) first_are c.in_ok-push_rules.ensures)
    (alone (λ (u : Unit {0}). more) R (most - length found) (tt ∷ []) mid new (subst (λ n. ShowsMore ShowsThatMore (take n (tt ∷ [])) mid new) left so)))
    c.push_more.ensures
