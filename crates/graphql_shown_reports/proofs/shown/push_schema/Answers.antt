use Rattle.std.proofs.Common.{◌≡◌, ◌-◌, ◌++◌, length, map, rules, subst, take}
use Rattle.std.proofs.lemmas.Result.{on_ok_weaker}
use Rattle.graphql_diagnostics.specs.Diagnostics.{entries}
use Rattle.graphql_shown_reports.specs.Shown.{Shows, ShowsEntry, ShowsMore, ShowsRepetition, ShowsThatMore, input_field, more, once_if, validation}
use Rattle.graphql_shown_reports.proofs.ShownLemmas.{alone, before_others}
use Rattle.graphql_shown_reports.proofs.shown.push_schema.Goals as goal

pub returns : goal.returns
returns c = λ sources bounds.
    let R = Shows sources bounds in
    let most = c.args.most in
    let found = entries c.args.reports.now.rules in
    let fields = c.args.reports.now.input_fields.items in
    let old = c.args.shown.now.items in
    let mid = c.push_rules.new.shown.items in
    let behind_fields = c.push_repetitions.new.shown.items in
    let new = c.push_more_if.new.shown.items in
    let then_left = most - length found - length fields in
    let told = once_if c.args.reports.now.has_more in
    let first_are : c.first.result.now ≡ take most found = cc in
    let rest_are : c.first-2.result.now ≡ take (most - length found) fields = search rules in
    let left_is : c.saturating_sub-left-2.result ≡ then_left = search rules in
    on_ok_weaker {P = ShowsMore ShowsThatMore (take c.saturating_sub-left-2.result told) behind_fields new} c.push_more_if.result
    (λ so. before_others validation R most found (map input_field fields ++ map (λ _. more) told) old mid new
    (subst (λ l. ShowsMore ShowsEntry l old mid) first_are c.in_ok-push_rules.ensures)
    (before_others input_field R (most - length found) fields (map (λ _. more) told) mid behind_fields new
    (subst (λ l. ShowsMore ShowsRepetition l mid behind_fields) rest_are c.in_ok-push_repetitions.ensures)
    (alone (λ (u : Unit {0}). more) R then_left told behind_fields new (subst (λ n. ShowsMore ShowsThatMore (take n told) behind_fields new) left_is so))))
    c.push_more_if.ensures
