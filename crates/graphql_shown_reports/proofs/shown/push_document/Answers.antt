use Rattle.std.proofs.Common.{◌≡◌, ◌-◌, ◌++◌, length, map, rules, subst, take}
use Rattle.std.proofs.lemmas.Result.{on_ok_weaker}
use Rattle.graphql_diagnostics.specs.Diagnostics.{entries}
use Rattle.graphql_shown_reports.specs.Shown.{Shows, ShowsEntry, ShowsMisuse, ShowsMore, ShowsRepetition, ShowsThatMore, input_field, more, once_if, usage, validation}
use Rattle.graphql_shown_reports.proofs.ShownLemmas.{alone, before_others}
use Rattle.graphql_shown_reports.proofs.shown.push_document.Goals as goal

pub returns : goal.returns
returns c = λ sources bounds.
    let R = Shows sources bounds in
    let most = c.args.most in
    let found = entries c.args.reports.now.rules in
    let undefined = c.args.reports.now.undefined_variables.items in
    let fields = c.args.reports.now.input_fields.items in
    let usages = c.args.reports.now.usages.items in
    let old = c.args.shown.now.items in
    let behind_rules = c.push_rules.new.shown.items in
    let behind_undefined = c.push_rules-2.new.shown.items in
    let behind_fields = c.push_repetitions.new.shown.items in
    let behind_usages = c.push_misuses.new.shown.items in
    let new = c.push_more_if.new.shown.items in
    let told = once_if c.args.reports.now.has_more in
    let left = most - length found in
    let then_left = left - length undefined in
    let first_are : c.first.result.now ≡ take most found = cc in
    let undefined_are : c.first-2.result.now ≡ take left undefined = search rules in
    let fields_are : c.first-3.result.now ≡ take then_left fields = search rules in
    let usages_are : c.first-4.result.now ≡ take (then_left - length fields) usages = search rules in
    let last_left = then_left - length fields - length usages in
    let left_is : c.saturating_sub-left-4.result ≡ last_left = search rules in
    on_ok_weaker {P = ShowsMore ShowsThatMore (take c.saturating_sub-left-4.result told) behind_usages new} c.push_more_if.result
    (λ so. before_others validation R most found (map validation undefined ++ (map input_field fields ++ (map usage usages ++ map (λ _. more) told))) old behind_rules new
    (subst (λ l. ShowsMore ShowsEntry l old behind_rules) first_are c.in_ok-push_rules.ensures)
    (before_others validation R left undefined (map input_field fields ++ (map usage usages ++ map (λ _. more) told)) behind_rules behind_undefined new
    (subst (λ l. ShowsMore ShowsEntry l behind_rules behind_undefined) undefined_are c.in_ok-push_rules-2.ensures)
    (before_others input_field R then_left fields (map usage usages ++ map (λ _. more) told) behind_undefined behind_fields new
    (subst (λ l. ShowsMore ShowsRepetition l behind_undefined behind_fields) fields_are c.in_ok-push_repetitions.ensures)
    (before_others usage R (then_left - length fields) usages (map (λ _. more) told) behind_fields behind_usages new
    (subst (λ l. ShowsMore ShowsMisuse l behind_fields behind_usages) usages_are c.in_ok-push_misuses.ensures)
    (alone (λ (u : Unit {0}). more) R last_left told behind_usages new (subst (λ n. ShowsMore ShowsThatMore (take n told) behind_usages new) left_is so))))))
    c.push_more_if.ensures
