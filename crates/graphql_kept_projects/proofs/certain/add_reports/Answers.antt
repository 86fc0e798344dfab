use Rattle.std.proofs.Common.{◌≡◌, inl, inr, rules, subst}
use Rattle.std.specs.Prelude.{Contains}
use Rattle.graphql_kept_projects.specs.Left.{AreRules, AreSomeOf}
use Rattle.graphql_kept_projects.proofs.LeftLemmas.{InEither, on_ok}
use Rattle.graphql_project_checking.proofs.TruthLemmas.{adds_so, adds_then, all_added}
use Rattle.graphql_kept_reports.specs.Diagnostics.{entries}
use Rattle.graphql_kept_reports.specs.Reports.{KeepsReports}
use Rattle.graphql_kept_projects.proofs.certain.add_reports.Goals as goal

pub returns : goal.returns
returns c =
    let all = c.args.reports.now in
    let P = InEither (entries all.rules) all.undefined_variables.items in
    let first = entries c.with_hash_seed-certain.result in
    let mid = entries c.add_certain.new.certain in
    let list = c.add_certain-2.new.certain in
    let last = entries list in
    let rules_are : c.as_slice.result.now ≡ entries all.rules = search rules in
    let of_rules = subst (λ l. KeepsReports (Contains l) first mid) rules_are c.in_ok-add_certain.ensures in
    let of_variables = subst (λ l. KeepsReports (Contains l) mid last) c.deref.ensures.value c.in_ok-add_certain-2.ensures in
    let each = all_added P first last
    (adds_then P first mid last (adds_so (Contains (entries all.rules)) P first mid (λ e is. inl is) of_rules)
    (adds_so (Contains all.undefined_variables.items) P mid last (λ e is. inr is) of_variables)) c.with_hash_seed-certain.ensures.empty in
    on_ok c.push_rules.result _ _
    (adds_so (AreRules list) (AreSomeOf all) c.args.found.now.lists.items c.push_rules.new.found.lists.items
    (λ r are. record { rules = list; are = are; each = each })) c.push_rules.ensures
