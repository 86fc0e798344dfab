use Rattle.std.proofs.Common.{Some, subst, sym}
use Rattle.graphql_diagnostics.specs.Diagnostics.{entries}
use Rattle.graphql_usage_rules.specs.declared.reports.VariableMisuse.{VariableMisuse}
use Rattle.graphql_frontend.specs.Documents.{EndsWithOne, IsMisuseReport, UsagesAreAllowed, Without}
use Rattle.graphql_frontend.specs.Places.{end_of, is_place_among}
use Rattle.graphql_frontend.proofs.BesideLemmas.{without_filtered}
use Rattle.graphql_frontend.proofs.FirstReportLemmas.{decided, misuse_excludes}
use Rattle.graphql_frontend.proofs.PlaceLemmas.{ends_among}
use Rattle.graphql_frontend.proofs.document_rules.misuses_beside.Goals as goal

pub returns : goal.returns
returns c =
    let schema = Some c.args.schema.now in
    let document = c.args.document.now in
    let rules = entries c.args.rules.now in
    let ends = c.in_ok-ends.ends in
    let all = c.in_ok-usages.usages.items in
    record {
      all = all;
      all_are = decided c.check_variable_usages-checked.result (UsagesAreAllowed schema document) (IsMisuseReport schema document) _ _ all c.check_variable_usages-checked.ensures
          c.with_bound-list.ensures.empty c.in_ok-usages.ensures.kept c.in_ok-usages.ensures.some (misuse_excludes schema document);
      beside = subst (Without (λ (u : VariableMisuse). EndsWithOne rules u.location) all) (sym c.keep_ending_elsewhere.ensures)
          (without_filtered (λ (u : VariableMisuse). EndsWithOne rules u.location) (λ (u : VariableMisuse). is_place_among (end_of u.location) ends)
          (λ u. ends_among rules ends c.in_ok-ends.ensures u.location) all);
    }
