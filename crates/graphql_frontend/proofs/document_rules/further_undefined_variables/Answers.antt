use Rattle.std.proofs.Common.{subst, sym}
use Rattle.graphql_diagnostics.specs.Diagnostics.{entries}
use Rattle.graphql_diagnostics.specs.declared.lists.DiagnosticEntry.{DiagnosticEntry}
use Rattle.graphql_usage_rules.specs.UndefinedVariables.{DocumentUndefinedReport, VariableUsesAreDefined}
use Rattle.graphql_frontend.specs.Documents.{IsReportedUndefined, Without}
use Rattle.graphql_frontend.specs.Places.{is_place_among}
use Rattle.graphql_frontend.proofs.BesideLemmas.{without_filtered}
use Rattle.graphql_frontend.proofs.FirstReportLemmas.{decided, undefined_excludes}
use Rattle.graphql_frontend.proofs.PlaceLemmas.{undefined_among}
use Rattle.graphql_frontend.proofs.document_rules.further_undefined_variables.Goals as goal

pub returns : goal.returns
returns c =
    let document = c.args.document.now in
    let rules = entries c.args.rules.now in
    let places = c.in_ok-reported.reported in
    let all = c.in_ok-variables.variables.items in
    record {
      all = all;
      all_are = decided c.check_undefined_variables-checked.result (VariableUsesAreDefined document) (DocumentUndefinedReport document) _ _ all c.check_undefined_variables-checked.ensures
          c.with_bound-list.ensures.empty c.in_ok-variables.ensures.kept c.in_ok-variables.ensures.some (undefined_excludes document);
      beside = subst (Without (λ (e : DiagnosticEntry). IsReportedUndefined rules e.location) all) (sym c.keep_at_other_places.ensures)
          (without_filtered (λ (e : DiagnosticEntry). IsReportedUndefined rules e.location) (λ (e : DiagnosticEntry). is_place_among e.location places)
          (λ e. undefined_among rules places c.in_ok-reported.ensures e.location) all);
    }
