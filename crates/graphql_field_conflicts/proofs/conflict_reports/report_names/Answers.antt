use Rattle.std.proofs.Common.{◌∙◌, ap, refl}
use Rattle.graphql_specification.specs.Merging.{field_pass}
use Rattle.graphql_documents.specs.Selections.{response_key}
use Rattle.graphql_field_conflicts.proofs.ConflictReportLemmas.{conflict_pushed, copied_name}
use Rattle.graphql_field_conflicts.specs.FieldSelections.{selection_of}
use Rattle.graphql_field_conflicts.proofs.conflict_reports.report_names.Goals as goal

pub returns : goal.returns
returns c = λ schema differ.
    conflict_pushed _ schema field_pass (selection_of c.args.first) (selection_of c.args.field) _ _ _ c.push.ensures.ok c.push.ensures.err (record {
      differ = differ;
      alias_is = copied_name _ _ (c.in_ok-alias.ensures.cases ∙ c.response_key.ensures ∙ ap response_key c.deref.ensures);
      original_location_is = refl;
      original_is = c.in_ok-original_selection.ensures;
      conflicting_location_is = refl;
      conflicting_is = c.in_ok-conflicting_selection.ensures;
      at_is = refl;
    })
