use Rattle.std.proofs.Common.{◌∙◌, ap, refl}
use Rattle.std.specs.Option.{option_copied}
use Rattle.graphql_specification.specs.Merging.{field_pass}
use Rattle.graphql_field_conflicts.proofs.ConflictReportLemmas.{conflict_pushed, copied_name, value_given}
use Rattle.graphql_field_conflicts.specs.FieldSelections.{selection_of}
use Rattle.graphql_documents.specs.declared.documents.executables.Field.{Field}
use Rattle.graphql_field_conflicts.proofs.conflict_reports.report_argument.Goals as goal

pub returns : goal.returns
returns c = λ schema same differ original conflicting.
    conflict_pushed _ schema field_pass (selection_of c.args.first) (selection_of c.args.field) _ _ _ c.push.ensures.ok c.push.ensures.err (record {
      argument = c.args.name.now;
      same_field = same;
      differ = differ;
      alias_is = copied_name _ _ (c.in_ok-alias.ensures.cases ∙ ap (λ (f : Field). f.name) c.deref.ensures);
      original_location_is = refl;
      original_is = c.in_ok-original_coordinate.ensures;
      original_value_is = value_given c.args.name.now c.args.first.field.now.value.value (option_copied c.args.original) c.in_ok-original_value.original_value original c.in_ok-original_value.ensures;
      conflicting_location_is = refl;
      conflicting_is = c.in_ok-conflicting_coordinate.ensures;
      conflicting_value_is = value_given c.args.name.now c.args.field.field.now.value.value (option_copied c.args.conflicting) c.in_ok-conflicting_value.conflicting_value conflicting c.in_ok-conflicting_value.ensures;
      at_is = refl;
    })
