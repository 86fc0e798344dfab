use Rattle.std.proofs.Common.{subst}
use Rattle.graphql_diagnostics.specs.Diagnostics.{IsLimitEntry, entries}
use Rattle.graphql_diagnostics.specs.Reports.{ReportsWithin}
use Rattle.graphql_schemas.specs.SchemaChecks.{SchemaEntryReport}
use Rattle.graphql_document_rules.specs.DefaultValues.{DefaultValuesHold}
use Rattle.graphql_document_rules.specs.Schemas.{SchemaHolds}
use Rattle.graphql_frontend.proofs.ReportLemmas.{kept}
use Rattle.graphql_frontend.proofs.schema_rules.schema_reports.Goals as goal

pub returns-in-Ok : goal.returns-in-Ok
returns-in-Ok c =
    let schema = c.args.schema.now in
    let retained = c.validate_schema.new.schema in (
      c.in-Ok.ensures.retained,
      record {
        rules = subst (λ old. ReportsWithin IsLimitEntry (SchemaHolds schema × DefaultValuesHold retained) (SchemaEntryReport schema) old
            (entries c.validate_schema.new.diagnostics)) c.with_bound-rules.ensures.empty c.in-Ok.ensures.holds;
        input_fields = c.in_ok-input_fields.ensures;
      },
    )

pub returns-then-is_full_of_rules : goal.returns-then-is_full_of_rules
returns-then-is_full_of_rules c =
    let full = c.is_full_of_rules.ensures c.if-is_full_of_rules.true in
    record { some = full.0; few = full.1; each = kept _ _ _ c.in-Err.ensures.truth c.with_bound-rules.ensures.empty }
