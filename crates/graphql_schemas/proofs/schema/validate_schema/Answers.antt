use Rattle.std.proofs.Common.{refl, ◌∙◌}
use Rattle.indexmap.specs.IndexMap.{spare}
use Rattle.graphql_diagnostics.specs.Diagnostics.{IsLimitEntry}
use Rattle.graphql_specification.specs.BuiltInScalars.{SchemaRetainsUsedBuiltInScalars}
use Rattle.graphql_documents.specs.declared.documents.schemas.Schema.{Schema}
use Rattle.graphql_diagnostics.proofs.ReportLemmas.{kept_then, kept_wider, wider}
use Rattle.graphql_diagnostics.proofs.ReportWithinLemmas.{both_within, kept_within, within}
use Rattle.graphql_schemas.proofs.SchemaLemmas.{defaults_break, refused_err, refused_ok, retained_schema}
use Rattle.graphql_schemas.proofs.schema.validate_schema.Goals as goal

pub returns-in_err-validate_definitions : goal.returns-in_err-validate_definitions
returns-in_err-validate_definitions c = record {
  holds = refused_ok c.from_residual.result _ c.from_residual.ensures.0;
  truth = c.in_err-validate_definitions.ensures.checks;
  retained = refused_ok c.from_residual.result _ c.from_residual.ensures.0;
  refused = refused_err c.from_residual.result _ (record { types = refl; definition = refl; directives = refl; meta_fields = refl });
}

pub returns-in_err-changes : goal.returns-in_err-changes
returns-in_err-changes c = record {
  holds = refused_ok c.from_residual-in_err-changes.result _ c.from_residual-in_err-changes.ensures.0;
  truth = kept_within IsLimitEntry c.in_ok-validate_definitions.ensures.checks;
  retained = refused_ok c.from_residual-in_err-changes.result _ c.from_residual-in_err-changes.ensures.0;
  refused = refused_err c.from_residual-in_err-changes.result _ (record { types = c.in_err-changes.ensures.err; definition = refl; directives = refl; meta_fields = refl });
}

pub undo-requires : goal.undo-requires
undo-requires c = (c.args.schema.now.types.entries, c.in_ok-changes.ensures.retained.undoes)

pub returns-in-Err : goal.returns-in-Err
returns-in-Err c =
    let S = c.args.schema.now in
    let retained : Schema = record { schema_definition = S.schema_definition; directive_definitions = S.directive_definitions; types = c.retain_used_built_in_scalars.new.types; meta_fields = S.meta_fields } in
    let types =
    retained_schema c.new-built_in_scalars.result c.validate_definitions.new.built_in_scalars S retained c.in_ok-changes.changes (spare c.retain_used_built_in_scalars.new.types) c.new-built_in_scalars.ensures
    c.in_ok-validate_definitions.ensures.records c.in_ok-changes.ensures.retained in
    let is : SchemaRetainsUsedBuiltInScalars S retained = record { types = types; definition = refl; directives = refl; meta_fields = refl } in
    record {
      holds = tt;
      truth = kept_then (kept_within IsLimitEntry c.in_ok-validate_definitions.ensures.checks) (kept_wider (defaults_break S retained is) c.in-Err.ensures);
      retained = tt;
      refused = record { types = c.undo.ensures ∙ c.in_ok-changes.ensures.retained.undoes.back; definition = refl; directives = refl; meta_fields = refl };
    }

pub returns : goal.returns
returns c =
    let S = c.args.schema.now in
    let retained : Schema = record { schema_definition = S.schema_definition; directive_definitions = S.directive_definitions; types = c.retain_used_built_in_scalars.new.types; meta_fields = S.meta_fields } in
    let types =
    retained_schema c.new-built_in_scalars.result c.validate_definitions.new.built_in_scalars S retained c.in_ok-changes.changes (spare c.retain_used_built_in_scalars.new.types) c.new-built_in_scalars.ensures
    c.in_ok-validate_definitions.ensures.records c.in_ok-changes.ensures.retained in
    let is : SchemaRetainsUsedBuiltInScalars S retained = record { types = types; definition = refl; directives = refl; meta_fields = refl } in
    let whole = both_within IsLimitEntry c.in_ok-validate_definitions.ensures.checks (within IsLimitEntry (wider (defaults_break S retained is) c.in_default.ensures)) in
    record { holds = whole; truth = kept_within IsLimitEntry whole; retained = is; refused = tt }
