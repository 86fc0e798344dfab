use Rattle.std.proofs.Common.{◌≡◌, None, Some, refl, rules}
use Rattle.graphql_documents.specs.Schemas.{is_object_type, type_definition}
use Rattle.graphql_diagnostics.proofs.ReportLemmas.{checks-push, holds}
use Rattle.graphql_documents.specs.declared.documents.schemas.ExtendedType.TheVariants as types
use Rattle.graphql_schemas.specs.RootSteps.{of_undefined_root}
use Rattle.graphql_field_definitions.proofs.TypeNameLemmas.{of_no_type}
use Rattle.graphql_schemas.proofs.roots.validate_root_type.Goals as goal

pub returns-in-Some-Object : goal.returns-in-Some-Object
returns-in-Some-Object c =
    let object = types.Object c.in-Some-Object.field-0-0 in
    let defined : type_definition c.args.schema.now c.args.name.now ≡ Some object = search rules in
    holds _ _ _ (object, defined, refl)

pub returns-in-None : goal.returns-in-None
returns-in-None c =
    let schema = c.args.schema.now in
    let name = c.args.name.now in
    let undefined : type_definition schema name ≡ None = search rules in
    checks-push _ _ _ _ _ _ c.report_undefined_type.ensures.ok c.report_undefined_type.ensures.err (of_no_type schema is_object_type name undefined)
    (of_undefined_root undefined refl refl)
