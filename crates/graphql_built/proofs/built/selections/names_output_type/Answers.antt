use Rattle.std.proofs.Common.{sym}
use Rattle.graphql_built.proofs.BuiltLemmas.{names_found}
use Rattle.graphql_documents.specs.Schemas.{is_output_type}
use Rattle.graphql_built.proofs.built.selections.names_output_type.Goals as goal

pub returns-in-Some : goal.returns-in-Some
returns-in-Some c =
    names_found c.args.schema.now c.args.type_name.now is_output_type c.in-Some.definition.now _ (sym c.in-Some.ensures.value) c.is_output_type.ensures
