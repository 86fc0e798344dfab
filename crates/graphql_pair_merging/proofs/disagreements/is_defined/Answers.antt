use Rattle.std.proofs.Common.{ap, sym, ◌∙◌}
use Rattle.std.specs.Prelude.{is_some}
use Rattle.graphql_documents.specs.Schemas.{type_definition}
use Rattle.graphql_documents.specs.TypeReferences.{inner_named_type}
use Rattle.graphql_pair_merging.proofs.DisagreementLemmas.{some_of}
use Rattle.graphql_pair_merging.proofs.disagreements.is_defined.Goals as goal

pub returns : goal.returns
returns c found =
    let schema = c.args.schema.now in
    some_of (type_definition schema (inner_named_type c.args.ty.now))
    (ap (λ name. is_some (type_definition schema name)) (sym c.inner_named_type.ensures) ∙ sym c.contains_key.ensures ∙ found)
