use Rattle.std.proofs.Common.{◌≡◌, rules, subst}
use Rattle.graphql_frontend.specs.Texts.{AreTextsOf}
use Rattle.graphql_frontend.proofs.VerdictLemmas.{texts_of_ok, valid_of_ok}
use Rattle.graphql_frontend.proofs.verdicts.validate_texts.Goals as goal

pub returns-clause-verdict : goal.returns-clause-verdict
returns-clause-verdict c =
    let same : c.schema_sources-sources.result ≡ c.as_slice.result.now = search rules in
    texts_of_ok c.args.bounds c.args.schema.now c.args.document.now c.as_slice.result.now c.document_source.result
    (subst (AreTextsOf c.args.schema.now) same c.schema_sources-sources.ensures) c.document_source.ensures c.validate.result c.validate.ensures

pub returns-clause-valid : goal.returns-clause-valid
returns-clause-valid c =
    let same : c.schema_sources-sources.result ≡ c.as_slice.result.now = search rules in
    valid_of_ok c.args.bounds c.args.schema.now c.args.document.now c.as_slice.result.now c.document_source.result
    (subst (AreTextsOf c.args.schema.now) same c.schema_sources-sources.ensures) c.document_source.ensures c.validate.result c.validate.ensures
