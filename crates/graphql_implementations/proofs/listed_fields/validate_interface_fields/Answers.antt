use Rattle.graphql_diagnostics.proofs.ReportLemmas.{checks_words}
use Rattle.graphql_implementations.proofs.ImplementationLemmas.{has_fields_decides}
use Rattle.graphql_implementations.proofs.listed_fields.validate_interface_fields.Goals as goal

pub returns : goal.returns
returns c =
    checks_words c.check_listed.result _ _ _ _ _ _ (has_fields_decides c.args.schema.now c.args.interfaces.now.keys c.args.fields.now.entries)
    (λ e said. said) c.check_listed.ensures
