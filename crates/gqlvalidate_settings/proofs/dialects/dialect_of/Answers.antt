use Rattle.gqlvalidate_settings.specs.Dialects.{NamesDialect}
use Rattle.gqlvalidate_settings.specs.Refusals.{RulesOut}
use Rattle.gqlvalidate_settings.proofs.ListLemmas.{handed_on}
use Rattle.gqlvalidate_settings.proofs.dialects.dialect_of.Goals as goal

pub returns-in_err-client-clause-refused : goal.returns-in_err-client-clause-refused
returns-in_err-client-clause-refused c =
    handed_on c.from_residual.result _ (RulesOut (NamesDialect c.args.own.now)) c.from_residual.ensures.1
    (λ not_memory dialect is. c.in_err-client.ensures.refused not_memory dialect.client is.client_is)

pub returns-in_err-federation-clause-refused : goal.returns-in_err-federation-clause-refused
returns-in_err-federation-clause-refused c =
    handed_on c.from_residual-in_err-federation.result _ (RulesOut (NamesDialect c.args.own.now)) c.from_residual-in_err-federation.ensures.1
    (λ not_memory dialect is. c.in_err-federation.ensures.refused not_memory dialect.federation is.federation_is)
