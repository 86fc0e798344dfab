use Rattle.std.proofs.Common.{◌∙◌}
use Rattle.std.proofs.lemmas.Result.{MatchResult-weaker}
use Rattle.graphql_document_rules.proofs.KeyLemmas.{keys_found}
use Rattle.graphql_document_rules.proofs.subscriptions.collected_keys.Goals as goal

pub returns : goal.returns
returns c =
    let found = c.in_ok-found.ensures in
    MatchResult-weaker c.names_of.result c.names_of.ensures
    (λ names are. (found.0, found.1, are ∙ keys_found c.in_ok-found.found.entries found.0 found.2))
    (λ e none. none)
