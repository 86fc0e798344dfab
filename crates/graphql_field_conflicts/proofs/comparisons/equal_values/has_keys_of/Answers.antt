use Rattle.std.proofs.Common.{◌↔◌, All, rules}
use Rattle.std.specs.Prelude.{IsSome, IsTrue}
use Rattle.graphql_documents.specs.Values.{entry_named}
use Rattle.graphql_field_conflicts.proofs.ValueComparisonLemmas.{keys_found}
use Rattle.graphql_field_conflicts.proofs.comparisons.equal_values.has_keys_of.Goals as goal

pub returns : goal.returns
returns c =
    let all : IsTrue c.all.result ↔ All (λ e. IsSome (entry_named e.0 c.args.entries.now)) c.args.others.now = search rules in
    let keys = keys_found c.args.entries.now c.args.others.now in
    (λ e. keys.0 (all.0 e), λ h. all.1 (keys.1 h))
