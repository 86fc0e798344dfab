use Rattle.std.proofs.Common.{◌≡◌, ◌++◌, map}
use Rattle.graphql_document_rules.proofs.subscriptions.names_of.Given as goal

abbrev pub invariant-loop-key : goal.invariant-loop-key
invariant-loop-key l = l.names.items ++ map (λ key. key.now) l.key-iterator ≡ map (λ key. key.now) l.initial.key-iterator
