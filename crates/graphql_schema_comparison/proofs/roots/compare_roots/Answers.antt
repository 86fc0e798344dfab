use Rattle.graphql_nodes.specs.declared.operation_types.OperationType.{OperationType}
use Rattle.graphql_nodes.specs.declared.operation_types.OperationType.TheVariants as operation
use Rattle.graphql_schema_comparison.specs.Comparisons.{KeepsRoot}
use Rattle.graphql_change_kinds.proofs.FindsLemmas.{found_both, found_words}
use Rattle.graphql_schema_comparison.proofs.roots.compare_roots.Goals as goal

each_kind : (P : OperationType → Type 0) → P operation.Query → P operation.Mutation → P operation.Subscription → (kind : OperationType) → P kind
each_kind P query mutation subscription operation.Query = query
each_kind P query mutation subscription operation.Mutation = mutation
each_kind P query mutation subscription operation.Subscription = subscription

pub returns : goal.returns
returns c =
    found_words (λ merging h. each_kind (KeepsRoot c.args.pair.old.now c.args.pair.new.now) h.0.0 h.0.1 h.1)
    (found_both (found_both c.in_ok-compare_root.ensures c.in_ok-compare_root-2.ensures) c.in_ok-compare_root-3.ensures)
