use Rattle.graphql_change_kinds.proofs.FindsLemmas.{found_both, found_words}
use Rattle.graphql_schema_comparison.proofs.types.compare_composites.Goals as goal

pub returns : goal.returns
returns c =
    found_words (λ merging h. record { fields = h.0.0.0; interfaces = h.0.0.1; members = h.0.1; subscription_root = h.1 })
    (found_both (found_both (found_both c.in_ok-compare_fields.ensures c.in_ok-compare_interfaces.ensures) c.in_ok-compare_members.ensures)
    c.in_ok-compare_subscription_root.ensures)
