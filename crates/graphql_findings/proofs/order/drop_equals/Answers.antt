use Rattle.std.proofs.Common.{rules}
use Rattle.std.proofs.lemmas.Fn.{dedup_same}
use Rattle.graphql_findings.specs.Order.{is_same_found}
use Rattle.graphql_findings.proofs.order.drop_equals.Goals as goal

pub returns : goal.returns
returns c = dedup_same _ is_same_found _ (λ x y b f' x' y' k. search rules) _ _ c.dedup_by.ensures.filtered
