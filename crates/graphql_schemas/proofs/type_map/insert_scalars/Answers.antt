use Rattle.std.proofs.Common.{subst, sym}
use Rattle.std.specs.List.{IsDistinct}
use Rattle.std.specs.Map.{keys_of}
use Rattle.std.specs.Prelude.{insert}
use Rattle.std.specs.Vec.Iter.{into_iter_items}
use Rattle.graphql_nodes.specs.Names.{same_name}
use Rattle.graphql_schemas.proofs.TypeMapLemmas.{apart_next}
use Rattle.graphql_schemas.proofs.type_map.insert_scalars.Goals as goal

pub put_at-requires-clause-distinct : goal.put_at-requires-clause-distinct
put_at-requires-clause-distinct c =
    let types = c.loop-name.types.entries in
    let apart =
    apart_next types (into_iter_items c.loop-name.name-iterator) (into_iter_items c.next.new.self) (c.in-Some.name, c.in-Some.definition) c.in-Some.ensures.steps.0 c.loop-name.invariant.distinct in
    subst (λ n. IsDistinct same_name (keys_of (insert types n (c.in-Some.name, c.in-Some.definition)))) (sym c.len.ensures.len) apart
