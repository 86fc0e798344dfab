use Rattle.std.proofs.Common.{[], subst}
use Rattle.graphql_pools.specs.Pools.{Gathers, HasFirst, entries_among}
use Rattle.graphql_pools.proofs.FirstLemmas.{first_then}
use Rattle.graphql_pools.proofs.PoolLemmas.{gathers_then}
use Rattle.graphql_pools.proofs.fragments.pool_of.Goals as goal

pub returns : goal.returns
returns c =
    let own = entries_among c.args.own.now in
    let lent = entries_among c.args.lent.now in
    let mid = c.add_fragments_of_files.new.fragments.entries in
    let new = c.add_fragments_of_files-2.new.fragments.entries in
    record {
      gathers = gathers_then own lent [] mid new (subst (λ l. Gathers own l mid) c.with_hasher-fragments.ensures.empty c.in_ok-add_fragments_of_files.ensures.gathers)
          c.in_ok-add_fragments_of_files-2.ensures.gathers;
      first = first_then own lent [] mid new (subst (λ l. HasFirst own l mid) c.with_hasher-fragments.ensures.empty c.in_ok-add_fragments_of_files.ensures.first)
          c.in_ok-add_fragments_of_files-2.ensures.first;
    }
