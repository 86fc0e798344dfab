use Rattle.std.proofs.Common.{rules, ◌∷◌, [], ap, subst, sym, take_all}
use Rattle.graphql_pools.specs.Pools.{Gathers, HasFirst, entries_among}
use Rattle.graphql_pools.proofs.FirstLemmas.{first_of_file, first_of_nothing}
use Rattle.graphql_pools.proofs.PoolLemmas.{gathers_file, gathers_nothing}
use Rattle.graphql_pools.proofs.fragments.add_fragments_of_files.Goals as goal

pub loop-file-init : goal.loop-file-init
loop-file-init c = (gathers_nothing c.args.fragments.now.entries, first_of_nothing c.args.fragments.now.entries)

pub loop-file-preserved : goal.loop-file-preserved
loop-file-preserved c = (
  gathers_file c.args.files.now c.loop-file.file-index c.file-item.result c.args.fragments.now.entries c.loop-file.fragments.entries c.add_fragments.new.fragments.entries
      c.loop-file-test.true c.file-item.is c.loop-file.invariant.0 c.in_ok-add_fragments.ensures.gathers,
  first_of_file c.args.files.now c.loop-file.file-index c.file-item.result c.args.fragments.now.entries c.loop-file.fragments.entries c.add_fragments.new.fragments.entries
      c.loop-file-test.true c.file-item.is c.loop-file.invariant.1 c.in_ok-add_fragments.ensures.first,
)

pub returns : goal.returns
returns c =
    let done = take_all c.loop-file.file-index c.args.files.now c.loop-file-test.false in
    let old = c.args.fragments.now.entries in
    let new = c.loop-file.fragments.entries in
    record {
      gathers = subst (λ l. Gathers (entries_among l) old new) done c.loop-file.invariant.0;
      first = subst (λ l. HasFirst (entries_among l) old new) done c.loop-file.invariant.1;
    }
