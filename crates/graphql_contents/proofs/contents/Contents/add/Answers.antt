use Rattle.std.proofs.Math.Logic.{∥∥₁_elim}
use Rattle.std.proofs.Props.{props}
use Rattle.graphql_contents.proofs.TableLemmas.{grows_after, number_inserted, table_after}
use Rattle.graphql_contents.proofs.contents.Contents.add.Goals as goal

pub invariant_of-self : goal.invariant_of-self
invariant_of-self c = record {
  table = table_after c.insert_full.result c.args.self.now.contents.keys c.insert_full.new.self.keys c.args.content c.insert_full.ensures.keys c.insert_full.ensures.err
      c.args.self.now.table c.requires;
}

pub returns-clause-grows : goal.returns-clause-grows
returns-clause-grows c =
    grows_after c.insert_full.result c.args.self.now.contents.keys c.insert_full.new.self.keys c.args.content c.insert_full.ensures.keys c.insert_full.ensures.err

pub returns-clause-number : goal.returns-clause-number
returns-clause-number c =
    let old = c.args.self.now.contents.keys in
    let new = c.insert_full.new.self.keys in
    let stored = c.in_ok-number.ensures.stored in
    ∥∥₁_elim c.args.self.now.table (Prim.hlevel props)
    (λ table. number_inserted old new c.args.content stored.0 c.in_ok-number.number table c.requires c.in_ok-number.ensures.keys stored.1 stored.2)
