use Rattle.std.proofs.Common.{sym, ap, ◌∙◌, true≢false, is_some}
use Rattle.graphql_schemas.proofs.TypeMapLemmas.{absent_at, inserted_at}
use Rattle.graphql_schemas.proofs.type_map.put_at.Goals as goal

pub shift_insert-requires-clause-below_len : goal.shift_insert-requires-clause-below_len
shift_insert-requires-clause-below_len c =
    λ there. absurd (true≢false (sym there ∙ ap is_some (absent_at c.args.types.now.entries c.args.index (c.args.name, c.args.definition) c.requires.distinct)))

pub returns : goal.returns
returns c = record {
  entries = (rw c.unwrap.ensures at c.shift_insert.ensures.entries) ∙ inserted_at c.args.types.now.entries c.args.index (c.args.name, c.args.definition) c.requires.distinct;
  room = c.shift_insert.ensures.spare;
}
