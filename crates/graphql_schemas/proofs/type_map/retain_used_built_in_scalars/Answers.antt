use Rattle.std.proofs.Common.{◌≡◌, ◌++◌, length, arith, ap, subst, sym, ◌∙◌}
use Rattle.std.specs.List.{IsDistinct}
use Rattle.std.specs.Map.{keys_of}
use Rattle.std.specs.Prelude.{count_by, filter, not}
use Rattle.graphql_nodes.specs.Names.{same_name}
use Rattle.graphql_schemas.proofs.TypeMapLemmas.{all_added, retained_apart, retains}
use Rattle.graphql_field_definitions.specs.BuiltInScalarUses.{holds_text}
use Rattle.graphql_schemas.specs.TypeMapChanges.{is_unused}
use Rattle.graphql_schemas.specs.declared.type_map.TypeMapChanges.{TypeMapChanges}
use Rattle.graphql_schemas.proofs.type_map.retain_used_built_in_scalars.Goals as goal

pub remove_unused-requires : goal.remove_unused-requires
remove_unused-requires c =
    let p = is_unused (holds_text c.args.built_in_scalars.now) in
    let counted : c.count_unused-unused.result ≡ count_by p c.reserve.new.self.entries =
    c.count_unused-unused.ensures.counted ∙ ap (count_by p) (sym c.in_ok-reserve.ensures.entries) in
    record { none_yet = c.in_ok-removed.ensures.items; capacity = omega (arith, counted, c.in_ok-removed.ensures.capacity) }

pub insert_scalars-requires : goal.insert_scalars-requires
insert_scalars-requires c =
    let used = holds_text c.args.built_in_scalars.now in
    let types = c.args.types.now.entries in
    let missing = c.in_ok-missing.missing.items in
    let kept : c.remove_unused.new.types.entries ≡ filter (λ e. not (is_unused used e)) types =
    c.remove_unused.ensures.kept ∙ ap (filter (λ e. not (is_unused used e))) c.in_ok-reserve.ensures.entries in
    let apart = subst (λ l. IsDistinct same_name (keys_of l)) c.in_ok-reserve.ensures.entries c.reserve.ensures.unique in
    record {
      distinct = subst (λ l. IsDistinct same_name (keys_of (l ++ missing))) (sym kept) (retained_apart used types missing apart (all_added c.in_ok-missing.ensures));
      room = omega (arith, c.len.ensures, c.in_ok-reserve.ensures.ok, c.remove_unused.ensures.room);
    }

pub returns : goal.returns
returns c =
    let used = holds_text c.args.built_in_scalars.now in
    let types = c.args.types.now.entries in
    let changes : TypeMapChanges = record { removed = c.remove_unused.new.removed; kept = c.len-kept.result } in
    let kept : c.remove_unused.new.types.entries ≡ filter (λ e. not (is_unused used e)) types =
    c.remove_unused.ensures.kept ∙ ap (filter (λ e. not (is_unused used e))) c.in_ok-reserve.ensures.entries in
    let apart = subst (λ l. IsDistinct same_name (keys_of l)) c.in_ok-reserve.ensures.entries c.reserve.ensures.unique in
    let counted : length c.remove_unused.new.removed.items ≡ c.count_unused-unused.result =
    c.remove_unused.ensures.counted ∙ ap (count_by (is_unused used)) c.in_ok-reserve.ensures.entries ∙ sym c.count_unused-unused.ensures.counted in
    record {
      retained =
          retains used changes types c.remove_unused.new.types.entries c.in_ok-missing.missing.items c.insert_scalars.new.types.entries _ c.in_ok-missing.ensures
          c.insert_scalars.ensures.entries kept c.len-kept.ensures.len (c.remove_unused.ensures.back ∙ c.in_ok-reserve.ensures.entries) c.remove_unused.ensures.fit apart
          (omega (arith, counted, c.len.ensures, c.in_ok-reserve.ensures.ok, c.remove_unused.ensures.room, c.insert_scalars.ensures.room));
      err = tt;
    }
