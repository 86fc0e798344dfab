use Rattle.std.proofs.Common.{◌++◌, subst, sym, take}
use Rattle.std.specs.Prelude.{filter_map, option_to_list}
use Rattle.graphql_frontend.specs.Places.{HasThese, undefined_place}
use Rattle.graphql_frontend.proofs.PlaceLemmas.{read_more}
use Rattle.graphql_frontend.proofs.document_rules.undefined_places.Goals as goal

pub loop-entry-preserved : goal.loop-entry-preserved
loop-entry-preserved c =
    let xs = c.as_slice-entry-items.result.now in
    let i = c.loop-entry.entry-index in
    let new = c.add_place.new.places in
    subst (λ l. HasThese l new) (sym (read_more undefined_place xs i c.entry-item.result c.loop-entry-test.true c.entry-item.is))
    (subst (λ o. HasThese (filter_map undefined_place (take i xs) ++ option_to_list o) new) c.undefined_place.ensures
    (c.in_ok-add_place.ensures (filter_map undefined_place (take i xs)) c.loop-entry.invariant))
