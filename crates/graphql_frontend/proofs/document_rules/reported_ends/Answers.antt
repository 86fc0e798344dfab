use Rattle.std.proofs.Common.{◌≡◌, ◌++◌, ◌∙◌, rules, subst, sym, take, take_all}
use Rattle.std.specs.Prelude.{filter_map, option_to_list}
use Rattle.graphql_diagnostics.specs.Diagnostics.{entries}
use Rattle.graphql_frontend.specs.Places.{HasThese, reported_end}
use Rattle.graphql_frontend.proofs.PlaceLemmas.{read_more}
use Rattle.graphql_frontend.proofs.document_rules.reported_ends.Goals as goal

pub loop-entry-preserved : goal.loop-entry-preserved
loop-entry-preserved c =
    let xs = c.as_slice-entry-items.result.now in
    let i = c.loop-entry.entry-index in
    let new = c.add_place.new.places in
    subst (λ l. HasThese l new) (sym (read_more reported_end xs i c.entry-item.result c.loop-entry-test.true c.entry-item.is))
    (subst (λ o. HasThese (filter_map reported_end (take i xs) ++ option_to_list o) new) c.reported_end.ensures
    (c.in_ok-add_place.ensures (filter_map reported_end (take i xs)) c.loop-entry.invariant))

pub returns : goal.returns
returns c =
    let xs = c.as_slice-entry-items.result.now in
    let all : xs ≡ entries c.args.rules.now = search rules in
    subst (λ l. HasThese (filter_map reported_end l) c.loop-entry.ends) (take_all c.loop-entry.entry-index xs c.loop-entry-test.false ∙ all) c.loop-entry.invariant
