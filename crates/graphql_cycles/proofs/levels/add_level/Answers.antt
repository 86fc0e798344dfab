use Rattle.std.proofs.Common.{◌≡◌, ◌+◌, ◌++◌, ◌∷◌, [], Bor, map, sym, ap, subst, take, ◌∙◌}
use Rattle.std.proofs.lemmas.List.{map-append}
use Rattle.graphql_documents.proofs.ListLemmas.{more_is}
use Rattle.graphql_nodes.specs.Names.{NameText}
use Rattle.graphql_cycles.specs.Levels.{AddsLevel}
use Rattle.graphql_cycles.proofs.LevelLemmas.{one_added}
use Rattle.graphql_cycles.proofs.levels.add_level.Goals as goal

pub loop-name-preserved : goal.loop-name-preserved
loop-name-preserved c =
    let xs = c.args.names.now in
    let i = c.loop-name.name-index in
    let x = c.name-item.result in
    let now = λ (b : Bor NameText). b.now in
    let more : map now (take (i + 1) xs) ≡ map now (take i xs) ++ x.now ∷ [] =
    ap (map now) (more_is xs i x c.loop-name-test.true c.name-item.is) ∙ map-append now (take i xs) (x ∷ []) in
    subst (λ l. AddsLevel c.args.levels.now c.add_if_new.new.places l c.args.level) (sym more)
    (one_added (map now (take i xs)) c.args.level x.now c.loop-name.invariant c.in_ok-add_if_new.ensures)
