use Rattle.std.proofs.Common.{◌≡◌, ◌∙◌, ◌∷◌, ◌++◌, [], Bor, List, ap, map, refl, subst, sym}
use Rattle.std.proofs.lemmas.List.{append-nil, map-append}
use Rattle.graphql_documents.proofs.ListLemmas.{done_next}
use Rattle.graphql_nodes.specs.Names.{NameText}
use Rattle.graphql_variables.specs.Uses.{names_of}
use Rattle.graphql_pools.specs.Uses.{NotesNames}
use Rattle.graphql_pools.proofs.UseLemmas.{notes_nothing, notes_then}
use Rattle.graphql_pools.proofs.uses.note_uses.Goals as goal

pub loop-name-init : goal.loop-name-init
loop-name-init c = ([], refl, notes_nothing c.args.pool.now (names_of c.args.used.now.keys))

pub loop-name-preserved : goal.loop-name-preserved
loop-name-preserved c =
    let before = c.loop-name.invariant in
    let x : Bor NameText = c.in-Some.name.now in
    let old = names_of c.args.used.now.keys in
    let new = names_of c.note_use.new.used.keys in (
      before.0 ++ x ∷ [],
      done_next _ before.0 c.loop-name.name-iterator c.next.new.self x before.1 c.in-Some.ensures.steps,
      subst (λ l. NotesNames c.args.pool.now l old new) (sym (map-append (λ (n : Bor NameText). n.now) before.0 (x ∷ [])))
          (notes_then c.args.pool.now (names_of before.0) (x.now ∷ []) old (names_of c.loop-name.used.keys) new before.2 c.in_ok-note_use.ensures),
    )

pub returns : goal.returns
returns c =
    let before = c.loop-name.invariant in
    let all = c.into_iter-name-iterator.ensures.into_iter_gives.0 in
    let done = sym all ∙ before.1 ∙ ap (λ l. before.0 ++ l) c.in-None.ensures.steps.0 ∙ append-nil before.0 in
    subst (λ l. NotesNames c.args.pool.now (names_of l) (names_of c.args.used.now.keys) (names_of c.loop-name.used.keys)) (sym done) before.2
