use Rattle.std.proofs.Common.{◌≡◌, ◌∙◌, ◌+◌, ◌<◌, ◌∷◌, [], Bor, List, ap, length, map, refl, subst, sym}
use Rattle.std.proofs.lemmas.List.{map-append, nil_from_length}
use Rattle.graphql_nodes.specs.Names.{NameText}
use Rattle.graphql_documents.specs.Selections.{fragments_of}
use Rattle.graphql_reach.specs.Reached.{SpreadsInFragment, reached_names, unreached}
use Rattle.graphql_reach.specs.declared.reached.Reached.{Reached}
use Rattle.graphql_reach.proofs.SearchLemmas.{left, less_left, searches_begin, searches_end, searches_step}
use Rattle.graphql_reach.proofs.reached.reached_fragments.Goals as goal

abbrev text : Bor NameText → NameText
text reference = reference.now

pub loop-name-init : goal.loop-name-init
loop-name-init c =
    let empty : Reached = record { names = c.with_hasher.result; pending = c.new.result } in
    searches_begin c.args.document.now c.args.set.now empty c.add_in_set.new.self (ap (map text) c.with_hasher.ensures.empty) (ap (map text) c.new.ensures.items)
    c.in_ok-add_in_set.ensures

pub loop-name-smaller : goal.loop-name-smaller
loop-name-smaller c =
    let d = c.args.document.now in
    let before = c.loop-name.reached in
    let popped : Reached = record { names = before.names; pending = c.pop.new.self } in
    subst (λ (l : List (Bor NameText)). left d c.add_in_fragment.new.self < unreached (reached_names before) d.fragments.entries + length l)
    (sym c.in-Some.ensures.items)
    (less_left d (SpreadsInFragment (fragments_of d) c.in-Some.name.now) popped c.add_in_fragment.new.self c.in-Some.name c.in_ok-add_in_fragment.ensures)

pub loop-name-preserved : goal.loop-name-preserved
loop-name-preserved c =
    let before = c.loop-name.reached in
    let popped : Reached = record { names = before.names; pending = c.pop.new.self } in
    searches_step c.args.document.now c.args.set.now before popped c.add_in_fragment.new.self c.in-Some.name.now refl
    (ap (map text) c.in-Some.ensures.items ∙ map-append text c.pop.new.self.items (c.in-Some.name ∷ [])) c.in_ok-add_in_fragment.ensures c.loop-name.invariant

pub returns : goal.returns
returns c =
    let before = c.loop-name.reached in
    let none : before.pending.items ≡ [] = nil_from_length before.pending.items (sym before.pending.ok.0 ∙ c.in_default.ensures.cases.0) in
    searches_end c.args.document.now c.args.set.now before (ap (map text) none) c.loop-name.invariant
