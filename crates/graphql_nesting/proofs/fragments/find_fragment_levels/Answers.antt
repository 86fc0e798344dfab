use Rattle.std.proofs.Common.{◌≡◌, [], sym, ◌∙◌}
use Rattle.std.proofs.lemmas.List.{nil_from_length}
use Rattle.graphql_nesting.proofs.SearchLemmas.{searches_begin, searches_end}
use Rattle.graphql_nesting.proofs.fragments.find_fragment_levels.Goals as goal

pub loop-waiting-init : goal.loop-waiting-init
loop-waiting-init c =
    let found = c.in_ok-found.found in
    let e = c.in_ok-found.ensures in
    searches_begin c.args.document.now found.fragments.items e.listed found.known.items c.in_ok-ready.ready.items e.count e.awaited c.in_ok-ready.ensures

pub returns : goal.returns
returns c =
    let ready = c.loop-waiting.ready in
    let none : ready.items ≡ [] = nil_from_length ready.items (sym ready.ok.0 ∙ c.in_default.ensures.cases.0) in
    searches_end c.args.document.now c.loop-waiting.found ready.items none c.loop-waiting.invariant
