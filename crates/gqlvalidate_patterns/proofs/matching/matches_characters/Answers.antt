-- The last place of the row tells.
use Rattle.std.proofs.Common.{◌≡◌, ◌∙◌, ◌<◌, ◌≤◌, arith, false, [], ap, get_or, length, set, sym, subst, true}
use Rattle.std.proofs.lemmas.List.{get_or_read}
use Rattle.gqlvalidate_patterns.specs.Patterns.{MatchInTurn, PartMatches}
use Rattle.gqlvalidate_patterns.specs.Rows.{IsRowBehind}
use Rattle.gqlvalidate_patterns.proofs.MatchingLemmas.{first_place, first_place_long, last_place}
use Rattle.gqlvalidate_patterns.proofs.RowLemmas.{all_in_turn, one_more_in_turn, row_of_nothing}
use Rattle.gqlvalidate_patterns.proofs.matching.matches_characters.Goals as goal

pub loop-part-init : goal.loop-part-init
loop-part-init c =
    let path = c.args.path.now in
    subst (λ row. IsRowBehind (MatchInTurn PartMatches []) path (first_place path) (set row 0 true)) (sym c.in_ok-row.ensures)
    (row_of_nothing PartMatches path (first_place path) (first_place_long path))

pub loop-part-preserved : goal.loop-part-preserved
loop-part-preserved c =
    one_more_in_turn PartMatches c.args.pattern.now.parts.items c.loop-part.part-index c.part-item.result c.args.path.now (first_place c.args.path.now)
    c.loop-part.row.items c.in_ok-row-2.row.items
    (subst (λ parts. c.loop-part.part-index < length parts) c.deref-part-items.ensures.value c.loop-part-test.true)
    (c.part-item.is ∙ ap (λ parts. get_or parts c.loop-part.part-index c.part-item.result) c.deref-part-items.ensures.value) c.loop-part.invariant
    (subst (λ row. IsRowBehind (PartMatches c.part-item.result) c.args.path.now row c.in_ok-row-2.row.items) c.deref.ensures.value c.in_ok-row-2.ensures)

pub index-requires : goal.index-requires
index-requires c = omega (arith, c.loop-part.invariant.long, c.loop-part.row.ok.0)

pub returns : goal.returns
returns c =
    let path = c.args.path.now in
    let parts = c.args.pattern.now.parts.items in
    let row = c.loop-part.row.items in
    let past : length parts ≤ c.loop-part.part-index = subst (λ l. length l ≤ c.loop-part.part-index) c.deref-part-items.ensures.value c.loop-part-test.false in
    let whole = all_in_turn PartMatches parts c.loop-part.part-index path (first_place path) row past c.loop-part.invariant in
    let read : c.index.result.now ≡ get_or row (length path) false = get_or_read row (length path) _ (omega (arith, c.loop-part.invariant.long)) c.index.ensures false in
    let is = last_place (MatchInTurn PartMatches parts) path row whole in
    (λ marked. is.0 (sym read ∙ marked), λ matches. read ∙ is.1 matches)
