use Rattle.std.proofs.Common.{◌≡◌, ◌∷◌, ◌++◌, [], List, ℕ, Bor, map, ap, ◌∙◌}
use Rattle.std.proofs.lemmas.List.{map-append}
use Rattle.graphql_strings.proofs.LineLemmas.{lines_none, line_shrinks, one_line_more}
use Rattle.graphql_strings.proofs.lines.split_lines.Goals as goal

pushed : (old new : List (Bor (List ℕ))) (line : Bor (List ℕ)) → new ≡ old ++ line ∷ [] →
    map (λ line. line.now) new ≡ map (λ line. line.now) old ++ line.now ∷ []
pushed old new line e = ap (map (λ (line : Bor (List ℕ)). line.now)) e ∙ map-append (λ (line : Bor (List ℕ)). line.now) old (line ∷ [])

pub loop-line-smaller : goal.loop-line-smaller
loop-line-smaller c = line_shrinks c.loop-line.rest.now (c.in-Some.line.now, c.in-Some.behind.now) c.in-Some.ensures

pub loop-line-preserved : goal.loop-line-preserved
loop-line-preserved c =
    one_line_more _ _ c.loop-line.rest.now c.in-Some.line.now c.in-Some.behind.now _ c.in-Some.ensures
    (pushed c.loop-line.lines.items c.push.new.self.items c.in-Some.line c.in_ok-push.ensures.items) c.loop-line.invariant

pub returns : goal.returns
returns c =
    pushed c.loop-line.lines.items c.push-2.new.self.items c.loop-line.rest c.in_ok-push-2.ensures.items
    ∙ (rw (lines_none c.loop-line.rest.now c.in_default.ensures) at c.loop-line.invariant)
