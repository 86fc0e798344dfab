use Rattle.std.proofs.Common.{◌≡◌, ◌<◌, ◌≤◌, ◌∷◌, [], List, ℕ, Bor, length, map, drop, unwrap_or, refl, ap, ◌∙◌, arith}
use Rattle.std.proofs.lemmas.List.{length-map, length-set}
use Rattle.graphql_strings.specs.BlockStrings.{common_indent}
use Rattle.graphql_strings.proofs.LineLemmas.{cut_more, cut_all}
use Rattle.graphql_strings.proofs.block_strings.without_common_indent.Goals as goal

abbrev texts : List (Bor (List ℕ)) → List (List ℕ)
texts lines = map (λ line. line.now) lines

behind_first : (lines : List (Bor (List ℕ))) → texts (drop 1 lines) ≡ drop 1 (texts lines)
behind_first [] = refl
behind_first (line ∷ lines) = refl

pub loop-i-preserved : goal.loop-i-preserved
loop-i-preserved c =
    let n = c.indent_behind_first-indent.result in
    let within : c.loop-i.i < length (texts c.args.lines.items) = omega (arith, length-map c.args.lines.items (λ (line : Bor (List ℕ)). line.now)) in
    record {
      lines = rw length-set c.loop-i.invariant.lines;
      cut = cut_more n c.loop-i.i (texts c.args.lines.items) c.loop-i.lines.items c.without_front.result c.index.result.now
          (omega arith) within c.loop-i.invariant.cut
          (c.without_front.ensures ∙ ap (λ (line : Bor (List ℕ)). drop n line.now) c.index.ensures);
    }

pub returns : goal.returns
returns c =
    let n = c.indent_behind_first-indent.result in
    let ended : length (texts c.args.lines.items) ≤ c.loop-i.i = omega (arith, length-map c.args.lines.items (λ (line : Bor (List ℕ)). line.now)) in
    let slice : texts (drop 1 c.as_slice.result.now) ≡ drop 1 (texts c.args.lines.items) =
    ap (λ (lines : List (Bor (List ℕ))). texts (drop 1 lines)) c.as_slice.ensures.value ∙ behind_first c.args.lines.items in
    let indent : n ≡ unwrap_or (common_indent (drop 1 (texts c.args.lines.items))) 0 =
    c.indent_behind_first-indent.ensures ∙ ap (λ (lines : List (List ℕ)). unwrap_or (common_indent lines) 0) slice in
    c.loop-i.invariant.cut ∙ cut_all n c.loop-i.i (texts c.args.lines.items) ended indent
