use Rattle.std.proofs.Common.{rules, ◌≡◌, ◌∙◌, sym, ap, subst, ℕ, List, string_bytes, ◌++◌, take, codes}
use Rattle.graphql_shown_reports.specs.ShownTexts.{IsShownText, is_whole, is_cut}
use Rattle.graphql_shown_reports.proofs.shown_texts.shown_text.Goals as goal

pub returns-then-len-le-LONGEST : goal.returns-then-len-le-LONGEST
returns-then-len-le-LONGEST c = is_whole (search rules)

pub returns : goal.returns
returns c =
    let kept : List ℕ = take c.floor_char_boundary-end.result (string_bytes c.args.message) in
    let begun : string_bytes c.in_ok-shown.shown ≡ kept = search rules in
    let same : string_bytes c.push_str.new.self ≡ kept ++ codes "..." = c.in_ok-push_str.ensures.bytes ∙ ap (λ begin. begin ++ codes "...") begun in
    subst (IsShownText (string_bytes c.args.message)) (sym same)
    (is_cut c.floor_char_boundary-end.result (search rules) (search rules) (search rules) (search rules))
