use Rattle.std.proofs.Common.{◌∙◌, ◌++◌, ap, map, take}
use Rattle.std.specs.List.{slice_range}
use Rattle.graphql_blanks.specs.Blanks.{blank_byte}
use Rattle.graphql_text_parts.proofs.parts.text_of_part.Goals as goal

pub returns-in-Ok : goal.returns-in-Ok
returns-in-Ok c =
    let text = c.args.text.now in
    let start = c.args.part.start in
    let before = c.in_ok-bytes.ensures ∙ ap (map blank_byte) (c.in-Some.ensures.cases.1 ∙ ap (take start) c.as_bytes.ensures.value) in
    let own = c.in-Some-get.ensures.lookup.0.2 ∙ ap (λ t. slice_range t start c.args.part.end) c.as_bytes-2.ensures.value in
    ap (λ v. v.items) c.in-Ok.ensures.ok ∙ c.in_ok-extend_from_slice.ensures.items ∙ ap (λ l. l ++ c.in-Some-get.own.now) before ∙
    ap (λ l. map blank_byte (take start text) ++ l) own
