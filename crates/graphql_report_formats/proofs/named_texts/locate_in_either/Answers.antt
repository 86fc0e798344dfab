use Rattle.std.proofs.Common.{◌∙◌, ap, sym}
use Rattle.std.specs.Option.{option_map}
use Rattle.graphql_report_formats.specs.NamedTexts.{part, part_at, texts_of}
use Rattle.graphql_report_formats.proofs.TextLemmas.{or_else, part_in_both}
use Rattle.graphql_report_formats.proofs.named_texts.locate_in_either.Goals as goal

pub returns-in-Some : goal.returns-in-Some
returns-in-Some c =
    let first = texts_of c.args.first.now in
    let second = texts_of c.args.second.now in
    sym (part_in_both first second c.args.span ∙
    ap (λ p. or_else p (part_at second c.args.span)) (sym c.locate.ensures ∙ ap (option_map part) c.in-Some.is))

pub returns-in-None : goal.returns-in-None
returns-in-None c =
    let first = texts_of c.args.first.now in
    let second = texts_of c.args.second.now in
    c.locate-in-None.ensures ∙
    sym (part_in_both first second c.args.span ∙
    ap (λ p. or_else p (part_at second c.args.span)) (sym c.locate.ensures ∙ ap (option_map part) c.in-None.is))
