use Rattle.std.proofs.Common.{◌∙◌, ◌++◌, ap}
use Rattle.std.specs.Prelude.{filter, reverse}
use Rattle.std.proofs.lemmas.List.{reverse-reverse}
use Rattle.graphql_project_checking.specs.Silence.{is_fragment, others_in}
use Rattle.graphql_project_checking.proofs.parts.parts_of.Goals as goal

pub returns : goal.returns
returns c =
    let definitions = c.into_definitions-definitions.result in
    let are = c.into_definitions-definitions.ensures in
    let first = c.in_ok-move_from_end.ensures.fragments ∙ ap (λ l. l ++ reverse (filter is_fragment definitions)) c.new-fragments.ensures in
    let rest = c.in_ok-move_from_end.ensures.others ∙ ap (λ l. l ++ reverse (others_in definitions)) c.new-others.ensures in
    record {
      fragments = c.in_ok-definitions.ensures ∙ ap reverse first ∙ reverse-reverse (filter is_fragment definitions) ∙ ap (filter is_fragment) are;
      others = c.in_ok-others.ensures ∙ ap reverse rest ∙ reverse-reverse (others_in definitions) ∙ ap others_in are;
    }
