use Rattle.std.proofs.Common.{◌∙◌, ◌++◌, ◌∷◌, [], ap}
use Rattle.std.proofs.lemmas.List.{replicate-append-replicate}
use Rattle.graphql_field_sets.proofs.texts.blanks.Goals as goal

pub loop-turn-preserved : goal.loop-turn-preserved
loop-turn-preserved c =
    c.in_ok-push_str.ensures.bytes ∙ ap (λ t. t ++ 32 ∷ []) c.loop-turn.invariant ∙ replicate-append-replicate c.loop-turn._turn 1 32
