use Rattle.std.proofs.Common.{◌∙◌, ap, drop}
use Rattle.std.proofs.lemmas.List.{drop-drop}
use Rattle.graphql_syntax.specs.Inputs.{Input}
use Rattle.graphql_syntax.specs.Reading.{input}
use Rattle.graphql_syntax.proofs.StepLemmas.{tokens_behind}
use Rattle.graphql_parser.proofs.parse.refused_token.Goals as goal

pub loop-turn-preserved : goal.loop-turn-preserved
loop-turn-preserved c =
    ap (λ (i : Input). i.tokens) c.behind-here.ensures
    ∙ tokens_behind (input c.loop-turn.here)
    ∙ ap (λ l. drop 1 l) c.loop-turn.invariant
    ∙ drop-drop 1 c.loop-turn._turn (input c.args.cursor).tokens
