use Rattle.std.proofs.Common.{[], ◌∷◌}
use Rattle.graphql_answers.specs.Answers.{FindsInSchema, IsRefusalOf}
use Rattle.graphql_embed.proofs.OutcomeLemmas.{tells_of}
use Rattle.graphql_embed.proofs.graphql_validate_schema.Goals as goal

pub returns : goal.returns
returns c = tells_of c.validate_schema.result c.hand_over.result c.args.out.now c.hand_over.new.out (FindsInSchema c.args.schema.now) (IsRefusalOf (c.args.schema.now ∷ []))
    c.validate_schema.ensures.found c.validate_schema.ensures.refused c.hand_over.ensures.answered c.hand_over.ensures.written c.hand_over.ensures.refused c.hand_over.ensures.kept
