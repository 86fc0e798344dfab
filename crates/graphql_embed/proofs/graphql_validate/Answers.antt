use Rattle.std.proofs.Common.{[], ◌∷◌}
use Rattle.graphql_answers.specs.Answers.{Finds, IsRefusalOf}
use Rattle.graphql_embed.proofs.OutcomeLemmas.{tells_of}
use Rattle.graphql_embed.proofs.graphql_validate.Goals as goal

pub returns : goal.returns
returns c = tells_of c.validate.result c.hand_over.result c.args.out.now c.hand_over.new.out (Finds c.args.schema.now c.args.document.now) (IsRefusalOf (c.args.schema.now ∷ c.args.document.now ∷ []))
    c.validate.ensures.found c.validate.ensures.refused c.hand_over.ensures.answered c.hand_over.ensures.written c.hand_over.ensures.refused c.hand_over.ensures.kept
