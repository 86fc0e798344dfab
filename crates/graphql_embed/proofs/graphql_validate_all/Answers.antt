use Rattle.graphql_answers.specs.Batches.{FindsInEach, IsRefusalOfEach}
use Rattle.graphql_embed.proofs.OutcomeLemmas.{tells_of}
use Rattle.graphql_embed.proofs.graphql_validate_all.Goals as goal

pub returns : goal.returns
returns c = tells_of c.validate_each.result c.hand_over.result c.args.out.now c.hand_over.new.out (FindsInEach c.args.schema.now c.args.documents.now c.args.ends.now) (IsRefusalOfEach c.args.schema.now c.args.documents.now c.args.ends.now)
    c.validate_each.ensures.found c.validate_each.ensures.refused c.hand_over.ensures.answered c.hand_over.ensures.written c.hand_over.ensures.refused c.hand_over.ensures.kept
