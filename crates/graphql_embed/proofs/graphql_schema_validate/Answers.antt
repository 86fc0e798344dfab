use Rattle.std.proofs.Common.{◌≡◌, subst}
use Rattle.graphql_answers.specs.Sessions.{FindsAgainstKept, IsRefusalOfKept, answer_in, schema_in}
use Rattle.graphql_embed.specs.Options.{IsRefusalWith}
use Rattle.graphql_embed.specs.Outcomes.{Tells}
use Rattle.graphql_embed.proofs.OutcomeLemmas.{tells_short, tells_whole}
use Rattle.graphql_embed.proofs.graphql_schema_validate.Goals as goal

pub returns-in-Ok-clause-tells : goal.returns-in-Ok-clause-tells
returns-in-Ok-clause-tells c =
    let options = c.args.options.now in
    let schema = schema_in c.args.handle.now.kept in
    let document = c.args.document.now in
    let kept = c.validate_within.new.handle.kept in
    subst (λ l. Tells (λ found json. FindsAgainstKept l schema document found json × (answer_in kept ≡ json)) (IsRefusalWith options (IsRefusalOfKept schema document))
    c.validate_within.result c.args.out.now c.validate_within.new.out) c.in-Ok.ensures
    (tells_whole options c.validate_within.result c.args.out.now c.validate_within.new.out _ (IsRefusalOfKept schema document) c.validate_within.ensures.tells)

pub returns-in-Err-clause-tells : goal.returns-in-Err-clause-tells
returns-in-Err-clause-tells c =
    tells_short c.args.options.now c.in-Err.refusal c.no_answer.result c.args.out.now _ (IsRefusalOfKept (schema_in c.args.handle.now.kept) c.args.document.now)
    c.in-Err.ensures.0 c.in-Err.ensures.1 c.no_answer.ensures.status c.no_answer.ensures.length
