use Rattle.std.proofs.Common.{◌≡◌, refl, subst, sym}
use Rattle.graphql_answers.specs.Sessions.{FindsAgainstKept, IsRefusalOfKept, answer_in, schema_in}
use Rattle.graphql_embed.specs.Outcomes.{Tells}
use Rattle.graphql_embed.proofs.OutcomeLemmas.{tells_of_kept}
use Rattle.graphql_embed.proofs.validate_within.Goals as goal

pub returns-clause-tells : goal.returns-clause-tells
returns-clause-tells c =
    let schema = schema_in c.args.handle.now.kept in
    let document = c.args.document.now in
    let kept = c.validate_kept-answered.new.handle.kept in
    subst (λ k. Tells (λ found json. FindsAgainstKept c.args.limits schema document found json × (answer_in k ≡ json)) (IsRefusalOfKept schema document)
    c.hand_over_kept.result c.args.out.now c.hand_over_kept.new.out) (sym c.hand_over_kept.ensures.kept)
    (tells_of_kept c.validate_kept-answered.result c.hand_over_kept.result c.args.out.now c.hand_over_kept.new.out (answer_in kept) (answer_in kept)
    (FindsAgainstKept c.args.limits schema document) (IsRefusalOfKept schema document)
    c.validate_kept-answered.ensures.found c.validate_kept-answered.ensures.refused refl
    c.hand_over_kept.ensures.answered c.hand_over_kept.ensures.written c.hand_over_kept.ensures.refused c.hand_over_kept.ensures.nothing)
