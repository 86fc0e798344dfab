use Rattle.std.proofs.Common.{◌≡◌, refl, subst, sym}
use Rattle.graphql_answers.specs.Files.{IsRefusalOfFiles}
use Rattle.graphql_answers.specs.Sessions.{FindsInFiles, answer_in, schema_in}
use Rattle.graphql_embed.specs.Outcomes.{Tells}
use Rattle.graphql_embed.proofs.OutcomeLemmas.{tells_of_kept}
use Rattle.graphql_embed.proofs.read_within.Goals as goal

pub returns-clause-tells : goal.returns-clause-tells
returns-clause-tells c =
    let kept = c.read-answered.new.handle.kept in
    let files = c.args.files.now in
    subst (λ k. Tells (λ found json. FindsInFiles c.args.limits files (schema_in k) found json × (answer_in k ≡ json)) (IsRefusalOfFiles files)
    c.hand_over_kept.result c.args.out.now c.hand_over_kept.new.out) (sym c.hand_over_kept.ensures.kept)
    (tells_of_kept c.read-answered.result c.hand_over_kept.result c.args.out.now c.hand_over_kept.new.out (answer_in kept) (answer_in kept)
    (FindsInFiles c.args.limits files (schema_in kept)) (IsRefusalOfFiles files)
    c.read-answered.ensures.found c.read-answered.ensures.refused refl
    c.hand_over_kept.ensures.answered c.hand_over_kept.ensures.written c.hand_over_kept.ensures.refused c.hand_over_kept.ensures.nothing)
