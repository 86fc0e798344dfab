use Rattle.std.proofs.Common.{◌∷◌, [], refl, subst, sym}
use Rattle.std.specs.Prelude.{All}
use Rattle.std.proofs.lemmas.List.Elements.{All-append, All-cons, All-contains, All-nil}
use Rattle.graphql_frontend.specs.declared.texts.SourceText.{SourceText}
use Rattle.graphql_kept_projects.specs.Documents.{IsOneOrPart, IsPartOfOne}
use Rattle.graphql_kept_projects.proofs.DocumentLemmas.{more_parts}
use Rattle.graphql_project_checking.proofs.TruthLemmas.{stands_at}
use Rattle.graphql_kept_projects.proofs.parts.with_parts.Goals as goal

pub loop-part-init : goal.loop-part-init
loop-part-init c = λ whole of_sources of_parts. subst (All (IsOneOrPart whole)) (sym c.in_ok-all.ensures.items) of_sources

pub loop-part-preserved : goal.loop-part-preserved
loop-part-preserved c = λ whole of_sources of_parts.
    let P = IsOneOrPart whole in
    let part = c.part-item.result in
    let source : SourceText = record { file_id = part.file_id; text = c.as_str.result } in
    let among = stands_at c.args.parts.now c.loop-part.part-index part c.loop-part-test.true c.part-item.is in
    subst (All P) (sym c.in_ok-push.ensures.items)
    (All-append P c.loop-part.all.items (source ∷ []) (c.loop-part.invariant whole of_sources of_parts)
    (All-cons P source [] (more_parts whole part source refl c.as_str.ensures.value (All-contains (IsPartOfOne whole) c.args.parts.now part of_parts among)) (All-nil P)))
