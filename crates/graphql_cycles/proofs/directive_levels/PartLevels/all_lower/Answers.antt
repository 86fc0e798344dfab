use Rattle.std.proofs.Common.{All, refl, sym, subst, take, ◌∙◌}
use Rattle.std.proofs.lemmas.List.{take_all}
use Rattle.std.proofs.lemmas.List.Elements.{All-get_or, All-push}
use Rattle.graphql_documents.proofs.ListLemmas.{more_is}
use Rattle.graphql_cycles.specs.DirectiveLevels.{ReferenceIsLower}
use Rattle.graphql_cycles.proofs.LevelLemmas.{not_false}
use Rattle.graphql_cycles.proofs.directive_levels.PartLevels.all_lower.Goals as goal

pub returns-then-not-is_lower : goal.returns-then-not-is_lower
returns-then-not-is_lower c = (
  λ said. absurd (not_false said),
  λ all.
      let P = ReferenceIsLower c.args.self.now c.args.level in
      let here : P c.reference-item.result =
      subst P (sym c.reference-item.is) (All-get_or P c.args.references.now c.loop-reference.reference-index c.reference-item.result c.loop-reference-test.true all) in
      sym c.if-not-is_lower.true ∙ c.is_lower.ensures.1 here,
)

pub loop-reference-preserved : goal.loop-reference-preserved
loop-reference-preserved c =
    let P = ReferenceIsLower c.args.self.now c.args.level in
    let xs = c.args.references.now in
    let i = c.loop-reference.reference-index in
    let x = c.reference-item.result in
    subst (All P) (sym (more_is xs i x c.loop-reference-test.true c.reference-item.is))
    (All-push P (take i xs) x c.loop-reference.invariant (c.is_lower.ensures.0 c.if-not-is_lower.false))

pub returns : goal.returns
returns c = (
  λ yes. subst (All (ReferenceIsLower c.args.self.now c.args.level))
      (take_all c.loop-reference.reference-index c.args.references.now c.loop-reference-test.false) c.loop-reference.invariant,
  λ all. refl,
)
