use Rattle.std.proofs.Common.{◌≡◌, ◌∙◌, ◌++◌, Bool, false, true, ap, refl, sym}
use Rattle.std.specs.Prelude.{filter, not, reverse}
use Rattle.std.proofs.lemmas.List.{append-nil}
use Rattle.graphql_trees.specs.declared.documents.Definition.{Definition}
use Rattle.graphql_project_checking.specs.Silence.{is_fragment, others_in}
use Rattle.graphql_project_checking.proofs.PartLemmas.{one_left, one_taken}
use Rattle.graphql_project_checking.proofs.parts.move_from_end.Goals as goal

abbrev is_other : Definition → Bool
is_other d = not (is_fragment d)

pub loop-definition-init : goal.loop-definition-init
loop-definition-init c = (refl, refl)

pub loop-definition-preserved-then-is_fragment : goal.loop-definition-preserved-then-is_fragment
loop-definition-preserved-then-is_fragment c =
    let d = c.in-Some.definition in
    let old = c.loop-definition.definitions in
    let new = c.pop.new.self in
    let is : is_fragment d ≡ true = sym c.is_fragment.ensures ∙ c.if-is_fragment.true in (
      one_taken is_fragment c.args.definitions c.loop-definition.fragments c.args.fragments.now old new d c.in-Some.ensures is c.loop-definition.invariant.0 ∙
          ap (λ l. l ++ reverse (filter is_fragment new)) (sym c.in_ok-push.ensures.ok),
      one_left is_other c.args.definitions c.loop-definition.others c.args.others.now old new d c.in-Some.ensures (ap not is) c.loop-definition.invariant.1,
    )

pub loop-definition-preserved : goal.loop-definition-preserved
loop-definition-preserved c =
    let d = c.in-Some.definition in
    let old = c.loop-definition.definitions in
    let new = c.pop.new.self in
    let is : is_fragment d ≡ false = sym c.is_fragment.ensures ∙ c.if-is_fragment.false in (
      one_left is_fragment c.args.definitions c.loop-definition.fragments c.args.fragments.now old new d c.in-Some.ensures is c.loop-definition.invariant.0,
      one_taken is_other c.args.definitions c.loop-definition.others c.args.others.now old new d c.in-Some.ensures (ap not is) c.loop-definition.invariant.1 ∙
          ap (λ l. l ++ reverse (filter is_other new)) (sym c.in_ok-push-2.ensures.ok),
    )

pub returns : goal.returns
returns c =
    let none = c.in_default.ensures.0 in
    let fragments = c.loop-definition.fragments in
    let others = c.loop-definition.others in
    record {
      fragments = sym (c.loop-definition.invariant.0 ∙ ap (λ l. fragments ++ reverse (filter is_fragment l)) none ∙ append-nil fragments);
      others = sym (c.loop-definition.invariant.1 ∙ ap (λ l. others ++ reverse (others_in l)) none ∙ append-nil others);
    }
