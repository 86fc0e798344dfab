use Rattle.std.proofs.Common.{◌≡◌, ◌∙◌, ◌∷◌, ◌++◌, [], ap, rules, subst, sym}
use Rattle.std.proofs.lemmas.List.{append-nil, nil_from_length}
use Rattle.graphql_documents.proofs.ListLemmas.{done_next}
use Rattle.graphql_project_checking.specs.Truth.{SayParts, SaysPart}
use Rattle.graphql_project_checking.proofs.PartTruthLemmas.{no_part_more, none_of, part_more, say_nothing}
use Rattle.graphql_project_checking.proofs.rest.build_parts.Goals as goal

pub loop-document-init : goal.loop-document-init
loop-document-init c =
    let s = c.args.building.schema.now in
    ([], search rules, subst (SayParts s []) (sym c.new-built.ensures.items) (say_nothing s))

pub loop-document-preserved-in-Continue-branch-3 : goal.loop-document-preserved-in-Continue-branch-3
loop-document-preserved-in-Continue-branch-3 c =
    let s = c.args.building.schema.now in
    let before = c.loop-document.invariant in
    let x = c.in-Some.document in
    let says = subst (SaysPart s x) c.in-Some-2.is c.in_ok-typed.ensures in (
      before.0 ++ x ∷ [],
      done_next _ before.0 c.loop-document.document-iterator.rest.items c.next.new.self.rest.items x before.1 c.in-Some.ensures.steps.0,
      part_more s before.0 x c.loop-document.built.items c.push.new.self.items c.in-Some-2.typed says c.in_ok-push.ensures.items before.2,
    )

pub loop-document-preserved : goal.loop-document-preserved
loop-document-preserved c =
    let s = c.args.building.schema.now in
    let before = c.loop-document.invariant in
    let x = c.in-Some.document in
    let says = subst (SaysPart s x) (none_of c.in_ok-typed.field-0 c.in_default.not-Some) c.in_ok-typed.ensures in (
      before.0 ++ x ∷ [],
      done_next _ before.0 c.loop-document.document-iterator.rest.items c.next.new.self.rest.items x before.1 c.in-Some.ensures.steps.0,
      no_part_more s before.0 x c.loop-document.built.items says before.2,
    )

pub returns : goal.returns
returns c =
    let s = c.args.building.schema.now in
    let before = c.loop-document.invariant in
    let rest = c.loop-document.document-iterator.rest in
    let none : rest.items ≡ [] = nil_from_length rest.items (sym rest.ok.0 ∙ c.in-None.ensures.steps.0) in
    let done = before.1 ∙ ap (λ l. before.0 ++ l) none ∙ append-nil before.0 in
    subst (λ l. SayParts s l c.loop-document.built.items) (sym done) before.2
