use Rattle.std.proofs.Common.{◌≡◌, ◌∙◌, [], ◌∷◌, ◌++◌, Some, ap, append_assoc, subst, sym}
use Rattle.std.proofs.lemmas.List.{append-nil}
use Rattle.graphql_schema_ways.specs.Ways.{IsWay, at_root, behind, start_of, step_at}
use Rattle.graphql_schema_ways.specs.declared.ways.Step.TheVariants as step
use Rattle.graphql_schema_ways.proofs.ways.Ways.way_to.Goals as goal

pub returns-in-Root : goal.returns-in-Root
returns-in-Root c = λ lead.
    let is : step_at c.args.self.now.steps.items c.loop.at ≡ Some (step.Root c.in-Root.operation) = cc in
    subst (λ l. IsWay c.args.self.now.schema.now c.in-Root.operation c.args.place l) (append-nil c.loop.indices.items)
    (c.loop.invariant lead c.in-Root.operation [] (at_root (lead c.loop.at (step.Root c.in-Root.operation) is)))

pub loop-preserved : goal.loop-preserved
loop-preserved c = λ lead operation rest way.
    let is : step_at c.args.self.now.steps.items c.loop.at ≡ Some c.in-Some.step = cc in
    let start : start_of c.in-Some.step ≡ Some c.in-Some-start.parent = cc in
    let whole : c.push.new.self.items ++ rest ≡ c.loop.indices.items ++ (c.loop.at ∷ rest) =
    ap (λ l. l ++ rest) c.in_ok-push.ensures.items ∙ append_assoc c.loop.indices.items (c.loop.at ∷ []) rest in
    subst (λ l. IsWay c.args.self.now.schema.now operation c.args.place l) (sym whole)
    (c.loop.invariant lead operation (c.loop.at ∷ rest) (behind start (lead c.loop.at c.in-Some.step is) way))
