use Rattle.std.proofs.Common.{◌∷◌, ◌++◌, [], sym, subst, take, ap, ◌∙◌}
use Rattle.std.proofs.lemmas.List.{append-nil, append_assoc, take_all}
use Rattle.graphql_documents.proofs.ListLemmas.{more_is}
use Rattle.graphql_schema_checking.specs.Sorting.{AreSorted}
use Rattle.graphql_schema_checking.proofs.definitions.SortedDefinitions.add_all.Goals as goal

pub loop-definition-init : goal.loop-definition-init
loop-definition-init c = λ before s. subst (λ l. AreSorted l c.args.self.now) (sym (append-nil before)) s

pub loop-definition-preserved : goal.loop-definition-preserved
loop-definition-preserved c = λ before s.
    let xs = c.args.definitions.now in
    let i = c.loop-definition.definition-index in
    let x = c.definition-item.result in
    subst (λ l. AreSorted l c.add.new.self)
    (append_assoc before (take i xs) (x ∷ []) ∙ ap (λ l. before ++ l) (sym (more_is xs i x c.loop-definition-test.true c.definition-item.is)))
    (c.in_ok-add.ensures (before ++ take i xs) (c.loop-definition.invariant before s))

pub returns : goal.returns
returns c = λ before s.
    subst (λ l. AreSorted (before ++ l) c.loop-definition.self) (take_all c.loop-definition.definition-index c.args.definitions.now c.loop-definition-test.false)
    (c.loop-definition.invariant before s)
