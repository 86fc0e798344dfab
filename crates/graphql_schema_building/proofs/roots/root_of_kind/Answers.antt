use Rattle.std.proofs.Common.{◌≡◌, ◌∙◌, ◌∷◌, [], None, Some, ap, refl, sym}
use Rattle.std.proofs.lemmas.List.{take_all}
use Rattle.graphql_schema_checking.specs.SchemaBuilds.{roots_of_kind}
use Rattle.graphql_schema_building.specs.SchemaSays.{first_of_list}
use Rattle.graphql_schema_building.proofs.RootLemmas.{first_here, first_later, roots_then}
use Rattle.graphql_schema_building.proofs.roots.root_of_kind.Goals as goal

pub returns-then-is_same_operation : goal.returns-then-is_same_operation
returns-then-is_same_operation c =
    let operation = c.args.operation_type in
    let x = c.root-item.result in
    let same = sym c.is_same_operation.ensures ∙ c.if-is_same_operation.true in
    let here : first_of_list (roots_of_kind operation (x ∷ [])) ≡ Some x.name = rw same refl in
    sym (first_here (roots_of_kind operation) (roots_then operation) c.args.roots.now c.loop-root.root-index x c.loop-root-test.true c.root-item.is
    x.name c.loop-root.invariant here)

pub loop-root-preserved : goal.loop-root-preserved
loop-root-preserved c =
    let operation = c.args.operation_type in
    let x = c.root-item.result in
    let other = sym c.is_same_operation.ensures ∙ c.if-is_same_operation.false in
    let none : first_of_list (roots_of_kind operation (x ∷ [])) ≡ None = rw other refl in
    first_later (roots_of_kind operation) (roots_then operation) c.args.roots.now c.loop-root.root-index x c.loop-root-test.true c.root-item.is
    c.loop-root.invariant none

pub returns : goal.returns
returns c =
    sym c.loop-root.invariant ∙
    ap (λ l. first_of_list (roots_of_kind c.args.operation_type l)) (take_all c.loop-root.root-index c.args.roots.now c.loop-root-test.false)
