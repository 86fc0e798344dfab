use Rattle.std.proofs.Common.{◌≡◌, ◌+◌, ◌∷◌, ◌++◌, [], Some, ap, append_assoc, append-nil, map, refl, sym, take, ◌∙◌, arith}
use Rattle.std.specs.Prelude.{slice_get}
use Rattle.std.proofs.lemmas.List.{map-append, take_all}
use Rattle.graphql_documents.proofs.ListLemmas.{more_is}
use Rattle.graphql_documents.specs.declared.documents.executables.Operation.{Operation}
use Rattle.graphql_documents.specs.declared.documents.executables.SelectionSet.{SelectionSet}
use Rattle.graphql_pair_merging.specs.NumberedSets.{operation_sets, sets_at}
use Rattle.graphql_pair_merging.proofs.NumberLemmas.{numbers_next}
use Rattle.graphql_pair_merging.proofs.numbered_sets.Numbering.number_operations.Goals as goal

pub loop-operation-init : goal.loop-operation-init
loop-operation-init g c = record {
  fragments = refl;
  values = refl;
  sets = sym (append-nil (sets_at c.args.self.now.sets.items));
  numbers = ap (map (slice_get (sets_at c.args.self.now.sets.items))) c.new-numbers.ensures.items;
  cost = omega arith;
}

pub loop-operation-preserved : goal.loop-operation-preserved
loop-operation-preserved g c =
    let i = c.loop-operation.invariant in
    let e = c.in_ok-number.ensures in
    let xs = c.args.operations.now in
    let n = c.loop-operation.operation-index in
    let x = c.operation-item.result in
    let set = x.now.value.value.selection_set in
    let known = sets_at c.loop-operation.self.sets.items in
    let after = sets_at c.number.new.self.sets.items in
    let done = operation_sets (take n xs) in
    let more : operation_sets (take (n + 1) xs) ≡ done ++ set ∷ [] =
    ap operation_sets (more_is xs n x c.loop-operation-test.true c.operation-item.is) ∙ map-append (λ (o : _). o.now.value.value.selection_set) (take n xs) (x ∷ []) in
    let grown : after ≡ known ++ set ∷ [] = e.sets ∙ ap (λ (o : Operation). known ++ o.selection_set ∷ []) c.deref.ensures in
    record {
      fragments = e.fragments ∙ i.fragments;
      values = e.values ∙ i.values;
      sets = grown ∙ ap (λ l. l ++ set ∷ []) i.sets ∙ append_assoc (sets_at c.args.self.now.sets.items) done (set ∷ []) ∙ ap (λ l. sets_at c.args.self.now.sets.items ++ l) (sym more);
      numbers = numbers_next known after c.loop-operation.numbers.items c.push.new.self.items done (operation_sets (take (n + 1) xs)) set c.in_ok-number.number
          grown e.number c.in_ok-push.ensures.items more i.numbers;
      cost = omega (arith, i.cost, c.take.ensures);
    }

pub returns-clause-sets : goal.returns-clause-sets
returns-clause-sets g c =
    c.loop-operation.invariant.sets ∙
    ap (λ l. sets_at c.args.self.now.sets.items ++ operation_sets l) (take_all c.loop-operation.operation-index c.args.operations.now c.loop-operation-test.false)

pub returns-clause-numbers : goal.returns-clause-numbers
returns-clause-numbers g c =
    c.loop-operation.invariant.numbers ∙
    ap (λ l. map (λ (s : SelectionSet). Some s) (operation_sets l)) (take_all c.loop-operation.operation-index c.args.operations.now c.loop-operation-test.false)
