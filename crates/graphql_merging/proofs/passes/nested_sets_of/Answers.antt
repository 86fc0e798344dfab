use Rattle.std.proofs.Common.{◌≡◌, ◌+◌, ◌∷◌, ◌++◌, [], arith, length, map, subst, sym, ◌∙◌, ap}
use Rattle.std.proofs.lemmas.List.{length-append, map-append}
use Rattle.std.proofs.lemmas.List.Elements.{All-contains}
use Rattle.std.specs.Prelude.{◌==◌}
use Rattle.std.specs.Vec.{vec_len}
use Rattle.graphql_contents.specs.Contents.{AreNumbered}
use Rattle.graphql_contents.specs.Documents.{contents_in}
use Rattle.graphql_contents.specs.declared.documents.NumberedSet.{NumberedSet}
use Rattle.graphql_documents.specs.Selections.{selections_of}
use Rattle.graphql_documents.specs.declared.documents.executables.Field.{Field}
use Rattle.graphql_documents.specs.declared.documents.executables.Selection.TheVariants as kind
use Rattle.graphql_merging.specs.NumberedFields.{IsNumberedIn}
use Rattle.graphql_merging.proofs.NumberedFieldLemmas.{field_set_numbered, set_numbered}
use Rattle.graphql_merging.proofs.PassStepLemmas.{nested_one_more}
use Rattle.graphql_merging.proofs.passes.nested_sets_of.Goals as goal
use Rattle.graphql_merging.proofs.passes.nested_sets_of.Goals.{then-not-is_empty+in_ok-push, else-not-is_empty}

pub loop-field-preserved : goal.loop-field-preserved
loop-field-preserved g c =
    let contents = contents_in c.args.numbered.now in
    let set_in = λ (set : NumberedSet). set.set.now in
    let sets = c.loop-field.sets.items in
    let x = c.field-item.result in
    let empty = c.is_empty.ensures ∙ ap (λ (f : Field). vec_len f.selection_set.selections == 0) c.deref.ensures in
    let both = nested_one_more (map set_in sets) c.args.group.now c.loop-field.field-index x c.is_empty.result
    c.loop-field-test.true c.field-item.is empty c.loop-field.invariant.sets in
    let has = All-contains (IsNumberedIn contents) c.args.group.now x c.requires (c.loop-field.field-index, c.loop-field-test.true, sym c.field-item.is) in
    elim c.if-not-is_empty.branch [
      | then-not-is_empty+in_ok-push w ↦
          rw w.sets-is (record {
            sets = ap (map set_in) w.in_ok-push.ensures.items ∙ map-append set_in sets _ ∙
                ap (λ (f : Field). map set_in sets ++ f.selection_set ∷ []) c.deref.ensures ∙ both.0 w.if-not-is_empty.true;
            numbers = set_numbered contents sets _ _ w.in_ok-push.ensures.items
                (subst (λ (f : Field). AreNumbered contents (selections_of f.selection_set) w.nested-contents.result.now) (sym c.deref.ensures)
                (field_set_numbered contents x.field.now w.nested-contents.result.now (w.nested-contents.ensures (kind.Field x.field.now) has))) c.loop-field.invariant.numbers;
            count = let more : length w.push.new.self.items ≡ length sets + 1 = ap length w.in_ok-push.ensures.items ∙ length-append sets _ in omega (arith, c.loop-field.invariant.count, more);
            steps = omega (arith, c.loop-field.invariant.steps, c.take.ensures);
          })
      | else-not-is_empty w ↦ rw w.sets-is (record { sets = both.1 w.if-not-is_empty.false; numbers = c.loop-field.invariant.numbers; count = omega (arith, c.loop-field.invariant.count); steps = omega (arith, c.loop-field.invariant.steps, c.take.ensures) })
    ]
