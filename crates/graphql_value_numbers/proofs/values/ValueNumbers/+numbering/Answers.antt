use Rattle.std.proofs.Common.{◌≡◌, ◌+◌, ap, ◌∷◌, ◌++◌, [], refl, subst, sym, take, ◌∙◌}
use Rattle.std.specs.Prelude.{IfOk, is_some}
use Rattle.graphql_documents.proofs.ListLemmas.{more_is}
use Rattle.graphql_documents.specs.Values.{entry_named}
use Rattle.graphql_documents.specs.declared.documents.values.Value.{Value}
use Rattle.graphql_nodes.specs.Names.{NameText}
use Rattle.graphql_nodes.specs.declared.nodes.Node.{Node}
use Rattle.graphql_value_numbers.specs.NamedNumbers.{number_under}
use Rattle.graphql_value_numbers.proofs.NumberLaws.{grown_items, grown_named, grows_then, other_is_leaf}
use Rattle.graphql_value_numbers.proofs.NumberingLemmas.{known_name, nothing, leaf_numbered, list_numbered, object_numbered, one_more_item, one_more_name}
use Rattle.graphql_value_numbers.specs.Numbers.{AreEntriesNumbered, AreItemsNumbered, Grows, HasNumber, IsAt}
use Rattle.graphql_value_numbers.specs.Tables.{shapes_of}
use Rattle.graphql_value_numbers.proofs.values.ValueNumbers.+numbering.Goals as goal
use Rattle.graphql_value_numbers.proofs.values.ValueNumbers.+numbering.Goals.{number_entries-else-is_none, number_entries-then-is_none+in_ok-number+in_ok-insert, number_value-in-List+in_ok-number_items-in-List, number_value-in-Object+in_ok-number_entries-in-Object, number_value-in_default}

pub number_value-returns-clause-number : goal.number_value-returns-clause-number
number_value-returns-clause-number t c =
    let new = shapes_of c.add.new.self in
    elim c.match-value.branch [
      | number_value-in-List+in_ok-number_items-in-List w ↦
          list_numbered c.add.result new c.args.value.now (shapes_of w.number_items.new.self)
          (subst (λ numbered. Grows (shapes_of numbered) new) w.self-is c.add.ensures.grows)
          w.in-List.items w.in_ok-number_items-in-List.field-0 w.in-List.is
          (subst (λ items. AreItemsNumbered (shapes_of w.number_items.new.self) items w.in_ok-number_items-in-List.field-0.items) w.deref.ensures.value
          w.in_ok-number_items-in-List.ensures.numbers)
          (subst (λ s. IfOk c.add.result (IsAt new s)) w.shape-is c.add.ensures.number)
      | number_value-in-Object+in_ok-number_entries-in-Object w ↦
          object_numbered c.add.result new c.args.value.now (shapes_of w.number_entries.new.self)
          (subst (λ numbered. Grows (shapes_of numbered) new) w.self-is c.add.ensures.grows)
          w.in-Object.entries w.in_ok-number_entries-in-Object.field-0 w.in-Object.is
          (subst (λ entries. AreEntriesNumbered (shapes_of w.number_entries.new.self) entries w.in_ok-number_entries-in-Object.field-0) w.deref-in-Object.ensures.value
          w.in_ok-number_entries-in-Object.ensures.numbers)
          (subst (λ s. IfOk c.add.result (IsAt new s)) w.shape-is c.add.ensures.number)
      | number_value-in_default w ↦
          leaf_numbered c.add.result new c.args.value.now c.args.value refl
          (other_is_leaf c.args.value.now w.in_default.not-List w.in_default.not-Object)
          (subst (λ s. IfOk c.add.result (IsAt new s)) w.shape-is c.add.ensures.number)
    ]

pub number_items-loop-item-preserved : goal.number_items-loop-item-preserved
number_items-loop-item-preserved t c =
    let old = shapes_of c.args.self.now in
    let between = shapes_of c.loop-item.self in
    let new = shapes_of c.number_value.new.self in
    let xs = c.args.items.now in
    let i = c.loop-item.item-index in
    let x = c.item-item.result in
    let e = c.in_ok-number.ensures in
    let before = c.loop-item.invariant in
    let more : take (i + 1) xs ≡ take i xs ++ x ∷ [] = more_is xs i x c.loop-item-test.true c.item-item.is in
    record {
      grows = grows_then old between new before.grows e.grows;
      numbers = subst (λ l. AreItemsNumbered new l c.push.new.self.items) (sym more)
          (subst (AreItemsNumbered new (take i xs ++ x ∷ [])) (sym c.in_ok-push.ensures.items)
          (one_more_item new (take i xs) c.loop-item.numbers.items x c.in_ok-number.number
          (grown_items between new e.grows (take i xs) c.loop-item.numbers.items before.numbers) (subst (λ v. HasNumber new v c.in_ok-number.number) c.deref.ensures e.number)));
    }

pub number_entries-loop-name-preserved : goal.number_entries-loop-name-preserved
number_entries-loop-name-preserved t c =
    let old = shapes_of c.args.self.now in
    let between = shapes_of c.loop-name.self in
    let xs = c.args.entries.now in
    let i = c.loop-name.name-index in
    let x = c.loop-name-item.result in
    let before = c.loop-name.invariant in
    let more : take (i + 1) xs ≡ take i xs ++ x ∷ [] = more_is xs i x c.loop-name-test.true c.loop-name-item.is in
    elim c.if-is_none.branch [
      | number_entries-then-is_none+in_ok-number+in_ok-insert w ↦
          let new = shapes_of w.number_value.new.self in
          let e = w.in_ok-number.ensures in
          record {
            grows = subst (λ s. Grows old (shapes_of s)) (sym w.self-is) (grows_then old between new before.grows e.grows);
            numbers = subst (λ s. AreEntriesNumbered (shapes_of s) (take (i + 1) xs) c.if-is_none.numbers) (sym w.self-is)
                (subst (AreEntriesNumbered new (take (i + 1) xs)) (sym w.numbers-is)
                (subst (λ l. AreEntriesNumbered new l w.insert.new.self) (sym more)
                (one_more_name (λ (entry : NameText × Node Value). entry.0) (λ entry. entry.1) new (take i xs) x c.loop-name.numbers w.insert.new.self w.in_ok-number.number
                (grown_named between new e.grows (λ name. entry_named name (take i xs)) c.loop-name.numbers before.numbers)
                (nothing (number_under c.loop-name.numbers x.0) (sym (ap is_some c.number_of.ensures) ∙ w.if-is_none.ensures))
                w.insert.ensures.ordered w.in_ok-insert.ensures.inserted
                (subst (λ v. HasNumber new v w.in_ok-number.number) w.deref.ensures e.number))));
          }
      | number_entries-else-is_none w ↦
          record {
            grows = subst (λ s. Grows old (shapes_of s)) (sym w.self-is) before.grows;
            numbers = subst (λ s. AreEntriesNumbered (shapes_of s) (take (i + 1) xs) c.if-is_none.numbers) (sym w.self-is)
                (subst (AreEntriesNumbered between (take (i + 1) xs)) (sym w.numbers-is)
                (subst (λ l. AreEntriesNumbered between l c.loop-name.numbers) (sym more)
                (known_name (λ (entry : NameText × Node Value). entry.0) (λ entry. entry.1) between (take i xs) x c.loop-name.numbers before.numbers
                (sym (ap is_some c.number_of.ensures) ∙ w.if-is_none.ensures))));
          }
    ]
