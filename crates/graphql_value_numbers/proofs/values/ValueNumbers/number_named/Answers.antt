use Rattle.std.proofs.Common.{◌≡◌, ◌+◌, ◌∷◌, ◌++◌, ◌∙◌, [], ap, subst, sym, take}
use Rattle.std.specs.Prelude.{is_some}
use Rattle.graphql_documents.proofs.ListLemmas.{more_is}
use Rattle.graphql_value_numbers.proofs.NumberLaws.{grown_named, grows_then}
use Rattle.graphql_value_numbers.proofs.NumberingLemmas.{known_argument, nothing, one_more_argument}
use Rattle.graphql_value_numbers.specs.Arguments.{AreArgumentsNumbered, value_named}
use Rattle.graphql_value_numbers.specs.NamedNumbers.{number_under}
use Rattle.graphql_value_numbers.specs.Numbers.{Grows, HasNumber}
use Rattle.graphql_value_numbers.specs.Tables.{shapes_of}
use Rattle.graphql_value_numbers.proofs.values.ValueNumbers.number_named.Goals as goal
use Rattle.graphql_value_numbers.proofs.values.ValueNumbers.number_named.Goals.{else-is_none, then-is_none+in_ok-number+in_ok-insert}

pub loop-argument-preserved : goal.loop-argument-preserved
loop-argument-preserved c =
    let old = shapes_of c.args.self.now in
    let between = shapes_of c.loop-argument.self in
    let xs = c.args.arguments.now in
    let i = c.loop-argument.argument-index in
    let x = c.argument-item.result in
    let a = c.deref-argument.result.now in
    let before = c.loop-argument.invariant in
    let more : take (i + 1) xs ≡ take i xs ++ x ∷ [] = more_is xs i x c.loop-argument-test.true c.argument-item.is in
    elim c.if-is_none.branch [
      | then-is_none+in_ok-number+in_ok-insert w ↦
          let new = shapes_of w.number_value.new.self in
          let e = w.in_ok-number.ensures in
          record {
            grows = subst (λ s. Grows old (shapes_of s)) (sym w.self-is) (grows_then old between new before.grows e.grows);
            numbers = subst (λ s. AreArgumentsNumbered (shapes_of s) (take (i + 1) xs) c.if-is_none.numbers) (sym w.self-is)
                (subst (AreArgumentsNumbered new (take (i + 1) xs)) (sym w.numbers-is)
                (subst (λ l. AreArgumentsNumbered new l w.insert.new.self) (sym more)
                (one_more_argument new (take i xs) x a c.deref-argument.ensures c.loop-argument.numbers w.insert.new.self w.in_ok-number.number
                (grown_named between new e.grows (value_named (take i xs)) c.loop-argument.numbers before.numbers)
                (nothing (number_under c.loop-argument.numbers a.name) (sym (ap is_some c.number_of.ensures) ∙ w.if-is_none.ensures))
                w.insert.ensures.ordered w.in_ok-insert.ensures.inserted
                (subst (λ v. HasNumber new v w.in_ok-number.number) w.deref.ensures e.number))));
          }
      | else-is_none w ↦
          record {
            grows = subst (λ s. Grows old (shapes_of s)) (sym w.self-is) before.grows;
            numbers = subst (λ s. AreArgumentsNumbered (shapes_of s) (take (i + 1) xs) c.if-is_none.numbers) (sym w.self-is)
                (subst (AreArgumentsNumbered between (take (i + 1) xs)) (sym w.numbers-is)
                (subst (λ l. AreArgumentsNumbered between l c.loop-argument.numbers) (sym more)
                (known_argument between (take i xs) x a c.deref-argument.ensures c.loop-argument.numbers before.numbers
                (sym (ap is_some c.number_of.ensures) ∙ w.if-is_none.ensures))));
          }
    ]
