use Rattle.std.proofs.Common.{◌≡◌, ◌+◌, ◌∷◌, ◌++◌, [], subst, sym, take}
use Rattle.std.proofs.lemmas.Slice.Zip.{all_zipped_more}
use Rattle.graphql_documents.proofs.ListLemmas.{more_is}
use Rattle.graphql_contents.specs.Contents.{AreNumbered, HasNumber}
use Rattle.graphql_contents.specs.Tables.{contents_of}
use Rattle.graphql_contents.proofs.TableLemmas.{grown_numbers, grows_then}
use Rattle.graphql_contents.proofs.contents.Contents.+numbering.Goals as goal

pub number_set-loop-selection-preserved : goal.number_set-loop-selection-preserved
number_set-loop-selection-preserved t c =
    let old = contents_of c.args.self.now in
    let between = contents_of c.loop-selection.self in
    let new = contents_of c.number_selection.new.self in
    let xs = c.deref-selection-items.result.now in
    let i = c.loop-selection.selection-index in
    let s = c.selection-item.result in
    let e = c.in_ok-number.ensures in
    let before = c.loop-selection.invariant in
    let more : take (i + 1) xs ≡ take i xs ++ s ∷ [] = more_is xs i s c.loop-selection-test.true c.selection-item.is in
    record {
      grows = grows_then old between new before.grows e.grows;
      numbers = subst (λ l. AreNumbered new l c.push.new.self.items) (sym more)
          (subst (AreNumbered new (take i xs ++ s ∷ [])) (sym c.in_ok-push.ensures.items)
          (all_zipped_more (HasNumber new) (take i xs) c.loop-selection.numbers.items s c.in_ok-number.number
          (grown_numbers between new e.grows (take i xs) c.loop-selection.numbers.items before.numbers) e.number));
    }
