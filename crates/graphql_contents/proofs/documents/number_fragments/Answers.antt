use Rattle.std.proofs.Common.{◌∷◌, ◌++◌, [], map, subst, sym}
use Rattle.std.proofs.lemmas.List.{map-append}
use Rattle.std.proofs.lemmas.Slice.Zip.{all_zipped_more}
use Rattle.graphql_documents.proofs.ListLemmas.{done_next}
use Rattle.graphql_documents.specs.Selections.{selections_of}
use Rattle.graphql_documents.specs.declared.documents.executables.Fragment.{Fragment}
use Rattle.graphql_documents.specs.declared.documents.executables.SelectionSet.{SelectionSet}
use Rattle.graphql_nodes.specs.declared.nodes.Node.{Node}
use Rattle.graphql_contents.specs.Contents.{AreNumbered}
use Rattle.graphql_contents.specs.Fragments.{AreSetsNumbered}
use Rattle.graphql_contents.specs.Tables.{contents_of}
use Rattle.graphql_contents.proofs.FragmentLemmas.{sets_stay}
use Rattle.graphql_contents.proofs.TableLemmas.{grows_then}
use Rattle.graphql_contents.proofs.documents.number_fragments.Goals as goal

pub loop-fragment-preserved : goal.loop-fragment-preserved
loop-fragment-preserved c =
    let before = c.loop-fragment.invariant in
    let between = contents_of c.loop-fragment.contents in
    let new = contents_of c.number_set.new.self in
    let set_in = λ (f : Node Fragment). f.value.value.selection_set in
    let f = c.in-Some.fragment.now in
    let sets = map set_in before.done in
    let e = c.in_ok-numbers.ensures in
    record {
      grows = grows_then (contents_of c.args.contents.now) between new before.grows e.grows;
      done = before.done ++ f ∷ [];
      split = sym (done_next c.into_iter-fragment-iterator.result before.done c.loop-fragment.fragment-iterator c.next.new.self f (sym before.split) c.in-Some.ensures.steps);
      numbers = subst (λ l. AreSetsNumbered new l c.push.new.self.items) (sym (map-append set_in before.done (f ∷ [])))
          (subst (AreSetsNumbered new (sets ++ set_in f ∷ [])) (sym c.in_ok-push.ensures.items)
          (all_zipped_more (λ (set : SelectionSet) ns. AreNumbered new (selections_of set) ns.items) sets c.loop-fragment.fragments.items (set_in f) c.in_ok-numbers.numbers
          (sets_stay between new e.grows sets c.loop-fragment.fragments.items before.numbers)
          (subst (λ (x : Fragment). AreNumbered new (selections_of x.selection_set) c.in_ok-numbers.numbers.items) c.deref.ensures e.numbers)));
    }
