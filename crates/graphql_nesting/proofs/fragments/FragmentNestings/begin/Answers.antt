use Rattle.std.proofs.Common.{◌≡◌, ◌++◌, ◌∷◌, [], All, ap, append_assoc, arith, length, map, refl, subst, sym, ◌∙◌}
use Rattle.std.proofs.lemmas.List.{length-append, map-append}
use Rattle.std.proofs.lemmas.List.Elements.{All-append}
use Rattle.graphql_nodes.specs.declared.nodes.Node.{Node}
use Rattle.graphql_documents.specs.declared.documents.executables.Fragment.{Fragment}
use Rattle.graphql_nesting.specs.Spreads.{NothingKnown}
use Rattle.graphql_nesting.specs.Written.{AreWrittenLevels}
use Rattle.graphql_nesting.specs.declared.fragments.FragmentNesting.{FragmentNesting}
use Rattle.graphql_nesting.specs.declared.spreads.FragmentLevels.{FragmentLevels}
use Rattle.graphql_nesting.specs.declared.spreads.FragmentLevels.TheVariants.{Awaited}
use Rattle.graphql_nesting.proofs.CheckLemmas.{one_of_one}
use Rattle.graphql_nesting.proofs.fragments.FragmentNestings.begin.Goals as goal

abbrev node_of : FragmentNesting → Node Fragment
node_of x = x.fragment.now

pub loop-fragment-preserved : goal.loop-fragment-preserved
loop-fragment-preserved c =
    let i = c.loop-fragment.invariant in
    let document = c.args.document.now in
    let old = c.loop-fragment.fragments.items in
    let known = c.loop-fragment.known.items in
    let d = c.in-Some.fragment.now in
    let rest = c.next.new.self in
    let next : c.loop-fragment.fragment-iterator ≡ d ∷ rest = c.in-Some.ensures.steps in
    let x : FragmentNesting = record { fragment = c.in-Some.fragment; written = c.in_ok-written.written } in
    let levels : FragmentLevels = Awaited c.new.result in
    let P = λ (x : FragmentNesting). AreWrittenLevels document x.fragment.now.value.value.selection_set x.written in
    let pushed : c.push.new.self.items ≡ old ++ x ∷ [] = c.in_ok-push.ensures.items in
    let pushed_levels : c.push-in-loop-fragment.new.self.items ≡ known ++ levels ∷ [] = c.in_ok-push-2.ensures.items in
    let here : P x = subst (λ (f : Fragment). AreWrittenLevels document f.selection_set c.in_ok-written.written) c.deref.ensures c.in_ok-written.ensures in
    record {
      all = ap (λ l. map node_of l ++ rest) pushed ∙ ap (λ l. l ++ rest) (map-append node_of old (x ∷ [])) ∙ append_assoc (map node_of old) (d ∷ []) rest ∙
          ap (λ l. map node_of old ++ l) (sym next) ∙ i.all;
      written = subst (All P) (sym pushed) (All-append P old (x ∷ []) i.written (one_of_one P x here));
      count = omega (arith, i.count, ap length pushed, ap length pushed_levels, length-append old (x ∷ []), length-append known (levels ∷ []));
      awaited = subst (All NothingKnown) (sym pushed_levels)
          (All-append NothingKnown known (levels ∷ []) i.awaited (one_of_one NothingKnown levels (record { unknown = refl; free = c.new.ensures.items })));
    }
