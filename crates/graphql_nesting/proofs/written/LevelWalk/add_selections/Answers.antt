use Rattle.std.proofs.Common.{◌≡◌, ◌+◌, ◌++◌, ◌∷◌, List, Option, Some, [], ap, append_assoc, map, subst, sym, take, ◌∙◌}
use Rattle.std.specs.Prelude.{filter_map}
use Rattle.std.proofs.lemmas.List.{map-append}
use Rattle.std.proofs.lemmas.List.Elements.{filter_map-append}
use Rattle.graphql_nodes.specs.declared.nodes.Node.{Node}
use Rattle.graphql_documents.specs.Selections.{fragments_of, no_fragments}
use Rattle.graphql_documents.specs.declared.documents.executables.Fragment.{Fragment}
use Rattle.graphql_documents.specs.declared.documents.executables.SelectionSet.{SelectionSet}
use Rattle.graphql_documents.proofs.ListLemmas.{more_is}
use Rattle.graphql_nesting.specs.Nesting.{set_below}
use Rattle.graphql_nesting.specs.Written.{fragment_spread, left_of, spreads_of}
use Rattle.graphql_nesting.proofs.written.LevelWalk.add_selections.Goals as goal

-- what is made of the elements so far, and of one more
made_more : {X Y Z : Type 0} (h : X → Option Y) (f : Y → Z) (old now more : List Z) (xs all : List X) (x : X) → all ≡ xs ++ x ∷ [] →
    now ≡ old ++ map f (filter_map h xs) → more ≡ now ++ map f (filter_map h (x ∷ [])) → more ≡ old ++ map f (filter_map h all)
made_more h f old now more xs all x is was with_one =
    with_one ∙ ap (λ l. l ++ map f (filter_map h (x ∷ []))) was ∙ append_assoc old (map f (filter_map h xs)) (map f (filter_map h (x ∷ []))) ∙
    ap (λ l. old ++ l) (sym (map-append f (filter_map h xs) (filter_map h (x ∷ []))) ∙ ap (map f) (sym (filter_map-append h xs (x ∷ [])) ∙ ap (filter_map h) (sym is)))

pub loop-selection-preserved : goal.loop-selection-preserved
loop-selection-preserved c =
    let i = c.loop-selection.invariant in
    let e = c.in_ok-add_selection.ensures in
    let xs = c.deref-selection-items.result.now in
    let n = c.loop-selection.selection-index in
    let s = c.selection-item.result in
    let more : take (n + 1) xs ≡ take n xs ++ s ∷ [] = more_is xs n s c.loop-selection-test.true c.selection-item.is in
    let above = c.args.above in
    record {
      document = e.document ∙ i.document;
      levels = e.levels ∙ i.levels;
      left = made_more (set_below no_fragments) (λ (set : SelectionSet). (set, above)) (left_of c.args.self.now) (left_of c.loop-selection.self) (left_of c.add_selection.new.self)
          (take n xs) (take (n + 1) xs) s more i.left e.left;
      spreads = made_more (fragment_spread (fragments_of c.args.self.now.document.now)) (λ (d : Node Fragment). (Some d, above)) (spreads_of c.args.self.now) (spreads_of c.loop-selection.self)
          (spreads_of c.add_selection.new.self) (take n xs) (take (n + 1) xs) s more i.spreads
          (subst (λ (f : _). spreads_of c.add_selection.new.self ≡ spreads_of c.loop-selection.self ++ map (λ (d : Node Fragment). (Some d, above)) (filter_map (fragment_spread (fragments_of f.now)) (s ∷ [])))
          i.document e.spreads);
    }
