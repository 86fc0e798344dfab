use Rattle.std.proofs.Common.{◌≡◌, ◌+◌, ◌∷◌, ◌++◌, [], ap, append_assoc, subst, sym, take, ◌∙◌, arith}
use Rattle.std.specs.Prelude.{filter_map}
use Rattle.std.proofs.lemmas.List.{take_all}
use Rattle.std.proofs.lemmas.List.Elements.{filter_map-append}
use Rattle.graphql_documents.proofs.ListLemmas.{more_is}
use Rattle.graphql_merging.specs.ExpansionSteps.{fragments_in}
use Rattle.graphql_pair_merging.specs.NumberedSets.{Describes, sets_among, sets_at, written_set}
use Rattle.graphql_value_numbers.specs.Tables.{shapes_of}
use Rattle.graphql_value_numbers.proofs.NumberLaws.{grows_then}
use Rattle.graphql_pair_merging.proofs.numbered_sets.Numbering.describe.Goals as goal

pub add_selection-requires : goal.add_selection-requires
add_selection-requires g c =
    let i = c.loop-selection.invariant in
    let written = filter_map written_set (take c.loop-selection.selection-index c.deref-selection-items.result.now) in (
      c.requires.0 ++ written,
      i.sets ∙ ap (λ l. l ++ written) c.requires.1 ∙ append_assoc (sets_among c.args.self.now.fragments.now) c.requires.0 written ∙
          ap (λ (f : _). sets_among f.now ++ (c.requires.0 ++ written)) (sym i.fragments),
    )

pub loop-selection-preserved : goal.loop-selection-preserved
loop-selection-preserved g c =
    let i = c.loop-selection.invariant in
    let e = c.in_ok-add_selection.ensures in
    let xs = c.deref-selection-items.result.now in
    let n = c.loop-selection.selection-index in
    let s = c.selection-item.result in
    let more : take (n + 1) xs ≡ take n xs ++ s ∷ [] = more_is xs n s c.loop-selection-test.true c.selection-item.is in
    let done = take n xs in
    let sets = sets_at c.args.self.now.sets.items in
    let old = c.loop-selection.described in
    let new = c.add_selection.new.described in
    let known = sets_at c.loop-selection.self.sets.items in
    let after = sets_at c.add_selection.new.self.sets.items in
    let before : Describes (fragments_in c.loop-selection.self.fragments.now) known old.set.now.ty done old =
    subst (λ f. Describes (fragments_in f.now) known old.set.now.ty done old) (sym i.fragments)
    (subst (λ r. Describes (fragments_in c.args.self.now.fragments.now) known r.now.ty done old) (sym i.set) i.described) in
    let described : Describes (fragments_in c.loop-selection.self.fragments.now) after old.set.now.ty (done ++ s ∷ []) new = e.described done before in
    record {
      fragments = e.fragments ∙ i.fragments;
      set = e.set ∙ i.set;
      sets = e.sets ∙ ap (λ l. l ++ filter_map written_set (s ∷ [])) i.sets ∙ append_assoc sets (filter_map written_set done) (filter_map written_set (s ∷ [])) ∙
          ap (λ l. sets ++ l) (sym (filter_map-append written_set done (s ∷ [])) ∙ ap (filter_map written_set) (sym more));
      described = subst (λ l. Describes (fragments_in c.args.self.now.fragments.now) after c.args.set.now.ty l new) (sym more)
          (subst (λ r. Describes (fragments_in c.args.self.now.fragments.now) after r.now.ty (done ++ s ∷ []) new) i.set
          (subst (λ f. Describes (fragments_in f.now) after old.set.now.ty (done ++ s ∷ []) new) i.fragments described));
      grows = grows_then (shapes_of c.args.self.now.values) (shapes_of c.loop-selection.self.values) (shapes_of c.add_selection.new.self.values) i.grows e.grows;
      arguments = e.arguments i.arguments;
      cost = omega (arith, i.cost, c.take.ensures);
    }

pub returns-clause-sets : goal.returns-clause-sets
returns-clause-sets g c =
    let i = c.loop-selection.invariant in
    let all = take_all c.loop-selection.selection-index c.deref-selection-items.result.now c.loop-selection-test.false ∙ c.deref-selection-items.ensures.value in
    i.sets ∙ ap (λ l. sets_at c.args.self.now.sets.items ++ filter_map written_set l) all

pub returns-clause-described : goal.returns-clause-described
returns-clause-described g c =
    let i = c.loop-selection.invariant in
    let all = take_all c.loop-selection.selection-index c.deref-selection-items.result.now c.loop-selection-test.false ∙ c.deref-selection-items.ensures.value in
    subst (λ l. Describes (fragments_in c.args.self.now.fragments.now) (sets_at c.loop-selection.self.sets.items) c.args.set.now.ty l c.loop-selection.described) all i.described
