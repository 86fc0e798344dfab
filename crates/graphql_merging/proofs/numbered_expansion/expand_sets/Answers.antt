use Rattle.std.proofs.Common.{◌≡◌, ◌+◌, ◌<◌, ◌≤◌, ◌++◌, ◌∷◌, [], All, List, ap, arith, length, map, sym, ◌∙◌, subst, sum_by}
use Rattle.std.proofs.lemmas.List.{append-nil, nil_from_length}
use Rattle.std.proofs.lemmas.List.Elements.{All-head, All-tail}
use Rattle.graphql_contents.specs.Documents.{HasFragments, IsNumberedSet, contents_in, document_in}
use Rattle.graphql_contents.specs.declared.documents.NumberedSet.{NumberedSet}
use Rattle.graphql_specification.specs.MergedSets.{Expansion, ExpandsFrom, expanded}
use Rattle.graphql_specification.specs.Merging.{FieldSelection}
use Rattle.graphql_documents.specs.Selections.{fragments_of, selections_of}
use Rattle.graphql_laws.proofs.SizeLemmas.{size_of_set}
use Rattle.graphql_merging.specs.NumberedExpansions.{HasNumbers, expanding}
use Rattle.graphql_merging.specs.NumberedFields.{listed}
use Rattle.graphql_merging.specs.declared.numbered_expansion.NumberedExpansion.{NumberedExpansion}
use Rattle.graphql_merging.proofs.ExpansionCountLemmas.{grows}
use Rattle.graphql_merging.proofs.ExpansionSizeLemmas.{left, less_left, room}
use Rattle.graphql_merging.proofs.ExpansionStepLemmas.{still_expands}
use Rattle.graphql_merging.proofs.numbered_expansion.expand_sets.Goals as goal

pub expand_set-requires-clause-fragments : goal.expand_set-requires-clause-fragments
expand_set-requires-clause-fragments g c = subst HasFragments (sym c.loop-set.invariant.document) c.requires.fragments

pub expand_set-requires-clause-numbers : goal.expand_set-requires-clause-numbers
expand_set-requires-clause-numbers g c =
    let contents = contents_in c.loop-set.expansion.numbered.now in
    let held : HasNumbers contents c.loop-set.expansion = subst (λ m. HasNumbers (contents_in m) c.loop-set.expansion) (sym c.loop-set.invariant.document) c.loop-set.invariant.numbers in
    record {
      fields = held.fields;
      queue = All-tail (IsNumberedSet contents) c.in-Some.set c.pop_front.new.self.items (subst (All (IsNumberedSet contents)) c.in-Some.ensures.items held.queue);
    }

pub expand_set-requires-clause-set : goal.expand_set-requires-clause-set
expand_set-requires-clause-set g c =
    let contents = contents_in c.loop-set.expansion.numbered.now in
    let held : HasNumbers contents c.loop-set.expansion = subst (λ m. HasNumbers (contents_in m) c.loop-set.expansion) (sym c.loop-set.invariant.document) c.loop-set.invariant.numbers in
    All-head (IsNumberedSet contents) c.in-Some.set c.pop_front.new.self.items (subst (All (IsNumberedSet contents)) c.in-Some.ensures.items held.queue)

pub loop-set-smaller : goal.loop-set-smaller
loop-set-smaller g c =
    let before = c.loop-set.expansion in
    let popped : NumberedExpansion = record { numbered = before.numbered; fields = before.fields; visited = before.visited; queue = c.pop_front.new.self } in
    subst (λ (q : List NumberedSet). left (expanding c.expand_set.new.self) < sum_by size_of_set (map (λ set. set.set.now) q) + room (expanding before).visited (document_in before.numbered.now).fragments.entries)
    (sym c.in-Some.ensures.items) (less_left c.in-Some.set.set.now (expanding popped) (expanding c.expand_set.new.self) c.in_ok-expand_set.ensures.expands)

pub loop-set-preserved : goal.loop-set-preserved
loop-set-preserved g c =
    let before = c.loop-set.expansion in
    let after = c.expand_set.new.self in
    let sets = map (λ (set : NumberedSet). set.set.now) c.args.sets.items in
    let popped : NumberedExpansion = record { numbered = before.numbered; fields = before.fields; visited = before.visited; queue = c.pop_front.new.self } in
    let same = c.loop-set.invariant.document in
    let e = c.in_ok-expand_set.ensures in
    record {
      document = ap (λ n. n.now) e.document ∙ same;
      rest = subst (λ m. (more : List FieldSelection) → ExpandsFrom (fragments_of (document_in m)) (expanding after).visited (expanding after).queue more →
          Expansion (fragments_of (document_in m)) sets (listed after.fields.items ++ more)) same
          (still_expands c.in-Some.set.set.now (expanding popped) (expanding after) sets e.expands
          (subst (λ m. (more : List FieldSelection) → ExpandsFrom (fragments_of (document_in m)) (expanding before).visited (c.in-Some.set.set.now ∷ (expanding popped).queue) more →
          Expansion (fragments_of (document_in m)) sets (listed before.fields.items ++ more)) (sym same)
          (subst (λ (q : List NumberedSet). (more : List FieldSelection) → ExpandsFrom (fragments_of (document_in c.args.numbered.now)) (expanding before).visited (map (λ set. set.set.now) q) more →
          Expansion (fragments_of (document_in c.args.numbered.now)) sets (listed before.fields.items ++ more)) c.in-Some.ensures.items c.loop-set.invariant.rest)));
      numbers = subst (λ m. HasNumbers (contents_in m) after) same e.numbers;
      unbounded = λ before. (c.count.ensures.unbounded (c.loop-set.invariant.unbounded before)).0;
      cost = λ bounded.
          let paid = c.loop-set.invariant.cost bounded in
          let spent = c.in_ok-count.ensures.spends paid.0 in
          let n = length (selections_of c.in-Some.set.set.now) in
          let ticked : c.take.new.self ≡ c.loop-set.steps + 1 = c.take.ensures in
          let walked : c.expand_set.new.steps ≤ c.take.new.self + n = c.expand_set.ensures.steps in
          let many : c.len.result ≡ n = c.len.ensures ∙ c.in-Some.set.set.now.selections.ok.0 in
          (spent.0, omega (arith, paid.1, spent.1, grows popped after c.in-Some.set.set.now.ty (selections_of c.in-Some.set.set.now) e.expands, ap length c.in-Some.ensures.items, ticked, walked, many));
    }

pub returns-clause-fields : goal.returns-clause-fields
returns-clause-fields g c =
    let before = c.loop-set.expansion in
    let F = fragments_of (document_in c.args.numbered.now) in
    let none : before.queue.items ≡ [] = nil_from_length before.queue.items (sym before.queue.ok.0 ∙ c.in_default.ensures.cases.0) in
    subst (Expansion F (map (λ (set : NumberedSet). set.set.now) c.args.sets.items)) (append-nil (listed before.fields.items))
    (c.loop-set.invariant.rest [] (subst (λ (q : List NumberedSet). ExpandsFrom F (expanding before).visited (map (λ set. set.set.now) q) []) (sym none) expanded))

pub returns-clause-numbers : goal.returns-clause-numbers
returns-clause-numbers g c = c.loop-set.invariant.numbers.fields
