use Rattle.std.proofs.Common.{◌≡◌, ◌+◌, ◌<◌, ◌++◌, ◌∷◌, [], Bor, List, map, sym, ◌∙◌, subst, sum_by}
use Rattle.std.proofs.lemmas.List.{append-nil, nil_from_length}
use Rattle.graphql_specification.specs.MergedSets.{Expansion, ExpandsFrom, expanded}
use Rattle.graphql_specification.specs.Merging.{FieldSelection}
use Rattle.graphql_documents.specs.declared.documents.executables.SelectionSet.{SelectionSet}
use Rattle.graphql_laws.proofs.SizeLemmas.{size_of_set}
use Rattle.graphql_merging.specs.ExpansionSteps.{expanding, fragments_in}
use Rattle.graphql_field_conflicts.specs.FieldSelections.{listed}
use Rattle.graphql_merging.specs.declared.expansion.FieldExpansion.{FieldExpansion}
use Rattle.graphql_merging.proofs.ExpansionSizeLemmas.{left, less_left, room}
use Rattle.graphql_merging.proofs.ExpansionStepLemmas.{still_expands}
use Rattle.graphql_merging.proofs.expansion.expand_selections.Goals as goal

pub loop-set-smaller : goal.loop-set-smaller
loop-set-smaller c =
    let before = c.loop-set.expansion in
    let popped : FieldExpansion = record { fragments = before.fragments; fields = before.fields; visited = before.visited; queue = c.pop_front.new.self } in
    subst (λ (q : List (Bor SelectionSet)). left (expanding c.expand_set.new.self) < sum_by size_of_set (map (λ set. set.now) q) + room (expanding before).visited before.fragments.now.entries)
    (sym c.in-Some.ensures.items) (less_left c.in-Some.set.now (expanding popped) (expanding c.expand_set.new.self) c.in_ok-expand_set.ensures)

pub loop-set-preserved : goal.loop-set-preserved
loop-set-preserved c =
    let before = c.loop-set.expansion in
    let after = c.expand_set.new.self in
    let sets = map (λ (set : Bor SelectionSet). set.now) c.args.sets.now in
    let popped : FieldExpansion = record { fragments = before.fragments; fields = before.fields; visited = before.visited; queue = c.pop_front.new.self } in
    let same = c.loop-set.invariant.fragments in
    record {
      fragments = c.in_ok-expand_set.ensures.fragments ∙ same;
      rest = subst (λ m. (more : List FieldSelection) → ExpandsFrom (fragments_in m) (expanding after).visited (expanding after).queue more → Expansion (fragments_in m) sets (listed after.fields.items ++ more)) same
          (still_expands c.in-Some.set.now (expanding popped) (expanding after) sets c.in_ok-expand_set.ensures
          (subst (λ m. (more : List FieldSelection) → ExpandsFrom (fragments_in m) (expanding before).visited (c.in-Some.set.now ∷ (expanding popped).queue) more → Expansion (fragments_in m) sets (listed before.fields.items ++ more)) (sym same)
          (subst (λ (q : List (Bor SelectionSet)). (more : List FieldSelection) → ExpandsFrom (fragments_in c.args.fragments.now) (expanding before).visited (map (λ set. set.now) q) more →
          Expansion (fragments_in c.args.fragments.now) sets (listed before.fields.items ++ more)) c.in-Some.ensures.items c.loop-set.invariant.rest)));
    }

pub returns : goal.returns
returns c =
    let before = c.loop-set.expansion in
    let none : before.queue.items ≡ [] = nil_from_length before.queue.items (sym before.queue.ok.0 ∙ c.in_default.ensures.cases.0) in
    subst (Expansion (fragments_in c.args.fragments.now) (map (λ (set : Bor SelectionSet). set.now) c.args.sets.now)) (append-nil (listed before.fields.items))
    (c.loop-set.invariant.rest [] (subst (λ (q : List (Bor SelectionSet)). ExpandsFrom (fragments_in c.args.fragments.now) (expanding before).visited (map (λ set. set.now) q) []) (sym none) expanded))
