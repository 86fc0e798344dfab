use Rattle.std.proofs.Common.{◌≡◌, ◌<◌, ◌≤◌, ◌++◌, ◌∷◌, [], All, arith, ap, drop, length, subst, sum_by, sym, ◌∙◌, ◌+◌, suc}
use Rattle.std.specs.Prelude.{Some, filter_map, slice_get}
use Rattle.std.specs.Borrow.{Bor}
use Rattle.graphql_documents.specs.Selections.{selections_of}
use Rattle.graphql_documents.specs.declared.documents.executables.SelectionSet.{SelectionSet}
use Rattle.graphql_merging.specs.ExpansionSteps.{fragments_in}
use Rattle.graphql_pair_merging.specs.NumberedSets.{AreArgumentsNumbered, Describes, operation_sets, sets_among, sets_at, written_set}
use Rattle.graphql_pair_merging.specs.declared.numbered_sets.NumberedSet.{NumberedSet}
use Rattle.graphql_value_numbers.specs.Tables.{shapes_of}
use Rattle.std.proofs.lemmas.List.Elements.{All-nil}
use Rattle.graphql_pair_merging.proofs.ArgumentNumberLemmas.{set_numbered}
use Rattle.graphql_pair_merging.proofs.NumberingLemmas.{Describing, describing_begins, describing_ends, describing_on, length_of_sets, lighter, read_at, left_at}
use Rattle.graphql_pair_merging.specs.DocumentSizes.{size_of_set}
use Rattle.std.proofs.lemmas.List.{length-append, length-map}
use Rattle.std.proofs.lemmas.List.Sums.{sum_by-append}
use Rattle.graphql_pair_merging.proofs.SizeOfSetLemmas.{no_larger}
use Rattle.graphql_pair_merging.proofs.numbered_sets.number_sets.Goals as goal

pub loop-alloc-init : goal.loop-alloc-init
loop-alloc-init g c =
    let first = operation_sets c.args.operations.now in
    let sets = sets_at c.number_operations.new.self.sets.items in
    let fragments = sets_among c.args.fragments.now in
    let none : length c.new-numbered.result.items ≡ 0 = ap length c.new-numbered.ensures.items in
    let all : sum_by size_of_set (drop (length c.new-numbered.result.items) sets) ≡ sum_by size_of_set fragments + sum_by size_of_set first =
    ap (λ n. sum_by size_of_set (drop n sets)) none ∙ ap (sum_by size_of_set) (c.in_ok-starts.ensures.sets ∙ ap (λ l. l ++ first) c.in_ok-numbering.ensures.sets) ∙
    sum_by-append size_of_set fragments first in
    record {
      fragments = ap (λ (f : _). f.now) c.in_ok-starts.ensures.fragments ∙ c.in_ok-numbering.ensures.fragments;
      describing = subst (λ l. Describing c.args.fragments.now c.in_ok-starts.starts.items first sets l) (sym c.new-numbered.ensures.items)
          (describing_begins c.args.fragments.now c.in_ok-starts.starts.items first sets first
          (c.in_ok-starts.ensures.sets ∙ ap (λ l. l ++ first) c.in_ok-numbering.ensures.sets) c.in_ok-starts.ensures.numbers);
      arguments = subst (All (λ x. AreArgumentsNumbered (shapes_of c.number_operations.new.self.values) x.fields.items)) (sym c.new-numbered.ensures.items)
          (All-nil (λ (x : NumberedSet). AreArgumentsNumbered (shapes_of c.number_operations.new.self.values) x.fields.items));
      count = omega (arith, all, none);
      cost = omega (arith, all, none, c.begin.ensures.cost, c.number_operations.ensures.cost, no_larger fragments, no_larger first, length-map c.args.operations.now (λ (o : _). o.now.value.value.selection_set));
    }

pub describe-requires : goal.describe-requires
describe-requires g c =
    let i = c.loop-alloc.invariant in
    (i.describing.begins.0, i.describing.begins.1 ∙ ap (λ (f : _). sets_among f ++ i.describing.begins.0) (sym i.fragments))

pub loop-alloc-smaller : goal.loop-alloc-smaller
loop-alloc-smaller g c =
    let items = c.loop-alloc.numbering.sets.items in
    let numbered = c.loop-alloc.numbered.items in
    let set = c.index-set.result.now in
    let count : c.len-in-loop-alloc-2.result ≡ length numbered = c.len-in-loop-alloc-2.ensures ∙ c.loop-alloc.numbered.ok.0 in
    let within : c.len-in-loop-alloc-2.result < length items =
    omega (arith, c.loop-alloc-test.true, c.len.ensures, c.len-in-loop-alloc.ensures, c.len-in-loop-alloc-2.ensures, c.loop-alloc.numbering.sets.ok.0) in
    let at = read_at items c.len-in-loop-alloc-2.result (length numbered) set count within c.index-set.ensures in
    let pushed : c.push.new.self.items ≡ numbered ++ c.in_ok-described.described ∷ [] = c.in_ok-push.ensures.items in
    subst (λ l. sum_by size_of_set (drop (length l) (sets_at c.describe.new.self.sets.items)) < sum_by size_of_set (drop (length numbered) (sets_at items))) (sym pushed)
    (let less = lighter (sets_at items) (sets_at c.describe.new.self.sets.items) numbered c.in_ok-described.described set.now at c.in_ok-described.ensures.sets in omega (arith, less))

pub loop-alloc-preserved : goal.loop-alloc-preserved
loop-alloc-preserved g c =
    let i = c.loop-alloc.invariant in
    let e = c.in_ok-described.ensures in
    let items = c.loop-alloc.numbering.sets.items in
    let numbered = c.loop-alloc.numbered.items in
    let set = c.index-set.result.now in
    let x = c.in_ok-described.described in
    let after = sets_at c.describe.new.self.sets.items in
    let count : c.len-in-loop-alloc-2.result ≡ length numbered = c.len-in-loop-alloc-2.ensures ∙ c.loop-alloc.numbered.ok.0 in
    let within : c.len-in-loop-alloc-2.result < length items =
    omega (arith, c.loop-alloc-test.true, c.len.ensures, c.len-in-loop-alloc.ensures, c.len-in-loop-alloc-2.ensures, c.loop-alloc.numbering.sets.ok.0) in
    let at = read_at items c.len-in-loop-alloc-2.result (length numbered) set count within c.index-set.ensures in
    let pushed : c.push.new.self.items ≡ numbered ++ x ∷ [] = c.in_ok-push.ensures.items in
    let F = fragments_in c.args.fragments.now in
    let longer : length c.push.new.self.items ≡ length numbered + 1 = ap length pushed ∙ length-append numbered (x ∷ []) in
    let less : sum_by size_of_set (drop (length c.push.new.self.items) after) + suc (length (selections_of set.now)) ≡ sum_by size_of_set (drop (length numbered) (sets_at items)) =
    ap (λ l. sum_by size_of_set (drop (length l) after) + suc (length (selections_of set.now))) pushed ∙ lighter (sets_at items) after numbered x set.now at e.sets in
    record {
      fragments = ap (λ (f : _). f.now) e.fragments ∙ i.fragments;
      describing = subst (λ l. Describing c.args.fragments.now c.in_ok-starts.starts.items (operation_sets c.args.operations.now) after l) (sym pushed)
          (describing_on c.args.fragments.now c.in_ok-starts.starts.items (operation_sets c.args.operations.now) (sets_at items) after numbered x
          (subst (λ (r : Bor SelectionSet). slice_get (sets_at items) (length numbered) ≡ Some r.now) (sym e.set) at)
          (subst (λ (r : Bor SelectionSet). after ≡ sets_at items ++ filter_map written_set (selections_of r.now)) (sym e.set) e.sets)
          (subst (λ (r : Bor SelectionSet). Describes F after r.now.ty (selections_of r.now) x) (sym e.set)
          (subst (λ f. Describes (fragments_in f) after set.now.ty (selections_of set.now) x) i.fragments e.described))
          i.describing);
      arguments = set_numbered (shapes_of c.loop-alloc.numbering.values) (shapes_of c.describe.new.self.values) e.grows numbered c.push.new.self.items x pushed e.arguments i.arguments;
      count = omega (arith, i.count, less, longer);
      cost = omega (arith, i.cost, less, c.take.ensures, c.describe.ensures.cost);
    }

pub returns-clause-arguments : goal.returns-clause-arguments
returns-clause-arguments g c = record { shapes = shapes_of c.loop-alloc.numbering.values; each = c.loop-alloc.invariant.arguments }

pub returns-clause-sets : goal.returns-clause-sets
returns-clause-sets g c =
    let items = c.loop-alloc.numbering.sets.items in
    let numbered = c.loop-alloc.numbered.items in
    let all : length (sets_at items) ≤ length numbered =
    omega (arith, length_of_sets items, c.loop-alloc-test.false, c.len.ensures, c.len-in-loop-alloc.ensures, c.loop-alloc.numbering.sets.ok.0, c.loop-alloc.numbered.ok.0) in
    describing_ends c.args.fragments.now c.in_ok-starts.starts.items (operation_sets c.args.operations.now) (sets_at items) numbered all c.loop-alloc.invariant.describing

pub returns-clause-count : goal.returns-clause-count
returns-clause-count g c = omega (arith, c.loop-alloc.invariant.count)

pub returns-clause-starts : goal.returns-clause-starts
returns-clause-starts g c =
    let first = operation_sets c.args.operations.now in
    let starts = c.in_ok-starts.starts.items in
    let many : length starts ≡ length first =
    sym (length-map starts (slice_get (sets_at c.number_operations.new.self.sets.items))) ∙ ap length c.in_ok-starts.ensures.numbers ∙ length-map first (λ set. Some set) in
    omega (arith, many, no_larger first)

pub returns-in_err-numbering-clause-cost : goal.returns-in_err-numbering-clause-cost
returns-in_err-numbering-clause-cost g c = omega (arith, c.begin.ensures.cost, no_larger (sets_among c.args.fragments.now))

pub returns-in_err-starts-clause-cost : goal.returns-in_err-starts-clause-cost
returns-in_err-starts-clause-cost g c =
    let first = operation_sets c.args.operations.now in
    omega (
      arith,
      c.begin.ensures.cost,
      c.number_operations.ensures.cost,
      no_larger (sets_among c.args.fragments.now),
      no_larger first,
      length-map c.args.operations.now (λ (o : _). o.now.value.value.selection_set),
    )

pub returns-in_err-described-clause-cost : goal.returns-in_err-described-clause-cost
returns-in_err-described-clause-cost g c =
    let items = c.loop-alloc.numbering.sets.items in
    let numbered = c.loop-alloc.numbered.items in
    let set = c.index-set.result.now in
    let count : c.len-in-loop-alloc-2.result ≡ length numbered = c.len-in-loop-alloc-2.ensures ∙ c.loop-alloc.numbered.ok.0 in
    let within : c.len-in-loop-alloc-2.result < length items =
    omega (arith, c.loop-alloc-test.true, c.len.ensures, c.len-in-loop-alloc.ensures, c.len-in-loop-alloc-2.ensures, c.loop-alloc.numbering.sets.ok.0) in
    let at = read_at items c.len-in-loop-alloc-2.result (length numbered) set count within c.index-set.ensures in
    omega (arith, c.loop-alloc.invariant.cost, c.take.ensures, c.describe.ensures.cost, left_at (sets_at items) (length numbered) set.now at)

pub returns-in_err-push-clause-cost : goal.returns-in_err-push-clause-cost
returns-in_err-push-clause-cost g c =
    let items = c.loop-alloc.numbering.sets.items in
    let numbered = c.loop-alloc.numbered.items in
    let set = c.index-set.result.now in
    let count : c.len-in-loop-alloc-2.result ≡ length numbered = c.len-in-loop-alloc-2.ensures ∙ c.loop-alloc.numbered.ok.0 in
    let within : c.len-in-loop-alloc-2.result < length items =
    omega (arith, c.loop-alloc-test.true, c.len.ensures, c.len-in-loop-alloc.ensures, c.len-in-loop-alloc-2.ensures, c.loop-alloc.numbering.sets.ok.0) in
    let at = read_at items c.len-in-loop-alloc-2.result (length numbered) set count within c.index-set.ensures in
    omega (arith, c.loop-alloc.invariant.cost, c.take.ensures, c.describe.ensures.cost, left_at (sets_at items) (length numbered) set.now at)
