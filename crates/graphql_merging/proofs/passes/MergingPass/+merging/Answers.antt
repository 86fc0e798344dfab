-- Each exit of the examination of a list, and of what is below a group.
use Rattle.std.proofs.Common.{length, ◌+◌, ◌-◌, ◌<◌, ◌∷◌, ◌≢◌, [], map, take, refl, sym, ◌∙◌, ap, subst, arith}
use Rattle.std.proofs.lemmas.List.{take_all, map-append}
use Rattle.std.specs.Prelude.{sum_by}
use Rattle.graphql_contents.specs.Documents.{contents_in, document_in}
use Rattle.graphql_contents.specs.declared.documents.NumberedSet.{NumberedSet}
use Rattle.graphql_diagnostics.specs.Diagnostics.{entries}
use Rattle.graphql_specification.specs.MergedSets.{Expansion, IsGroup, merged_below, nested_sets, merging_depth_limit, AreConflicts, comparisons_of, groups_of}
use Rattle.graphql_diagnostics.specs.Reports.{Appends}
use Rattle.graphql_documents.specs.Selections.{fragments_of}
use Rattle.graphql_diagnostics.proofs.ReportLemmas.{kept, kept_then}
use Rattle.graphql_documents.proofs.ListLemmas.{more_is}
use Rattle.graphql_guards.specs.Guards.{count_limit}
use Rattle.graphql_laws.proofs.OrderedGroupLaws.{groups_listed}
use Rattle.graphql_merging.specs.NumberedFields.{listed, lists_of}
use Rattle.graphql_merging.proofs.NumberedExaminedLemmas.{in_one_table, still_examined}
use Rattle.graphql_merging.specs.Groups.{pass_of}
use Rattle.graphql_merging.specs.Passes.{GoesBelow, IsConflict, counted}
use Rattle.graphql_merging.specs.Stages.{examined_lists, stage_of}
use Rattle.graphql_merging.proofs.PassLemmas.{below_cut, below_examined, parent_known, below_leaves, below_none, below_then, list_examined}
use Rattle.graphql_merging.specs.Works.{compared_in, weight}
use Rattle.graphql_merging.proofs.WeightLemmas.{weight_more, weight_within}
use Rattle.graphql_merging.proofs.PassStepLemmas.{conflicts_true, count_at_limit, count_below_limit, counted_groups, each_group, expansion_known, group_among, new_unknown, no_items, not_reachable, some_items}
use Rattle.graphql_laws.proofs.FieldContentsLaws.{same_fields_itself}
use Rattle.graphql_merging.proofs.passes.MergingPass.+merging.Goals as goal

pub examine-loop-group-init : goal.examine-loop-group-init
examine-loop-group-init g t c =
    let self = c.args.self.now in
    record {
      limit = refl;
      work = λ unbounded. unbounded;
      cost = λ bounded. (bounded, omega arith);
      known = still_examined (contents_in self.numbered.now) c.add.new.self c.compare_groups.new.examined c.compare_groups.ensures.lists
          (c.add.ensures.numbered (contents_in self.numbered.now) c.requires.known c.requires.list);
      below = below_none self.schema.now (fragments_of (document_in self.numbered.now)) (pass_of self.pass)
          (stage_of c.compare_groups.new.examined c.args.depth.now c.compare_groups.new.diagnostics) c.compare_groups.new.examined.small;
      truth = λ operations above merged groups.
          kept (IsConflict self.schema.now (fragments_of (document_in self.numbered.now)) operations (pass_of self.pass)) (entries c.compare_groups.new.diagnostics);
    }

pub examine-returns-in_err-examine_below-clause-truth :
    goal.examine-returns-in_err-examine_below-clause-truth
examine-returns-in_err-examine_below-clause-truth g t c operations merged =
    let self = c.args.self.now in
    let S = self.schema.now in
    let F = fragments_of (document_in self.numbered.now) in
    let pass = pass_of self.pass in
    let list = listed c.args.list.fields.items in
    let are = ap lists_of c.deref-3.ensures.value ∙ c.in_ok-groups.ensures.groups ∙ ap (λ l. groups_of S pass (listed l)) c.deref.ensures.value in
    let walked = ap lists_of c.deref-group-items.ensures.value ∙ c.in_ok-groups.ensures.groups ∙ ap (λ l. groups_of S pass (listed l)) c.deref.ensures.value in
    let all = each_group S pass list c.deref-group-items.result.now walked in
    kept_then (conflicts_true S pass list c.deref-3.result.now are F operations merged c.in_ok-compare_groups.ensures.truth)
    (kept_then (c.loop-group.invariant.truth operations list merged all)
    (c.examine_below.ensures.truth operations list merged
    (subst (λ l. IsGroup S list pass (listed l)) (sym c.deref-in-loop-group.ensures.value)
    (group_among (IsGroup S list pass) c.deref-group-items.result.now c.group-item.result all (c.loop-group.group-index, c.loop-group-test.true, sym c.group-item.is)))))

pub examine-loop-group-preserved : goal.examine-loop-group-preserved
examine-loop-group-preserved g t c =
    let self = c.args.self.now in
    let S = self.schema.now in
    let F = fragments_of (document_in self.numbered.now) in
    let pass = pass_of self.pass in
    let groups = c.deref-group-items.result.now in
    let i = c.loop-group.group-index in
    let item = c.group-item.result in
    let one = more_is groups i item c.loop-group-test.true c.group-item.is in
    record {
      limit = c.in_ok-examine_below.ensures.limit ∙ c.loop-group.invariant.limit;
      work = λ unbounded. (c.in_ok-examine_below.ensures.unbounded (c.loop-group.invariant.work unbounded)).0;
      cost = λ bounded.
          let before = c.loop-group.invariant.cost bounded in
          let paid = c.in_ok-examine_below.ensures.cost before.0 in
          (paid.0, omega (arith, before.1, c.take-in-loop-group.ensures, paid.1, ap length c.deref-in-loop-group.ensures.value, weight_more groups i item c.loop-group-test.true c.group-item.is));
      known = c.in_ok-examine_below.ensures.known;
      below = subst (λ g. GoesBelow S F pass g (stage_of c.compare_groups.new.examined c.args.depth.now c.compare_groups.new.diagnostics)
          (stage_of c.examine_below.new.examined c.examine_below.new.depth c.examine_below.new.diagnostics))
          (sym (ap lists_of one ∙ map-append (λ g. listed g.items) (take i groups) (item ∷ [])))
          (below_then S F pass (lists_of (take i groups)) (listed item.items ∷ []) c.loop-group.invariant.below
          (subst (λ l. GoesBelow S F pass (listed l ∷ []) (stage_of c.loop-group.examined c.loop-group.depth c.loop-group.diagnostics)
          (stage_of c.examine_below.new.examined c.examine_below.new.depth c.examine_below.new.diagnostics)) c.deref-in-loop-group.ensures.value c.in_ok-examine_below.ensures.examines));
      truth = λ operations above merged all.
          kept_then (c.loop-group.invariant.truth operations above merged all)
          (c.in_ok-examine_below.ensures.truth operations above merged
          (subst (λ l. IsGroup S above pass (listed l)) (sym c.deref-in-loop-group.ensures.value)
          (group_among (IsGroup S above pass) groups item all (i, c.loop-group-test.true, sym c.group-item.is))));
    }

pub examine-returns-in_err-examine_below-clause-cost : goal.examine-returns-in_err-examine_below-clause-cost
examine-returns-in_err-examine_below-clause-cost g t c bounded =
    let groups = c.deref-group-items.result.now in
    let i = c.loop-group.group-index in
    let made = c.in_ok-groups.ensures.spare bounded in
    let counted = c.in_ok-count_arguments.ensures.spends made.0 in
    let before = c.loop-group.invariant.cost counted.0 in
    let paid = c.examine_below.ensures.cost before.0 in (
      paid.0,
      omega (
        arith,
        made.1,
        c.take.ensures,
        c.len.ensures ∙ c.args.list.fields.ok.0,
        counted.1,
        c.count_arguments.ensures.steps,
        c.compare_groups.ensures.steps,
        before.1,
        c.take-in-loop-group.ensures,
        paid.1,
        ap length c.deref.ensures.value,
        ap (λ l. weight (lists_of l)) c.deref-2.ensures.value,
        ap (λ l. weight (lists_of l)) c.deref-3.ensures.value,
        ap (λ l. sum_by (compared_in c.args.self.now.pass) (lists_of l)) c.deref-2.ensures.value,
        ap (λ l. sum_by (compared_in c.args.self.now.pass) (lists_of l)) c.deref-3.ensures.value,
        ap (λ l. weight (lists_of l)) c.deref-group-items.ensures.value,
        ap length c.deref-in-loop-group.ensures.value,
        weight_more groups i c.group-item.result c.loop-group-test.true c.group-item.is,
        weight_within groups (i + 1),
      ),
    )

pub examine-returns-clause-cost : goal.examine-returns-clause-cost
examine-returns-clause-cost g t c bounded =
    let made = c.in_ok-groups.ensures.spare bounded in
    let counted = c.in_ok-count_arguments.ensures.spends made.0 in
    let below = c.loop-group.invariant.cost counted.0 in (
      below.0,
      omega (
        arith,
        made.1,
        c.take.ensures,
        c.len.ensures ∙ c.args.list.fields.ok.0,
        counted.1,
        c.count_arguments.ensures.steps,
        c.compare_groups.ensures.steps,
        below.1,
        ap length c.deref.ensures.value,
        ap (λ l. weight (lists_of l)) c.deref-2.ensures.value,
        ap (λ l. weight (lists_of l)) c.deref-3.ensures.value,
        ap (λ l. sum_by (compared_in c.args.self.now.pass) (lists_of l)) c.deref-2.ensures.value,
        ap (λ l. sum_by (compared_in c.args.self.now.pass) (lists_of l)) c.deref-3.ensures.value,
        ap (λ l. weight (lists_of l)) c.deref-group-items.ensures.value,
        weight_within c.deref-group-items.result.now c.loop-group.group-index,
      ),
    )

pub examine-returns-clause-examines : goal.examine-returns-clause-examines
examine-returns-clause-examines g t c =
    let self = c.args.self.now in
    let S = self.schema.now in
    let F = fragments_of (document_in self.numbered.now) in
    let pass = pass_of self.pass in
    let list = listed c.args.list.fields.items in
    let old = stage_of c.args.examined.now c.args.depth.now c.args.diagnostics.now in
    let mid = stage_of c.compare_groups.new.examined c.args.depth.now c.compare_groups.new.diagnostics in
    let new = stage_of c.loop-group.examined c.loop-group.depth c.loop-group.diagnostics in
    let are = ap lists_of c.deref-3.ensures.value ∙ c.in_ok-groups.ensures.groups ∙ ap (λ l. groups_of S pass (listed l)) c.deref.ensures.value in
    let walked = ap lists_of c.deref-group-items.ensures.value ∙ c.in_ok-groups.ensures.groups ∙ ap (λ l. groups_of S pass (listed l)) c.deref.ensures.value in
    list_examined S F pass (λ fields group. groups_listed S fields pass group) list old mid new c.requires.is_new
    (ap (λ (l : _). lists_of (map (λ list. list.fields) l.keys)) c.in_ok-compare_groups.ensures.lists ∙ c.in_ok-add.ensures.lists)
    (c.in_ok-compare_groups.ensures.comparisons ∙ ap (λ g. counted pass c.add.new.self.comparisons (sum_by (λ group. length group - 1) g)) are ∙
    counted_groups S pass list c.add.new.self.comparisons ∙ ap (λ n. counted pass n (comparisons_of list)) c.in_ok-add.ensures.comparisons)
    refl refl
    (subst (λ g. Appends (AreConflicts S pass g) old.reports mid.reports) are c.in_ok-compare_groups.ensures.conflicts)
    (subst (λ g. GoesBelow S F pass g mid new) (ap lists_of (take_all c.loop-group.group-index c.deref-group-items.result.now c.loop-group-test.false) ∙ walked) c.loop-group.invariant.below)

pub examine-returns-clause-truth : goal.examine-returns-clause-truth
examine-returns-clause-truth g t c operations merged =
    let self = c.args.self.now in
    let S = self.schema.now in
    let F = fragments_of (document_in self.numbered.now) in
    let pass = pass_of self.pass in
    let list = listed c.args.list.fields.items in
    let are = ap lists_of c.deref-3.ensures.value ∙ c.in_ok-groups.ensures.groups ∙ ap (λ l. groups_of S pass (listed l)) c.deref.ensures.value in
    let walked = ap lists_of c.deref-group-items.ensures.value ∙ c.in_ok-groups.ensures.groups ∙ ap (λ l. groups_of S pass (listed l)) c.deref.ensures.value in
    kept_then (conflicts_true S pass list c.deref-3.result.now are F operations merged c.in_ok-compare_groups.ensures.truth)
    (c.loop-group.invariant.truth operations list merged (each_group S pass list c.deref-group-items.result.now walked))

pub examine_below-returns-then-is_empty-clause-examines :
    goal.examine_below-returns-then-is_empty-clause-examines
examine_below-returns-then-is_empty-clause-examines g t c =
    let self = c.args.self.now in
    let empty = no_items c.in_ok-sets.sets c.is_empty.result c.is_empty.ensures c.if-is_empty.true in
    below_leaves self.schema.now (fragments_of (document_in self.numbered.now)) (pass_of self.pass) (listed c.args.group.now) (stage_of c.args.examined.now c.args.depth.now c.args.diagnostics.now)
    c.args.examined.now.small (sym c.in_ok-sets.ensures.sets ∙ ap (map (λ (set : NumberedSet). set.set.now)) empty)

pub examine_below-returns-then-knows-clause-examines :
    goal.examine_below-returns-then-knows-clause-examines
examine_below-returns-then-knows-clause-examines g t c =
    let self = c.args.self.now in
    let F = fragments_of (document_in self.numbered.now) in
    let group = listed c.args.group.now in
    let stage = stage_of c.args.examined.now c.args.depth.now c.args.diagnostics.now in
    let sets = c.in_ok-sets.ensures.sets in
    parent_known self.schema.now F (pass_of self.pass) group stage c.args.examined.now.small
    (expansion_known F stage.lists (nested_sets group) (listed c.in_ok-list.list.fields.items) (subst (λ s. Expansion F s (listed c.in_ok-list.list.fields.items)) sets c.in_ok-list.ensures.fields)
    (c.knows.ensures.0 c.if-knows.true))

pub examine_below-returns-then-check_and_increment-clause-examines : goal.examine_below-returns-then-check_and_increment-clause-examines
examine_below-returns-then-check_and_increment-clause-examines g t c =
    let self = c.args.self.now in
    let F = fragments_of (document_in self.numbered.now) in
    let group = listed c.args.group.now in
    let list = listed c.in_ok-list.list.fields.items in
    let old = stage_of c.args.examined.now c.args.depth.now c.args.diagnostics.now in
    let new = stage_of c.args.examined.now c.check_and_increment.new.self c.args.diagnostics.now in
    let at = count_at_limit c.check_and_increment.result old.depth new.depth (count_limit c.args.depth.now) old.highest new.highest
    c.check_and_increment.ensures.count c.check_and_increment.ensures.high c.if-check_and_increment.true in
    let sets = c.in_ok-sets.ensures.sets in
    below_cut self.schema.now F (pass_of self.pass) group list old new c.args.examined.now.small
    (subst (λ n. n ≢ []) c.in_ok-sets.ensures.sets (some_items (λ (set : NumberedSet). set.set.now) c.in_ok-sets.sets c.is_empty.result c.is_empty.ensures c.if-is_empty.false)) (subst (λ s. Expansion F s list) sets c.in_ok-list.ensures.fields) (new_unknown old.lists list (λ any. let known = c.knows.ensures.1 any in let no : ⊥ = cc in no))
    (c.check_and_increment.ensures.reachable.0 c.if-check_and_increment.true ∙ c.requires.limit) refl refl at.0 (at.1 ∙ ap (λ n. n + 1) c.requires.limit) refl

pub examine_below-examine-requires : goal.examine_below-examine-requires
examine_below-examine-requires g t c = λ κs outlives.
    let old = stage_of c.args.examined.now c.args.depth.now c.args.diagnostics.now in
    let down = stage_of c.args.examined.now c.check_and_increment.new.self c.args.diagnostics.now in
    let below = count_below_limit c.check_and_increment.result old.depth down.depth (count_limit c.args.depth.now) old.highest down.highest
    c.check_and_increment.ensures.count c.check_and_increment.ensures.high c.if-check_and_increment.false in
    let step = below.0 in
    let within : old.depth < merging_depth_limit = not_reachable c.check_and_increment.result old.depth (count_limit c.args.depth.now) c.check_and_increment.ensures.reachable c.if-check_and_increment.false c.args.depth.now.within c.requires.limit in (
      omega (arith, step, within, c.decreases),
      (
        outlives,
        (
          c.check_and_increment.ensures.limit ∙ c.requires.limit,
          (
            c.in_ok-list.ensures.numbers,
            (
              c.requires.known,
              new_unknown (examined_lists c.args.examined.now) (listed c.in_ok-list.list.fields.items)
                  (λ any. let known = c.knows.ensures.1 any in let no : ⊥ = cc in no),
            ),
          ),
        ),
      ),
    )

pub examine_below-returns-in_err-examine-clause-truth :
    goal.examine_below-returns-in_err-examine-clause-truth
examine_below-returns-in_err-examine-clause-truth g t c operations above merged is_group =
    let sets = c.in_ok-sets.ensures.sets in
    c.examine.ensures.truth operations (merged_below merged record {
      group = listed c.args.group.now;
      is_group = is_group;
      nested = subst (λ n. n ≢ []) c.in_ok-sets.ensures.sets (some_items (λ (set : NumberedSet). set.set.now) c.in_ok-sets.sets c.is_empty.result c.is_empty.ensures c.if-is_empty.false);
      expansion = subst (λ s. Expansion (fragments_of (document_in c.args.self.now.numbered.now)) s (listed c.in_ok-list.list.fields.items)) sets c.in_ok-list.ensures.fields;
    })

pub examine_below-returns-clause-examines : goal.examine_below-returns-clause-examines
examine_below-returns-clause-examines g t c =
    let self = c.args.self.now in
    let F = fragments_of (document_in self.numbered.now) in
    let group = listed c.args.group.now in
    let list = listed c.in_ok-list.list.fields.items in
    let old = stage_of c.args.examined.now c.args.depth.now c.args.diagnostics.now in
    let down = stage_of c.args.examined.now c.check_and_increment.new.self c.args.diagnostics.now in
    let up = stage_of c.examine.new.examined c.examine.new.depth c.examine.new.diagnostics in
    let new = stage_of c.examine.new.examined c.decrement.new.self c.examine.new.diagnostics in
    let sets = c.in_ok-sets.ensures.sets in
    let below = count_below_limit c.check_and_increment.result old.depth down.depth (count_limit c.args.depth.now) old.highest down.highest
    c.check_and_increment.ensures.count c.check_and_increment.ensures.high c.if-check_and_increment.false in
    let within = not_reachable c.check_and_increment.result old.depth (count_limit c.args.depth.now) c.check_and_increment.ensures.reachable c.if-check_and_increment.false c.args.depth.now.within c.requires.limit in
    below_examined self.schema.now F (pass_of self.pass) same_fields_itself group list old down up new
    (subst (λ n. n ≢ []) c.in_ok-sets.ensures.sets (some_items (λ (set : NumberedSet). set.set.now) c.in_ok-sets.sets c.is_empty.result c.is_empty.ensures c.if-is_empty.false)) (subst (λ s. Expansion F s list) sets c.in_ok-list.ensures.fields) within refl refl below.0 below.1 refl c.in_ok-examine.ensures.examines
    refl refl c.decrement.ensures.count c.decrement.ensures.high refl

pub examine_below-returns-clause-truth : goal.examine_below-returns-clause-truth
examine_below-returns-clause-truth g t c operations above merged is_group =
    let sets = c.in_ok-sets.ensures.sets in
    c.in_ok-examine.ensures.truth operations (merged_below merged record {
      group = listed c.args.group.now;
      is_group = is_group;
      nested = subst (λ n. n ≢ []) c.in_ok-sets.ensures.sets (some_items (λ (set : NumberedSet). set.set.now) c.in_ok-sets.sets c.is_empty.result c.is_empty.ensures c.if-is_empty.false);
      expansion = subst (λ s. Expansion (fragments_of (document_in c.args.self.now.numbered.now)) s (listed c.in_ok-list.list.fields.items)) sets c.in_ok-list.ensures.fields;
    })

pub examine_below-knows-requires : goal.examine_below-knows-requires
examine_below-knows-requires g t c =
    in_one_table c.args.self.now.numbered.now c.args.examined.now c.in_ok-list.list.fields.items c.requires.known c.in_ok-list.ensures.numbers

pub examine-add-requires-clause-numbered : goal.examine-add-requires-clause-numbered
examine-add-requires-clause-numbered g t c =
    in_one_table c.args.self.now.numbered.now c.args.examined.now c.args.list.fields.items c.requires.known c.requires.list
