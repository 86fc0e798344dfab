-- How the steps of a pass over lists of fields compose.
use Rattle.std.proofs.Common.{◌≡◌, ◌↔◌, ℕ, ◌+◌, ◌<◌, List, [], ◌∷◌, ◌++◌, length, inl, inr, refl, sym, ◌∙◌, ap, subst, All, Contains, arith}
use Rattle.std.proofs.lemmas.List.{append-nil, append_assoc}
use Rattle.std.proofs.lemmas.List.Elements.{All-nil, All-append, All-cons, All-head, All-weaker, All-contains, Contains-append_left, Contains-append_right}
use Rattle.std.proofs.lemmas.Grind.{flat_map-append}
use Rattle.std.proofs.lemmas.List.Sums.{sum_by-append, sum_by-cons}
use Rattle.std.specs.Prelude.{◌≢◌, ◌^◌, max, sum_by}
use Rattle.graphql_specification.specs.MergedSets.{Expansion, IsGroup, MergedSet, MergesBelow, merged_below, nested_sets, merging_depth_limit, merging_ends, merging_steps, ExpansionIsSeen, AreConflicts, comparisons_of, empty_group, groups_of, next_group, no_groups}
use Rattle.graphql_specification.specs.Merging.{Pass, field_pass, shape_pass, FieldSelection, SameFields}
use Rattle.graphql_diagnostics.specs.Reports.{Appends}
use Rattle.graphql_documents.specs.Selections.{Fragments}
use Rattle.graphql_diagnostics.specs.declared.lists.DiagnosticEntry.{DiagnosticEntry}
use Rattle.graphql_documents.specs.declared.documents.executables.SelectionSet.{SelectionSet}
use Rattle.graphql_documents.specs.declared.documents.schemas.Schema.{Schema}
use Rattle.graphql_documents.proofs.ListLemmas.{All-append_left, All-append_right, each_standing, stands_first}
use Rattle.graphql_diagnostics.proofs.ReportLemmas.{appended_then}
use Rattle.graphql_merging.specs.Passes.{AreNew, DescendsBeyond, Examines, ExaminesMore, ExaminesSet, GoesBelow, HasPassed, IsClosedIn, IsKnownBelow, IsNew, Stage, counted, next_new, no_new}

-- what is new behind some lists, and then behind those too
pub new_then : {known a b : List (List FieldSelection)} → AreNew known a → AreNew (known ++ a) b → AreNew known (a ++ b)
new_then {known} {b = b} no_new second = subst (λ l. AreNew l b) (append-nil known) second
new_then {known} {b = b} (next_new {list = list} {rest = rest} here behind) second =
    next_new here (new_then behind (subst (λ l. AreNew l b) (sym (append_assoc known (list ∷ []) rest)) second))

-- what is new behind more lists is new behind fewer
new_fewer : {known more a : List (List FieldSelection)} → ((list : List FieldSelection) → IsNew more list → IsNew known list) → AreNew more a → AreNew known a
new_fewer fewer no_new = no_new
new_fewer {known} {more} fewer (next_new {list = list} here behind) =
    next_new (fewer list here) (new_fewer (λ l is_new.
    let P = λ (k : List FieldSelection). ¬ SameFields l k in
    All-append P known (list ∷ []) (fewer l (All-append_left P more (list ∷ []) is_new)) (All-append_right P more (list ∷ []) is_new)) behind)

new_before : (known further : List (List FieldSelection)) {a : List (List FieldSelection)} → AreNew (known ++ further) a → AreNew known a
new_before known further new = new_fewer (λ list is_new. All-append_left (λ k. ¬ SameFields list k) known further is_new) new

-- the conflicts of some groups and of more are those of all
all_conflicts : {schema : Schema} {pass : Pass} {a b : List (List FieldSelection)} {xs ys : List DiagnosticEntry} →
    AreConflicts schema pass a xs → AreConflicts schema pass b ys → AreConflicts schema pass (a ++ b) (xs ++ ys)
all_conflicts no_groups second = second
all_conflicts (empty_group first) second = empty_group (all_conflicts first second)
all_conflicts {schema} {pass} {b = b} {ys = ys} (next_group {first = first} {rest = rest} {groups = groups} {here = here} {reports = reports} one more) second =
    subst (AreConflicts schema pass ((first ∷ rest) ∷ (groups ++ b))) (sym (append_assoc here reports ys)) (next_group one (all_conflicts more second))

pub conflicts_then : {schema : Schema} {pass : Pass} {a b : List (List FieldSelection)} {old mid new : List DiagnosticEntry} →
    Appends (AreConflicts schema pass a) old mid → Appends (AreConflicts schema pass b) mid new → Appends (AreConflicts schema pass (a ++ b)) old new
conflicts_then {old = old} {mid = mid} {new = new} x y = record {
  added = x.added ++ y.added;
  appended = appended_then old mid new x.added y.added x.appended y.appended;
  are = all_conflicts x.are y.are;
}

sum_of_both : (xs ys : List (List FieldSelection)) → sum_by comparisons_of (xs ++ ys) ≡ sum_by comparisons_of xs + sum_by comparisons_of ys
sum_of_both xs ys = sum_by-append comparisons_of xs ys

pub counted_then : (pass : Pass) (n a b : ℕ) → counted pass (counted pass n a) b ≡ counted pass n (a + b)
counted_then shape_pass n a b = omega arith
counted_then field_pass n a b = refl

pub counted_none : (pass : Pass) (n : ℕ) → n < 2 ^ 64 → counted pass n 0 ≡ n
counted_none shape_pass n small = omega (arith, small)
counted_none field_pass n small = refl

module _ (schema : Schema) (pass : Pass) where
  more_none : (stage : Stage) → stage.comparisons < 2 ^ 64 → ExaminesMore schema pass [] stage stage
  more_none stage small = record {
    lists_are = sym (append-nil stage.lists);
    are_new = no_new;
    reports = record { added = []; appended = sym (append-nil stage.reports); are = no_groups };
    comparisons = sym (counted_none pass stage.comparisons small);
    depth = refl;
    passed = λ passed. passed;
  }

  pub more_then : {a b : List (List FieldSelection)} {old mid new : Stage} → ExaminesMore schema pass a old mid → ExaminesMore schema pass b mid new → ExaminesMore schema pass (a ++ b) old new
  more_then {a} {b} {old} {mid} {new} x y = record {
    lists_are = appended_then old.lists mid.lists new.lists a b x.lists_are y.lists_are;
    are_new = new_then x.are_new (subst (λ l. AreNew l b) x.lists_are y.are_new);
    reports = subst (λ g. Appends (AreConflicts schema pass g) old.reports new.reports) (sym (flat_map-append (groups_of schema pass) a b)) (conflicts_then x.reports y.reports);
    comparisons = y.comparisons ∙ ap (λ n. counted pass n (sum_by comparisons_of b)) x.comparisons ∙
        counted_then pass old.comparisons (sum_by comparisons_of a) (sum_by comparisons_of b) ∙ ap (counted pass old.comparisons) (sym (sum_of_both a b));
    depth = y.depth ∙ x.depth;
    passed = λ passed. y.passed (x.passed passed);
  }

first_new : {known rest : List (List FieldSelection)} {list : List FieldSelection} → AreNew known (list ∷ rest) → IsNew known list
first_new (next_new here behind) = here

-- what is known stays known
pub seen_further : {fragments : Fragments} {known : List (List FieldSelection)} {sets : List SelectionSet} (further : List (List FieldSelection)) →
    ExpansionIsSeen fragments known sets → ExpansionIsSeen fragments (known ++ further) sets
seen_further {known = known} further e = record {
  fields = e.fields;
  known = e.known;
  expansion = e.expansion;
  is_seen = Contains-append_left known further e.known e.is_seen;
  same_fields = e.same_fields;
}

module _ (schema : Schema) (fragments : Fragments) (pass : Pass) where
  pub closed_further : (known further lists : List (List FieldSelection)) → All (IsClosedIn schema fragments pass known) lists → All (IsClosedIn schema fragments pass (known ++ further)) lists
  closed_further known further lists closed =
      All-weaker (IsClosedIn schema fragments pass known) (IsClosedIn schema fragments pass (known ++ further))
      (λ list here group is_group nested. seen_further further (here group is_group nested)) lists closed

  known_further : (known further groups : List (List FieldSelection)) → All (IsKnownBelow fragments known) groups → All (IsKnownBelow fragments (known ++ further)) groups
  known_further known further groups all =
      All-weaker (IsKnownBelow fragments known) (IsKnownBelow fragments (known ++ further)) (λ group here nested. seen_further further (here nested)) groups all

  pub below_none : (stage : Stage) → stage.comparisons < 2 ^ 64 → GoesBelow schema fragments pass [] stage stage
  below_none stage small = record {
    added = [];
    more = more_none schema pass stage small;
    merged = λ operations above merged groups. All-nil (MergedSet schema fragments operations pass);
    known = λ within. (All-nil (IsClosedIn schema fragments pass stage.lists), All-nil (IsKnownBelow fragments stage.lists));
    passes = λ passed. inl passed;
  }

  pub below_then : (a b : List (List FieldSelection)) {old mid new : Stage} → GoesBelow schema fragments pass a old mid → GoesBelow schema fragments pass b mid new → GoesBelow schema fragments pass (a ++ b) old new
  below_then a b {old} {mid} {new} x y = record {
    added = x.added ++ y.added;
    more = more_then schema pass x.more y.more;
    merged = λ operations above merged groups.
        All-append (MergedSet schema fragments operations pass) x.added y.added
        (x.merged operations above merged (All-append_left (IsGroup schema above pass) a b groups))
        (y.merged operations above merged (All-append_right (IsGroup schema above pass) a b groups));
    known = λ within. both_known (x.known (λ passed. within (over passed))) (y.known within);
    passes = λ passed. elim (y.passes passed) [
      | inl before ↦ elim (x.passes before) [
        | inl first ↦ inl first
        | inr beyond ↦ inr (λ above groups. beyond above (All-append_left (IsGroup schema above pass) a b groups))
      ]
      | inr beyond ↦ inr (λ above groups. earlier above (beyond above (All-append_right (IsGroup schema above pass) a b groups)))
    ];
  } where
    over : HasPassed mid → HasPassed new
    over passed = y.more.passed passed

    both_known : All (IsClosedIn schema fragments pass mid.lists) x.added × All (IsKnownBelow fragments mid.lists) a →
        All (IsClosedIn schema fragments pass new.lists) y.added × All (IsKnownBelow fragments new.lists) b →
        All (IsClosedIn schema fragments pass new.lists) (x.added ++ y.added) × All (IsKnownBelow fragments new.lists) (a ++ b)
    both_known first second = (
      All-append (IsClosedIn schema fragments pass new.lists) x.added y.added
          (subst (λ l. All (IsClosedIn schema fragments pass l) x.added) (sym y.more.lists_are) (closed_further mid.lists y.added x.added first.0)) second.0,
      All-append (IsKnownBelow fragments new.lists) a b
          (subst (λ l. All (IsKnownBelow fragments l) a) (sym y.more.lists_are) (known_further mid.lists y.added a first.1)) second.1,
    )

    earlier : (above : List FieldSelection) → DescendsBeyond schema fragments pass mid.lists mid.depth above → DescendsBeyond schema fragments pass old.lists old.depth above
    earlier above d = record {
      steps = d.steps;
      descent = d.descent;
      are_new = new_before old.lists x.added (subst (λ l. AreNew l d.steps) x.more.lists_are d.are_new);
      beyond = ap (λ n. length d.steps + n) (sym x.more.depth) ∙ d.beyond;
    }

  -- nothing is selected below the group
  pub below_leaves : (group : List FieldSelection) (stage : Stage) → stage.comparisons < 2 ^ 64 → nested_sets group ≡ [] → GoesBelow schema fragments pass (group ∷ []) stage stage
  below_leaves group stage small none = record {
    added = [];
    more = more_none schema pass stage small;
    merged = λ operations above merged groups. All-nil (MergedSet schema fragments operations pass);
    known = λ within. (All-nil (IsClosedIn schema fragments pass stage.lists), All-cons (IsKnownBelow fragments stage.lists) group [] (λ nested. absurd (nested none)) (All-nil (IsKnownBelow fragments stage.lists)));
    passes = λ passed. inl passed;
  }

  -- what is below the group was examined before
  pub parent_known : (group : List FieldSelection) (stage : Stage) → stage.comparisons < 2 ^ 64 → ExpansionIsSeen fragments stage.lists (nested_sets group) → GoesBelow schema fragments pass (group ∷ []) stage stage
  parent_known group stage small seen = record {
    added = [];
    more = more_none schema pass stage small;
    merged = λ operations above merged groups. All-nil (MergedSet schema fragments operations pass);
    known = λ within. (All-nil (IsClosedIn schema fragments pass stage.lists), All-cons (IsKnownBelow fragments stage.lists) group [] (λ nested. seen) (All-nil (IsKnownBelow fragments stage.lists)));
    passes = λ passed. inl passed;
  }

  -- a step from a list to what is below one of its groups
  step_below : (above group below : List FieldSelection) → All (IsGroup schema above pass) (group ∷ []) → nested_sets group ≢ [] → Expansion fragments (nested_sets group) below → MergesBelow schema fragments pass above below
  step_below above group below groups nested expansion = record {
    group = group;
    is_group = All-head (IsGroup schema above pass) group [] groups;
    nested = nested;
    expansion = expansion;
  }

  -- what is below the group is new, and too deep
  pub below_cut : (group below : List FieldSelection) (old new : Stage) → old.comparisons < 2 ^ 64 →
      nested_sets group ≢ [] → Expansion fragments (nested_sets group) below → IsNew old.lists below → old.depth ≡ merging_depth_limit →
      new.lists ≡ old.lists → new.comparisons ≡ old.comparisons → new.depth ≡ old.depth → new.highest ≡ merging_depth_limit + 1 → new.reports ≡ old.reports →
      GoesBelow schema fragments pass (group ∷ []) old new
  below_cut group below old new small nested expansion is_new deep lists comparisons depth highest reports = record {
    added = [];
    more = record {
      lists_are = lists ∙ sym (append-nil old.lists);
      are_new = no_new;
      reports = record { added = []; appended = reports ∙ sym (append-nil old.reports); are = no_groups };
      comparisons = comparisons ∙ sym (counted_none pass old.comparisons small);
      depth = depth;
      passed = λ passed. (let h = highest in omega (arith, h));
    };
    merged = λ operations above merged groups. All-nil (MergedSet schema fragments operations pass);
    known = λ within. absurd (within (let h = highest in omega (arith, h)));
    passes = λ passed. inr (λ above groups. record {
      steps = below ∷ [];
      descent = merging_steps (step_below above group below groups nested expansion) merging_ends;
      are_new = next_new is_new no_new;
      beyond = let h = deep in omega (arith, h);
    });
  }

  module _ (itself : (list : List FieldSelection) → SameFields list list) where
    -- what is below the group was new, and was examined, one step deeper
    pub below_examined : (group below : List FieldSelection) (old down up new : Stage) →
        nested_sets group ≢ [] → Expansion fragments (nested_sets group) below → old.depth < merging_depth_limit →
        down.lists ≡ old.lists → down.comparisons ≡ old.comparisons → down.depth ≡ old.depth + 1 → down.highest ≡ max old.highest down.depth → down.reports ≡ old.reports →
        Examines schema fragments pass below down up →
        new.lists ≡ up.lists → new.comparisons ≡ up.comparisons → new.depth + 1 ≡ up.depth → new.highest ≡ up.highest → new.reports ≡ up.reports →
        GoesBelow schema fragments pass (group ∷ []) old new
    below_examined group below old down up new nested expansion within lists comparisons depth highest reports e lists' comparisons' depth' highest' reports' = record {
      added = below ∷ e.below;
      more = record {
        lists_are = lists' ∙ e.more.lists_are ∙ ap (λ l. l ++ below ∷ e.below) lists;
        are_new = all_new;
        reports = record {
          added = e.more.reports.added;
          appended = reports' ∙ e.more.reports.appended ∙ ap (λ l. l ++ e.more.reports.added) reports;
          are = e.more.reports.are;
        };
        comparisons = comparisons' ∙ e.more.comparisons ∙ ap (λ n. counted pass n (sum_by comparisons_of (below ∷ e.below))) comparisons;
        depth = let a = e.more.depth in omega (arith, a, depth, depth');
        passed = λ passed. up_passed (e.more.passed (let h = highest in omega (arith, h, passed)));
      };
      merged = λ operations above merged groups.
          let here = merged_below merged (step_below above group below groups nested expansion) in
          All-cons (MergedSet schema fragments operations pass) below e.below here (e.merged operations here);
      known = λ kept.
          let closed = e.known (λ passed. kept (let h = highest' in omega (arith, h, passed))) in (
            subst (λ l. All (IsClosedIn schema fragments pass l) (below ∷ e.below)) (sym lists') closed,
            All-cons (IsKnownBelow fragments new.lists) group [] (λ nested'. seen) (All-nil (IsKnownBelow fragments new.lists)),
          );
      passes = λ passed. elim (e.passes (let h = highest' in omega (arith, h, passed))) [
        | inl before ↦ inl (let h = highest in omega (arith, h, before, within, depth))
        | inr d ↦ inr (λ above groups. record {
          steps = below ∷ d.steps;
          descent = merging_steps (step_below above group below groups nested expansion) d.descent;
          are_new = next_new (first_new all_new) (subst (λ l. AreNew (l ++ below ∷ []) d.steps) lists d.are_new);
          beyond = let h = d.beyond in omega (arith, h, depth);
        })
      ];
    } where
      up_passed : HasPassed up → HasPassed new
      up_passed passed = let h = highest' in omega (arith, h, passed)

      all_new : AreNew old.lists (below ∷ e.below)
      all_new = subst (λ l. AreNew l (below ∷ e.below)) lists e.more.are_new

      seen : ExpansionIsSeen fragments new.lists (nested_sets group)
      seen = record {
        fields = below;
        known = below;
        expansion = expansion;
        is_seen = subst (λ l. Contains l below) (sym (lists' ∙ e.more.lists_are)) (Contains-append_right down.lists (below ∷ e.below) below (stands_first below e.below));
        same_fields = itself below;
      }

    -- the fields of a set were new, and were examined
    pub set_examined : (set : SelectionSet) (fields : List FieldSelection) (old new : Stage) → Expansion fragments (set ∷ []) fields →
        Examines schema fragments pass fields old new → ExaminesSet schema fragments pass set old new
    set_examined set fields old new expansion e = record {
      fields = fields;
      added = fields ∷ e.below;
      expansion = expansion;
      more = e.more;
      merged = λ operations merged. All-cons (MergedSet schema fragments operations pass) fields e.below merged (e.merged operations merged);
      known = λ within. (
        e.known within,
        record {
          fields = fields;
          known = fields;
          expansion = expansion;
          is_seen = subst (λ l. Contains l fields) (sym e.more.lists_are) (Contains-append_right old.lists (fields ∷ e.below) fields (stands_first fields e.below));
          same_fields = itself fields;
        },
      );
      passes = e.passes;
    }

  -- the fields of a set were examined before
  pub set_known : (set : SelectionSet) (fields known : List FieldSelection) (stage : Stage) → stage.comparisons < 2 ^ 64 → Expansion fragments (set ∷ []) fields →
      Contains stage.lists known → SameFields fields known → ExaminesSet schema fragments pass set stage stage
  set_known set fields known stage small expansion stands same = record {
    fields = fields;
    added = [];
    expansion = expansion;
    more = more_none schema pass stage small;
    merged = λ operations merged. All-nil (MergedSet schema fragments operations pass);
    known = λ within. (All-nil (IsClosedIn schema fragments pass stage.lists), record { fields = fields; known = known; expansion = expansion; is_seen = stands; same_fields = same });
    passes = λ passed. inl passed;
  }

  module _ (groups_are : (fields group : List FieldSelection) → Contains (groups_of schema pass fields) group ↔ IsGroup schema fields pass group) where
    all_groups : (fields : List FieldSelection) → All (IsGroup schema fields pass) (groups_of schema pass fields)
    all_groups fields = each_standing (IsGroup schema fields pass) (groups_of schema pass fields) (λ group stands. (groups_are fields group).0 stands)

    -- a list was new, its groups were compared, and what is below them was examined
    pub list_examined : (list : List FieldSelection) (old mid new : Stage) → IsNew old.lists list →
        mid.lists ≡ old.lists ++ list ∷ [] → mid.comparisons ≡ counted pass old.comparisons (comparisons_of list) → mid.depth ≡ old.depth → mid.highest ≡ old.highest →
        Appends (AreConflicts schema pass (groups_of schema pass list)) old.reports mid.reports →
        GoesBelow schema fragments pass (groups_of schema pass list) mid new → Examines schema fragments pass list old new
    list_examined list old mid new is_new lists comparisons depth highest reports g = record {
      below = g.added;
      more = more_then schema pass here g.more;
      merged = λ operations merged. g.merged operations list merged (all_groups list);
      known = λ within. let k = g.known within in
          All-cons (IsClosedIn schema fragments pass new.lists) list g.added
          (λ group is_group. All-contains (IsKnownBelow fragments new.lists) (groups_of schema pass list) group k.1 ((groups_are list group).1 is_group)) k.0;
      passes = λ passed. elim (g.passes passed) [
        | inl before ↦ inl (let h = highest in omega (arith, h, before))
        | inr beyond ↦ inr (subst (λ n. DescendsBeyond schema fragments pass (old.lists ++ list ∷ []) n list) depth
            (subst (λ l. DescendsBeyond schema fragments pass l mid.depth list) lists (beyond list (all_groups list))))
      ];
    } where
      here : ExaminesMore schema pass (list ∷ []) old mid
      here = record {
        lists_are = lists;
        are_new = next_new is_new no_new;
        reports = subst (λ g'. Appends (AreConflicts schema pass g') old.reports mid.reports) (sym (append-nil (groups_of schema pass list))) reports;
        comparisons = comparisons ∙ ap (counted pass old.comparisons) (let s = sum_by-cons comparisons_of list [] in omega (arith, s));
        depth = depth;
        passed = λ passed. (let h = highest in omega (arith, h, passed));
      }
