-- How the merging of one operation follows that of those before.
use Rattle.std.proofs.Common.{rules, ◌≡◌, ◌↔◌, ℕ, ◌<◌, Bool, true, false, ◌||◌, List, [], ◌∷◌, ◌++◌, arith, length, inl, inr, refl, sym, ◌∙◌, ap, subst, All, Contains}
use Rattle.std.proofs.lemmas.List.{append_assoc, length-append, nil_from_length}
use Rattle.std.proofs.lemmas.List.Sums.{sum_by-append}
use Rattle.std.proofs.lemmas.List.Elements.{All-append, All-cons, All-contains, All-head, All-tail, All-nil, All-weaker, Contains-append_cases, Contains-append_left, Contains-append_right}
use Rattle.std.specs.Prelude.{nat_lt, ◌⊎◌, AllPairs, IsFalse, IsTrue, sum_by, Option}
use Rattle.graphql_specification.specs.MergedSets.{MergedSet, merged_below, merged_operation, nested_sets, MergingNestsTooDeep, MergingPasses, Agree, ExpansionIsSeen, HasSeen, ListPasses, AreConflicts, ConflictsWith, ConflictReport, agreeing_field, comparisons_of, conflicting_field, empty_group, groups_of, groups_of_lists, next_group, no_field, no_groups}
use Rattle.graphql_specification.specs.Merging.{Pass, field_pass, shape_pass, FieldSelection, FieldsCanMerge, SameFields}
use Rattle.graphql_nodes.specs.Names.{NameText, SameName}
use Rattle.graphql_documents.specs.Selections.{Fragments, fragments_of}
use Rattle.graphql_diagnostics.specs.declared.lists.DiagnosticEntry.{DiagnosticEntry}
use Rattle.graphql_documents.specs.declared.documents.executables.Operation.{Operation}
use Rattle.graphql_documents.specs.declared.documents.executables.SelectionSet.{SelectionSet}
use Rattle.graphql_nodes.specs.declared.nodes.Node.{Node}
use Rattle.graphql_documents.specs.declared.documents.schemas.Schema.{Schema}
use Rattle.graphql_documents.proofs.ListLemmas.{All-append_left, All-append_right, each_standing, none_stands, only_one, stands_first}
use Rattle.graphql_diagnostics.proofs.ReportLemmas.{both_nil}
use Rattle.std.proofs.lemmas.List.Kept.{AllPairs-cons}
use Rattle.graphql_diagnostics.specs.declared.build_errors.BuildError.TheVariants as build
use Rattle.graphql_diagnostics.specs.declared.details.Details.TheVariants as details
use Rattle.graphql_diagnostics.specs.declared.details.Details.{Details}
use Rattle.graphql_nodes.specs.declared.spans.SourceSpan.{SourceSpan}
use Rattle.graphql_laws.proofs.DescentLaws.{descent_has_chain}
use Rattle.graphql_laws.proofs.OrderedGroupLaws.{groups_listed}
use Rattle.graphql_diagnostics.specs.Reports.{Appends}
use Rattle.graphql_merging.specs.MergedOperations.{AreLimits, ExaminesInBoth, HasExamined, HasMerged, Merging, MergesOneMore}
use Rattle.graphql_merging.specs.Passes.{AreNew, DescendsBeyond, ExaminesSet, HasPassed, IsClosedIn, IsNew, Stage, counted, next_new, no_new}
use Rattle.graphql_merging.proofs.PassLemmas.{counted_none, counted_then, new_then, seen_further}
use Rattle.graphql_laws.proofs.FieldContentsLaws.{same_fields_back}
use Rattle.graphql_laws.proofs.SeenListLaws.{seen_lists_decide}
use Rattle.graphql_documents.specs.Built.{IsBuilt}
use Rattle.graphql_documents.specs.Executables.{operations_of}
use Rattle.graphql_documents.specs.declared.documents.executables.ExecutableDocument.{ExecutableDocument}

abbrev Differ : List FieldSelection → List FieldSelection → Type 0
Differ a b = ¬ SameFields a b

-- each of some new lists is new, and none is the same as another
each_new : {known lists : List (List FieldSelection)} → AreNew known lists → All (IsNew known) lists
each_new {known} no_new = All-nil (IsNew known)
each_new {known} (next_new {list = list} {rest = rest} here behind) =
    All-cons (IsNew known) list rest here
    (All-weaker (IsNew (known ++ list ∷ [])) (IsNew known) (λ l new. All-append_left (λ k. ¬ SameFields l k) known (list ∷ []) new) rest (each_new behind))

differ_behind : (known : List (List FieldSelection)) {lists : List (List FieldSelection)} (list : List FieldSelection) → AreNew (known ++ list ∷ []) lists → All (Differ list) lists
differ_behind known {lists} list behind =
    All-weaker (IsNew (known ++ list ∷ [])) (Differ list)
    (λ l new same. All-contains (λ k. ¬ SameFields l k) (known ++ list ∷ []) list new (Contains-append_right known (list ∷ []) list (stands_first list [])) (same_fields_back list l same))
    lists (each_new behind)

all_differ : {known lists : List (List FieldSelection)} → AreNew known lists → AllPairs Differ lists
all_differ no_new = λ i j d before within. absurd (omega (arith, before, within))
all_differ {known} (next_new {list = list} {rest = rest} here behind) = AllPairs-cons Differ list rest (differ_behind known list behind) (all_differ behind)

-- what a diagnostic of a conflict says is that two fields do not agree
disagree : (schema : Schema) (pass : Pass) (x y : FieldSelection) (said : Details) (at : Option SourceSpan) → ConflictReport schema pass x y said at → ¬ Agree schema pass x y
disagree schema shape_pass x y (details.Build (build.ConflictingFieldType alias original_location original original_type conflicting_location conflicting conflicting_type)) at says agree = says.differ agree
disagree schema field_pass x y (details.Build (build.ConflictingFieldName alias original_location original conflicting_location conflicting)) at says agree =
    let same = agree.name in let other = says.differ in (let no : ⊥ = cc in no)
disagree schema field_pass x y (details.Build (build.ConflictingFieldArgument alias original_location original original_value conflicting_location conflicting conflicting_value)) at says agree =
    let name = says.differ.given.value.value.name in
    says.differ.differ (agree.arguments.names name, λ a b. agree.arguments.values name a b)
disagree schema pass x y said at says agree = absurd says

module _ (schema : Schema) (pass : Pass) where
  -- there is no report exactly where all agree with the first
  none_with : (first : FieldSelection) {rest : List FieldSelection} {reports : List DiagnosticEntry} → ConflictsWith schema pass first rest reports →
      (reports ≡ []) ↔ All (Agree schema pass first) rest
  none_with first no_field = (λ e. All-nil (Agree schema pass first), λ all. refl)
  none_with first (agreeing_field {x = x} {rest = rest} agree more) =
      let behind = none_with first more in (λ e. All-cons (Agree schema pass first) x rest agree (behind.0 e), λ all. behind.1 (All-tail (Agree schema pass first) x rest all))
  none_with first (conflicting_field {x = x} {rest = rest} {entry = entry} says more) = (
    λ e. absurd (let no : ⊥ = cc in no),
    λ all. absurd (disagree schema pass first x entry.details entry.location says (All-head (Agree schema pass first) x rest all)),
  )

  -- the first of a group agrees with the rest
  abbrev GroupPasses : List FieldSelection → Type 0
  GroupPasses group = (first : FieldSelection) (rest : List FieldSelection) → group ≡ first ∷ rest → All (Agree schema pass first) rest

  heads_agree : {first : FieldSelection} {rest : List FieldSelection} (x : FieldSelection) (xs : List FieldSelection) → first ∷ rest ≡ x ∷ xs →
      All (Agree schema pass first) rest → All (Agree schema pass x) xs
  heads_agree {first} {rest} x xs is all =
      let head : first ≡ x = cc in
      let tail : rest ≡ xs = cc in
      subst (All (Agree schema pass x)) tail (subst (λ z. All (Agree schema pass z) rest) head all)

  none_in : {groups : List (List FieldSelection)} {reports : List DiagnosticEntry} → AreConflicts schema pass groups reports →
      (reports ≡ []) ↔ All GroupPasses groups
  none_in no_groups = (λ e. All-nil GroupPasses, λ all. refl)
  none_in (empty_group {groups = groups} more) =
      let behind = none_in more in (
        λ e. All-cons GroupPasses [] groups (λ first rest is. absurd (let no : ⊥ = cc in no)) (behind.0 e),
        λ all. behind.1 (All-tail GroupPasses [] groups all),
      )
  none_in (next_group {first = first} {rest = rest} {groups = groups} {here = here} {reports = reports} one more) =
      let at = none_with first one in
      let behind = none_in more in (
        λ e. let both = (both_nil here reports).0 e in
            All-cons GroupPasses (first ∷ rest) groups
            (λ x xs is. heads_agree x xs is (at.0 both.0)) (behind.0 both.1),
        λ all. (both_nil here reports).1 (at.1 (All-head GroupPasses (first ∷ rest) groups all first rest refl), behind.1 (All-tail GroupPasses (first ∷ rest) groups all)),
      )

  -- the groups of lists pass exactly where the lists do
  lists_pass : (lists : List (List FieldSelection)) → All GroupPasses (groups_of_lists schema pass lists) ↔ All (ListPasses schema pass) lists
  lists_pass [] = (λ all. All-nil (ListPasses schema pass), λ all. All-nil GroupPasses)
  lists_pass (list ∷ lists) =
      let behind = lists_pass lists in (
        λ all. All-cons (ListPasses schema pass) list lists
            (λ group first rest is_group is. All-contains GroupPasses (groups_of schema pass list) group
            (All-append_left GroupPasses (groups_of schema pass list) (groups_of_lists schema pass lists) all) ((groups_listed schema list pass group).1 is_group) first rest is)
            (behind.0 (All-append_right GroupPasses (groups_of schema pass list) (groups_of_lists schema pass lists) all)),
        λ all. All-append GroupPasses (groups_of schema pass list) (groups_of_lists schema pass lists)
            (each_standing GroupPasses (groups_of schema pass list) (λ group stands first rest is.
            All-head (ListPasses schema pass) list lists all group first rest ((groups_listed schema list pass group).0 stands) is))
            (behind.1 (All-tail (ListPasses schema pass) list lists all)),
      )

  -- there is no report of the lists exactly where they pass
  pub none_reported : (lists : List (List FieldSelection)) (reports : List DiagnosticEntry) → AreConflicts schema pass (groups_of_lists schema pass lists) reports →
      (reports ≡ []) ↔ All (ListPasses schema pass) lists
  none_reported lists reports are =
      let groups = none_in are in
      let words = lists_pass lists in (λ e. words.0 (groups.0 e), λ all. groups.1 (words.1 all))

module _ (schema : Schema) (fragments : Fragments) (pass : Pass) where
  -- a list that is merged for some operations is merged for more
  merged_more : {operations : List (Node Operation)} (further : List (Node Operation)) {list : List FieldSelection} →
      MergedSet schema fragments operations pass list → MergedSet schema fragments (operations ++ further) pass list
  merged_more {operations} further (merged_operation {o = o} stands expansion) =
      merged_operation (Contains-append_left operations further o stands) expansion
  merged_more further (merged_below above step) = merged_below (merged_more further above) step

  -- the lists of one operation more were examined
  pub examined_more : (operations : List (Node Operation)) (o : Node Operation) (too_deep deeper : Bool) (old new : Stage) →
      HasExamined schema fragments operations pass too_deep old.lists → ExaminesSet schema fragments pass o.value.value.selection_set old new →
      (IsFalse deeper → IsFalse too_deep × (¬ HasPassed new)) →
      HasExamined schema fragments (operations ++ o ∷ []) pass deeper new.lists
  examined_more operations o too_deep deeper old new before e within = record {
    merged = all_merged;
    once = subst (AreNew []) (sym e.more.lists_are) (new_then before.once e.more.are_new);
    all = λ kept. seen (before.all (within kept).0) (e.known (within kept).1);
  } where
    last : Contains (operations ++ o ∷ []) o
    last = Contains-append_right operations (o ∷ []) o (stands_first o [])

    all_merged : All (MergedSet schema fragments (operations ++ o ∷ []) pass) new.lists
    all_merged =
        subst (All (MergedSet schema fragments (operations ++ o ∷ []) pass)) (sym e.more.lists_are)
        (All-append (MergedSet schema fragments (operations ++ o ∷ []) pass) old.lists e.added
        (All-weaker (MergedSet schema fragments operations pass) (MergedSet schema fragments (operations ++ o ∷ []) pass) (λ list. merged_more (o ∷ [])) old.lists before.merged)
        (e.merged (operations ++ o ∷ []) (merged_operation last e.expansion)))

    further : (sets : List SelectionSet) → ExpansionIsSeen fragments old.lists sets → ExpansionIsSeen fragments new.lists sets
    further sets known = subst (λ l. ExpansionIsSeen fragments l sets) (sym e.more.lists_are) (seen_further e.added known)

    seen : HasSeen schema fragments operations pass old.lists →
        All (IsClosedIn schema fragments pass new.lists) e.added × ExpansionIsSeen fragments new.lists (o.value.value.selection_set ∷ []) →
        HasSeen schema fragments (operations ++ o ∷ []) pass new.lists
    seen was now = record {
      merged = all_merged;
      begun = λ x stands. elim (Contains-append_cases operations (o ∷ []) x stands) [
        | inl earlier ↦ further (x.value.value.selection_set ∷ []) (was.begun x earlier)
        | inr this ↦ subst (λ y. ExpansionIsSeen fragments new.lists (y.value.value.selection_set ∷ [])) (sym (only_one o x this)) now.1
      ];
      closed = λ list group stands is_group nested. elim (Contains-append_cases old.lists e.added list (subst (λ l. Contains l list) e.more.lists_are stands)) [
        | inl earlier ↦ further (nested_sets group) (was.closed list group earlier is_group nested)
        | inr added ↦ All-contains (IsClosedIn schema fragments pass new.lists) e.added list now.0 added group is_group nested
      ];
    }

  -- the limit was passed: some chain of fields passes it, and so do the steps of this pass
  pub passes_deep : ((a b : NameText) → SameName a b → fragments a ≡ fragments b) → (set : SelectionSet) (old new : Stage) (e : ExaminesSet schema fragments pass set old new) → old.depth ≡ 0 →
      DescendsBeyond schema fragments pass (old.lists ++ e.fields ∷ []) old.depth e.fields → MergingPasses schema fragments set
  passes_deep respects set old new e top d =
      let long = d.beyond in
      let some = λ (none : d.steps ≡ []). (let empty : length d.steps ≡ 0 = ap length none in let no : ⊥ = omega (arith, long, top, empty) in no) in
      let c = descent_has_chain schema fragments respects pass set e.fields d.steps e.expansion d.descent some in
      let as_long = c.3 in
      record {
        chain = c.0;
        last = c.1;
        is_chain = c.2;
        chain_passes = omega (arith, as_long, long, top);
        last_selects = c.4;
        pass = pass;
        fields = e.fields;
        steps = d.steps;
        begins = e.expansion;
        descent = d.descent;
        once = AllPairs-cons Differ e.fields d.steps (differ_behind old.lists e.fields d.are_new) (all_differ d.are_new);
        steps_pass = omega (arith, long, top);
      }

or_false : (a b : Bool) → IsFalse (a || b) ↔ (IsFalse a × IsFalse b)
or_false true b = (λ h. absurd (let no : ⊥ = cc in no), λ p. absurd (let h = p.0 in let no : ⊥ = cc in no))
or_false false b = (λ h. (refl, h), λ p. p.1)

or_true : (a b : Bool) → IsTrue (a || b) → IsTrue a ⊎ IsTrue b
or_true true b h = inl refl
or_true false b h = inr h

false_or_true : (b : Bool) → IsFalse b ⊎ IsTrue b
false_or_true true = inr refl
false_or_true false = inl refl

module _ (schema : Schema) (fragments : Fragments) (respects : (a b : NameText) → SameName a b → fragments a ≡ fragments b)
    (o : Node Operation) (old new : Merging) {before mid : List DiagnosticEntry} (deep conflicts : Bool)
    (x : ExaminesInBoth schema fragments o.value.value.selection_set old.shapes new.shapes old.fields new.fields old.comparisons new.comparisons before mid deep)
    (operations : new.operations ≡ old.operations ++ o ∷ []) (conflicting : new.conflicting ≡ (old.conflicting || conflicts)) (too_deep : new.too_deep ≡ (old.too_deep || deep))
    (conflicts_is : IsTrue conflicts ↔ (length before < length mid)) where
  -- what was reported
  both_reported : mid ≡ before ++ (x.of_shapes.more.reports.added ++ x.of_fields.more.reports.added)
  both_reported =
      sym x.reports_last ∙ x.of_fields.more.reports.appended ∙
      ap (λ l. l ++ x.of_fields.more.reports.added) (x.reports_next ∙ x.of_shapes.more.reports.appended ∙ ap (λ l. l ++ x.of_shapes.more.reports.added) x.reports_first) ∙
      append_assoc before x.of_shapes.more.reports.added x.of_fields.more.reports.added

  none_conflict : IsFalse conflicts ↔ ((x.of_shapes.more.reports.added ≡ []) × (x.of_fields.more.reports.added ≡ []))
  none_conflict =
      let a = x.of_shapes.more.reports.added in
      let b = x.of_fields.more.reports.added in
      let long = ap length both_reported ∙ length-append before (a ++ b) in (
        λ h. (both_nil a b).0 (nil_from_length (a ++ b)
            (let none = λ (more : length before < length mid). (let yes' = conflicts_is.1 more in let no : ⊥ = cc in no) in omega (arith, long, none))),
        λ p. elim (false_or_true conflicts) [
          | inl h ↦ h
          | inr h ↦ absurd (let more = conflicts_is.0 h in let none = ap length ((both_nil a b).1 p) in omega (arith, long, more, none))
        ],
      )

  same_shapes : new.shapes ≡ old.shapes ++ x.of_shapes.added
  same_shapes = sym x.shapes_new ∙ x.of_shapes.more.lists_are ∙ ap (λ l. l ++ x.of_shapes.added) x.shapes_old

  same_fields : new.fields ≡ old.fields ++ x.of_fields.added
  same_fields = sym x.fields_new ∙ x.of_fields.more.lists_are ∙ ap (λ l. l ++ x.of_fields.added) x.fields_old

  lists_pass_more : (pass : Pass) (lists added lists' : List (List FieldSelection)) → lists' ≡ lists ++ added →
      All (ListPasses schema pass) lists' ↔ (All (ListPasses schema pass) lists × All (ListPasses schema pass) added)
  lists_pass_more pass lists added lists' is = (
    λ all. let both = subst (All (ListPasses schema pass)) is all in (All-append_left (ListPasses schema pass) lists added both, All-append_right (ListPasses schema pass) lists added both),
    λ p. subst (All (ListPasses schema pass)) (sym is) (All-append (ListPasses schema pass) lists added p.0 p.1),
  )

  within_both : IsFalse new.too_deep → IsFalse old.too_deep × (¬ HasPassed x.shapes_after) × (¬ HasPassed x.fields_after)
  within_both kept =
      let parts = (or_false old.too_deep deep).0 (sym too_deep ∙ kept) in
      let second = λ (passed : HasPassed x.fields_after). (let yes' = x.deep_is.1 passed in let h = parts.1 in let no : ⊥ = cc in no) in
      (parts.0, λ passed. second (x.of_fields.more.passed (let h = x.highest_next in omega (arith, h, passed))), second)

  -- the operation was merged after those before
  pub merged_next : HasMerged schema fragments old → HasMerged schema fragments new
  merged_next was = record {
    shapes = subst (λ ops. HasExamined schema fragments ops shape_pass new.too_deep new.shapes) (sym operations)
        (subst (HasExamined schema fragments (old.operations ++ o ∷ []) shape_pass new.too_deep) x.shapes_new
        (examined_more schema fragments shape_pass old.operations o old.too_deep new.too_deep x.shapes_before x.shapes_after
        (subst (HasExamined schema fragments old.operations shape_pass old.too_deep) (sym x.shapes_old) was.shapes) x.of_shapes
        (λ kept. let w = within_both kept in (w.0, w.1))));
    fields = subst (λ ops. HasExamined schema fragments ops field_pass new.too_deep new.fields) (sym operations)
        (subst (HasExamined schema fragments (old.operations ++ o ∷ []) field_pass new.too_deep) x.fields_new
        (examined_more schema fragments field_pass old.operations o old.too_deep new.too_deep x.fields_before x.fields_after
        (subst (HasExamined schema fragments old.operations field_pass old.too_deep) (sym x.fields_old) was.fields) x.of_fields
        (λ kept. let w = within_both kept in (w.0, w.2))));
    silent = (
      λ h. let parts = (or_false old.conflicting conflicts).0 (sym conflicting ∙ h) in
          let earlier = was.silent.0 parts.0 in
          let none = none_conflict.0 parts.1 in (
            (lists_pass_more shape_pass old.shapes x.of_shapes.added new.shapes same_shapes).1 (earlier.0, of_shapes.0 none.0),
            (lists_pass_more field_pass old.fields x.of_fields.added new.fields same_fields).1 (earlier.1, of_fields.0 none.1),
          ),
      λ p. let s = (lists_pass_more shape_pass old.shapes x.of_shapes.added new.shapes same_shapes).0 p.0 in
          let f = (lists_pass_more field_pass old.fields x.of_fields.added new.fields same_fields).0 p.1 in
          conflicting ∙ (or_false old.conflicting conflicts).1 (was.silent.1 (s.0, f.0), none_conflict.1 (of_shapes.1 s.1, of_fields.1 f.1)),
    );
    deep = λ h. elim (or_true old.too_deep deep (sym too_deep ∙ h)) [
      | inl earlier ↦ let d = was.deep earlier in (d.0, subst (λ l. Contains l d.0) (sym operations) (Contains-append_left old.operations (o ∷ []) d.0 d.1), d.2)
      | inr now ↦ (o, subst (λ l. Contains l o) (sym operations) (Contains-append_right old.operations (o ∷ []) o (stands_first o [])), nests (x.deep_is.0 now))
    ];
    comparisons = sym x.comparisons_new ∙ x.of_shapes.more.comparisons ∙ ap (λ n. counted shape_pass n (sum_by comparisons_of x.of_shapes.added)) (x.comparisons_old ∙ was.comparisons) ∙
        counted_then shape_pass 0 (sum_by comparisons_of old.shapes) (sum_by comparisons_of x.of_shapes.added) ∙
        ap (counted shape_pass 0) (sym (ap (sum_by comparisons_of) same_shapes ∙ sum_by-append comparisons_of old.shapes x.of_shapes.added));
  } where
    of_shapes : (x.of_shapes.more.reports.added ≡ []) ↔ All (ListPasses schema shape_pass) x.of_shapes.added
    of_shapes = none_reported schema shape_pass x.of_shapes.added x.of_shapes.more.reports.added x.of_shapes.more.reports.are

    of_fields : (x.of_fields.more.reports.added ≡ []) ↔ All (ListPasses schema field_pass) x.of_fields.added
    of_fields = none_reported schema field_pass x.of_fields.added x.of_fields.more.reports.added x.of_fields.more.reports.are

    depth_there : x.fields_before.depth ≡ 0
    depth_there = x.depth_next ∙ x.of_shapes.more.depth ∙ x.depth_first

    nests : HasPassed x.fields_after → MergingPasses schema fragments o.value.value.selection_set
    nests passed = elim (x.of_fields.passes passed) [
      | inl before' ↦ elim (x.of_shapes.passes (let h = x.highest_next in omega (arith, h, before'))) [
        | inl first ↦ absurd (let h = x.highest_first in omega (arith, h, first))
        | inr d ↦ passes_deep schema fragments shape_pass respects o.value.value.selection_set x.shapes_before x.shapes_after x.of_shapes x.depth_first d
      ]
      | inr d ↦ passes_deep schema fragments field_pass respects o.value.value.selection_set x.fields_before x.fields_after x.of_fields depth_there d
    ]

  -- what one call has done
  pub one_more : {after : List DiagnosticEntry} → Appends (AreLimits o new.too_deep) mid after → MergesOneMore schema o old new before after
  one_more {after} limits = record {
    shapes = x.of_shapes.added;
    fields = x.of_fields.added;
    of_shapes = x.of_shapes.more.reports.added;
    of_fields = x.of_fields.more.reports.added;
    limits = limits.added;
    operations = operations;
    shapes_are = same_shapes;
    fields_are = same_fields;
    appended = limits.appended ∙ ap (λ l. l ++ limits.added) both_reported ∙
        append_assoc before (x.of_shapes.more.reports.added ++ x.of_fields.more.reports.added) limits.added ∙
        ap (λ l. before ++ l) (append_assoc x.of_shapes.more.reports.added x.of_fields.more.reports.added limits.added);
    are_of_shapes = x.of_shapes.more.reports.are;
    are_of_fields = x.of_fields.more.reports.are;
    are_limits = limits.are;
    conflicting = (
      λ h. let parts = (or_false old.conflicting conflicts).0 (sym conflicting ∙ h) in let none = none_conflict.0 parts.1 in (parts.0, none.0, none.1),
      λ p. conflicting ∙ (or_false old.conflicting conflicts).1 (p.0, none_conflict.1 (p.1, p.2)),
    );
    too_deep = λ h. too_deep ∙ ap (λ b. b || deep) h;
  }

  -- one of the operations so far nests too deep, if it is said so
  pub too_deep_so_far : HasMerged schema fragments old → IsTrue new.too_deep → MergingNestsTooDeep schema fragments old.operations o o.location
  too_deep_so_far was h =
      let d = (merged_next was).deep h in
      record { deep = d.0; is_merged = subst (λ l. Contains l d.0) operations d.1; passes = d.2; at_is = refl }

-- before any operation
pub nothing_merged : (schema : Schema) (fragments : Fragments) (m : Merging) → m.operations ≡ [] → m.shapes ≡ [] → m.fields ≡ [] → m.comparisons ≡ 0 →
    IsFalse m.conflicting → IsFalse m.too_deep → HasMerged schema fragments m
nothing_merged schema fragments m operations shapes fields comparisons conflicting too_deep = record {
  shapes = nothing shape_pass m.shapes shapes;
  fields = nothing field_pass m.fields fields;
  silent = (λ h. (subst (All (ListPasses schema shape_pass)) (sym shapes) (All-nil (ListPasses schema shape_pass)), subst (All (ListPasses schema field_pass)) (sym fields) (All-nil (ListPasses schema field_pass))), λ p. conflicting);
  deep = λ h. absurd (let no : ⊥ = cc in no);
  comparisons = comparisons ∙ sym (ap (λ l. counted shape_pass 0 (sum_by comparisons_of l)) shapes ∙ counted_none shape_pass 0 (omega arith));
} where
  nothing : (pass : Pass) (lists : List (List FieldSelection)) → lists ≡ [] → HasExamined schema fragments m.operations pass m.too_deep lists
  nothing pass lists none = record {
    merged = subst (All (MergedSet schema fragments m.operations pass)) (sym none) (All-nil (MergedSet schema fragments m.operations pass));
    once = subst (AreNew []) (sym none) no_new;
    all = λ kept. record {
      merged = subst (All (MergedSet schema fragments m.operations pass)) (sym none) (All-nil (MergedSet schema fragments m.operations pass));
      begun = λ o stands. absurd (none_stands o (subst (λ l. Contains l o) operations stands));
      closed = λ list group stands. absurd (none_stands list (subst (λ l. Contains l list) none stands));
    };
  }

-- there are more reports than there were
pub longer : {X : Type 0} (n m : ℕ) (xs ys : List X) → n ≡ length xs → m ≡ length ys → IsTrue (nat_lt n m) ↔ (length xs < length ys)
longer n m xs ys is_n is_m = (
  λ h. (let less : n < m = search rules in omega (arith, less, is_n, is_m)),
  λ more. (let less : n < m = omega (arith, more, is_n, is_m) in search rules),
)

-- where the document was built, and no operation nests too deep, there is no conflict exactly where all merge
pub conflicts_decide : (schema : Schema) (document : ExecutableDocument) (m : Merging) → IsBuilt schema document → All (Contains (operations_of document)) m.operations → HasMerged schema (fragments_of document) m → IsFalse m.too_deep →
    IsFalse m.conflicting ↔ All (λ o. FieldsCanMerge schema (fragments_of document) o.value.value.selection_set) m.operations
conflicts_decide schema document m built own was shallow =
    let Merging' = λ (o : Node Operation). FieldsCanMerge schema (fragments_of document) o.value.value.selection_set in
    let decide = seen_lists_decide schema document built m.operations own m.shapes m.fields (was.shapes.all shallow) (was.fields.all shallow) in (
      λ h. each_standing Merging' m.operations (λ o stands. decide.1 (was.silent.0 h) o stands),
      λ all. was.silent.1 (decide.0 (λ o stands. All-contains Merging' m.operations o all stands)),
    )
