-- What walks over selections say together: over several, over one with what is below it, and over the fragment
-- of a spread.
use Rattle.std.proofs.Common.{◌≡◌, ◌⊎◌, ◌↔◌, inl, inr, List, [], ◌∷◌, ◌++◌, Option, Some, None, Result, Ok, Err, IsTrue, IsFalse, refl, sym, ap, ◌∙◌, subst, Contains}
use Rattle.std.proofs.lemmas.List.{append-nil, append_assoc, append_cancel_left}
use Rattle.std.proofs.lemmas.List.Elements.{All-cons, All-weaker, Contains-append_left, Contains-append_right}
use Rattle.std.proofs.lemmas.Option.{none-some, same_Some}
use Rattle.graphql_diagnostics.specs.Diagnostics.{IsDiagnostic, IsLimitEntry}
use Rattle.graphql_specification.specs.Fields.{FieldHolds, FieldReport}
use Rattle.graphql_specification.specs.Selections.{ReachableSelectionsHold, SelectionReport, of_field, of_inline_fragment, of_spread, of_fragment}
use Rattle.graphql_specification.specs.Fragments.{FragmentHolds, InlineFragmentHolds, FragmentLimit, FragmentReport, InlineFragmentReport, SpreadReport}
use Rattle.graphql_nodes.specs.Names.{NameText, SameName, stands_on}
use Rattle.graphql_diagnostics.specs.Reports.{KeepsReports, Reports, ReportsWithin}
use Rattle.graphql_documents.specs.Selections.{Fragments, IsSpreadFrom, ReachableOn, IsSubselectionParent, reachable_in_field, reachable_in_inline_fragment, reachable_in_spread, selections_of, standing_at, type_under, without}
use Rattle.graphql_diagnostics.specs.declared.data.DiagnosticData.{DiagnosticData}
use Rattle.graphql_diagnostics.specs.declared.lists.DiagnosticEntry.{DiagnosticEntry}
use Rattle.graphql_documents.specs.declared.documents.definitions.VariableDefinition.{VariableDefinition}
use Rattle.graphql_nodes.specs.declared.nodes.Node.{Node}
use Rattle.graphql_documents.specs.declared.documents.schemas.Schema.{Schema}
use Rattle.graphql_nodes.specs.declared.spans.SourceSpan.{SourceSpan}
use Rattle.graphql_documents.specs.declared.documents.executables.Field.{Field}
use Rattle.graphql_documents.specs.declared.documents.executables.Fragment.{Fragment}
use Rattle.graphql_documents.specs.declared.documents.executables.FragmentSpread.{FragmentSpread}
use Rattle.graphql_documents.specs.declared.documents.executables.InlineFragment.{InlineFragment}
use Rattle.graphql_documents.specs.declared.documents.executables.Selection.{Selection}
use Rattle.graphql_documents.specs.declared.documents.executables.Selection.TheVariants as kind
use Rattle.graphql_documents.proofs.SelectionLemmas.{not_spread, same_spread, spread_not_inline}
use Rattle.graphql_nodes.proofs.NameLemmas.{same_name_back, same_name_itself}
use Rattle.graphql_variables.proofs.SelectionWalkLemmas.{stands_last}
use Rattle.graphql_diagnostics.proofs.DiagnosticLemmas.{diagnostic_wider}
use Rattle.graphql_diagnostics.proofs.ReportLemmas.{appended_then, both_nil, holds, in_words, kept_by, kept_then, kept_wider, wider}
use Rattle.graphql_diagnostics.proofs.ReportWithinLemmas.{both_within, in_words_within, kept_within, wider_within, within}
use Rattle.graphql_rules.specs.SelectionSteps.{FragmentEntryReport, FragmentWalkAnswers, FragmentWalks, SelectionEntryReport, SpreadStands, WalkAnswers, WalkStops, Walks}
use Rattle.graphql_rules.proofs.VisitedLemmas.{goes_as, goes_nowhere, goes_then, stands_still, without_fewer}
use Rattle.graphql_operations.proofs.MeasureLemmas.{stands_by_text}
use Rattle.graphql_rules.proofs.ReachableLemmas.{avoids_or_goes_through, found_without, reachable_wider, stays_without, type_of_condition}
use Rattle.graphql_rules.proofs.SelectionHoldLemmas.{AllHold, all_then, field_decides, field_reaches, gone_then, inline_decides, inline_reaches, it_is_found, nothing_reachable_here, nothing_reachable, one_stands, spread_before, spread_fresh, spread_reaches, spread_stands}

-- nothing was added where the list is as it was
pub nothing_added : {Entry : Type 0} (old new added : List Entry) → new ≡ old ++ added → new ≡ old → added ≡ []
nothing_added old new added appended same = append_cancel_left old added [] (sym appended ∙ same ∙ sym (append-nil old))

pub is_unchanged : {Entry : Type 0} (old new added : List Entry) → new ≡ old ++ added → added ≡ [] → new ≡ old
is_unchanged old new added appended none = appended ∙ ap (λ l. old ++ l) none ∙ append-nil old

-- where two steps together added nothing, neither did
pub both_unchanged : {Entry : Type 0} {P R : Entry → Type 0} {old mid new : List Entry} → KeepsReports P old mid → KeepsReports R mid new → new ≡ old → (mid ≡ old) × (new ≡ mid)
both_unchanged {old = old} {mid = mid} {new = new} a b same =
    let none = nothing_added old new (a.added ++ b.added) (appended_then old mid new a.added b.added a.appended b.appended) same in
    let parts = (both_nil a.added b.added).0 none in
    (is_unchanged old mid a.added a.appended parts.0, is_unchanged mid new b.added b.appended parts.1)

module _ {schema : Option Schema} {fragments : Fragments} (variables : List (Node VariableDefinition)) where
  -- a diagnostic on what is reached from selections is one on what is reached from others, if that is
  pub report_from : {parent other : Option NameText} {xs ys : List Selection} {r : DiagnosticData} {at : Option SourceSpan} →
      ((s : Selection) (here : Option NameText) → ReachableOn schema fragments parent xs s here → ReachableOn schema fragments other ys s here) →
      SelectionReport schema fragments variables parent xs r at → SelectionReport schema fragments variables other ys r at
  report_from w (of_field f p b) = of_field f (w _ _ p) b
  report_from w (of_inline_fragment i p b) = of_inline_fragment i (w _ _ p) b
  report_from w (of_spread s p b) = of_spread s (w _ _ p) b
  report_from w (of_fragment s p found b) = of_fragment s (w _ _ p) found b

  pub truth_from : {parent other : Option NameText} {xs ys : List Selection} →
      ((s : Selection) (here : Option NameText) → ReachableOn schema fragments parent xs s here → ReachableOn schema fragments other ys s here) →
      (e : DiagnosticEntry) → SelectionEntryReport schema fragments variables parent xs e → SelectionEntryReport schema fragments variables other ys e
  truth_from {parent} {other} {xs} {ys} w e (inl broken) =
      inl (diagnostic_wider (SelectionReport schema fragments variables parent xs) (SelectionReport schema fragments variables other ys)
      (λ r at b. report_from w b) e broken)
  truth_from w e (inr limit) = inr limit

-- the walks of this schema, where names of one text find one fragment
module _ (schema : Option Schema) (fragments : Fragments) (variables : List (Node VariableDefinition))
    (one : (a b : NameText) → SameName a b → fragments a ≡ fragments b) where
  abbrev pub Answers : Option NameText → List Selection → List NameText → List NameText → List DiagnosticEntry → List DiagnosticEntry → Type 0
  Answers parent xs = WalkAnswers schema fragments variables parent xs

  abbrev pub Stops : Option NameText → List Selection → List NameText → List NameText → List DiagnosticEntry → List DiagnosticEntry → Type 0
  Stops parent xs = WalkStops schema fragments variables parent xs

  -- over no selections
  pub walked_none : (parent : Option NameText) (visited_fragments : List NameText) (old : List DiagnosticEntry) → Answers parent [] visited_fragments visited_fragments old old
  walked_none parent visited_fragments old = record {
    reports = within IsLimitEntry (holds (SelectionEntryReport schema fragments variables parent []) (ReachableSelectionsHold schema visited_fragments fragments variables parent [])
        old (nothing_reachable schema fragments variables visited_fragments parent [] refl));
    goes = goes_nowhere fragments visited_fragments;
    gone = λ same name spread. absurd (nothing_reachable_here spread.reachable_on refl);
  }

  module _ (parent : Option NameText) (xs ys : List Selection) (visited_fragments mid new : List NameText) (old now further : List DiagnosticEntry) where
    first_truth : (e : DiagnosticEntry) → SelectionEntryReport schema fragments variables parent xs e → SelectionEntryReport schema fragments variables parent (xs ++ ys) e
    first_truth = truth_from variables (λ s here. reachable_wider (λ x in'. Contains-append_left xs ys x in'))

    second_truth : (e : DiagnosticEntry) → SelectionEntryReport schema fragments variables parent ys e → SelectionEntryReport schema fragments variables parent (xs ++ ys) e
    second_truth = truth_from variables (λ s here. reachable_wider (λ x in'. Contains-append_right xs ys x in'))

    -- over some, and then over others
    pub walked_then : Answers parent xs visited_fragments mid old now → Answers parent ys mid new now further → Answers parent (xs ++ ys) visited_fragments new old further
    walked_then a b = record {
      reports = in_words_within IsLimitEntry (all_then schema fragments variables one parent xs visited_fragments mid a.goes ys)
          (both_within IsLimitEntry (wider_within IsLimitEntry first_truth a.reports) (wider_within IsLimitEntry second_truth b.reports));
      goes = goes_then fragments a.goes b.goes;
      gone = λ same.
          let parts = both_unchanged (kept_within IsLimitEntry a.reports) (kept_within IsLimitEntry b.reports) same in
          gone_then schema fragments variables one parent xs visited_fragments mid a.goes ys new b.goes (a.gone parts.0) (b.gone parts.1);
    }

    pub stopped_then : Answers parent xs visited_fragments mid old now → Stops parent ys mid new now further → Stops parent (xs ++ ys) visited_fragments new old further
    stopped_then a b = record {
      reports = kept_then (kept_wider first_truth (kept_within IsLimitEntry a.reports)) (kept_wider second_truth b.reports);
      more = a.goes.further ++ b.more;
      grown = b.grown ∙ ap (λ l. l ++ b.more) a.goes.grown ∙ append_assoc visited_fragments a.goes.further b.more;
    }

  -- it stopped within more selections
  pub stopped_wider : (parent : Option NameText) (xs ys : List Selection) {visited_fragments new : List NameText} {old further : List DiagnosticEntry} →
      ((x : Selection) → Contains xs x → Contains ys x) → Stops parent xs visited_fragments new old further → Stops parent ys visited_fragments new old further
  stopped_wider parent xs ys more s = record {
    reports = kept_wider (truth_from variables (λ s here. reachable_wider more)) s.reports;
    more = s.more;
    grown = s.grown;
  }

  -- a diagnostic on a field by itself
  pub field_says : (parent : Option NameText) (f : Node Field) (e : DiagnosticEntry) → IsDiagnostic (FieldReport schema variables parent f) e →
      SelectionEntryReport schema fragments variables parent (kind.Field f ∷ []) e
  field_says parent f e says = inl (diagnostic_wider (FieldReport schema variables parent f) (SelectionReport schema fragments variables parent (kind.Field f ∷ [])) by_part e says) where
    by_part : (r : DiagnosticData) (at : Option SourceSpan) → FieldReport schema variables parent f r at → SelectionReport schema fragments variables parent (kind.Field f ∷ []) r at
    by_part r at b = of_field f (standing_at (one_stands (kind.Field f))) b

  -- on an inline fragment by itself
  pub inline_says : (parent : Option NameText) (i : Node InlineFragment) (e : DiagnosticEntry) → IsDiagnostic (InlineFragmentReport schema variables parent i) e →
      SelectionEntryReport schema fragments variables parent (kind.InlineFragment i ∷ []) e
  inline_says parent i e says = inl (diagnostic_wider (InlineFragmentReport schema variables parent i) (SelectionReport schema fragments variables parent (kind.InlineFragment i ∷ [])) by_part e says) where
    by_part : (r : DiagnosticData) (at : Option SourceSpan) → InlineFragmentReport schema variables parent i r at → SelectionReport schema fragments variables parent (kind.InlineFragment i ∷ []) r at
    by_part r at b = of_inline_fragment i (standing_at (one_stands (kind.InlineFragment i))) b

  -- on a spread by itself
  pub spread_says : (parent : Option NameText) (p : Node FragmentSpread) (e : DiagnosticEntry) → IsDiagnostic (SpreadReport schema fragments variables parent p) e →
      SelectionEntryReport schema fragments variables parent (kind.FragmentSpread p ∷ []) e
  spread_says parent p e says = inl (diagnostic_wider (SpreadReport schema fragments variables parent p) (SelectionReport schema fragments variables parent (kind.FragmentSpread p ∷ [])) by_part e says) where
    by_part : (r : DiagnosticData) (at : Option SourceSpan) → SpreadReport schema fragments variables parent p r at → SelectionReport schema fragments variables parent (kind.FragmentSpread p ∷ []) r at
    by_part r at b = of_spread p (standing_at (one_stands (kind.FragmentSpread p))) b

  -- on its fragment, and on what is reached from there
  pub fragment_says : (parent : Option NameText) (p : Node FragmentSpread) (d : Node Fragment) → fragments p.value.value.fragment_name ≡ Some d →
      (e : DiagnosticEntry) → FragmentEntryReport schema fragments variables d e → SelectionEntryReport schema fragments variables parent (kind.FragmentSpread p ∷ []) e
  fragment_says parent p d found e (inl (inl says)) =
      inl (diagnostic_wider (FragmentReport schema fragments variables d) (SelectionReport schema fragments variables parent (kind.FragmentSpread p ∷ [])) by_part e says) where
        by_part : (r : DiagnosticData) (at : Option SourceSpan) → FragmentReport schema fragments variables d r at → SelectionReport schema fragments variables parent (kind.FragmentSpread p ∷ []) r at
        by_part r at b = of_fragment p (standing_at (one_stands (kind.FragmentSpread p))) found b
  fragment_says parent p d found e (inl (inr limit)) = inr (record { name = p.value.value.fragment_name; d = d; found = found; passes = limit })
  fragment_says parent p d found e (inr truth) =
      truth_from variables (λ s here reachable_on. reachable_in_spread d (one_stands (kind.FragmentSpread p)) found
      (subst (λ t. ReachableOn schema fragments t (selections_of d.value.value.selection_set) s here) (type_of_condition schema None parent d.value.value.selection_set.ty) reachable_on)) e truth

  -- what a call says of a walk, at another type or with other names for the same
  pub walks_as : {T E : Type 0} (r : Result T E) {S S' : Option Schema} {V V' : List (Node VariableDefinition)} {parent other : Option NameText} {xs ys : List Selection} {visited_fragments visited_fragments' : List NameText} (new : List NameText) (old further : List DiagnosticEntry) →
      S ≡ S' → V ≡ V' → parent ≡ other → xs ≡ ys → visited_fragments ≡ visited_fragments' →
      Walks r S fragments V parent xs visited_fragments new old further → Walks r S' fragments V' other ys visited_fragments' new old further
  walks_as r new old further same_schema same_variables same_parent same_selections same_visited_fragments w =
      rw (sym same_schema, sym same_variables, sym same_parent, sym same_selections, sym same_visited_fragments) w

  -- over a field, where its set is on this type
  module _ (parent below : Option NameText) (f : Node Field)
      (under : (b : Option NameText) → IsSubselectionParent schema parent f.value.value.name b ↔ (below ≡ b))
      {old mid : List DiagnosticEntry}
      (checked : Reports (FieldHolds schema variables parent f.value.value) (IsDiagnostic (FieldReport schema variables parent f)) old mid) where
    field_truth : (e : DiagnosticEntry) → IsDiagnostic (FieldReport schema variables parent f) e → SelectionEntryReport schema fragments variables parent (kind.Field f ∷ []) e
    field_truth = field_says parent f

    below_truth : (e : DiagnosticEntry) → SelectionEntryReport schema fragments variables below (selections_of f.value.value.selection_set) e →
        SelectionEntryReport schema fragments variables parent (kind.Field f ∷ []) e
    below_truth = truth_from variables (λ s here p. reachable_in_field f (one_stands (kind.Field f)) ((under below).1 refl) p)

    field_with_below : (visited_fragments : List NameText) →
        (FieldHolds schema variables parent f.value.value × AllHold schema fragments variables visited_fragments below (selections_of f.value.value.selection_set)) ↔
        AllHold schema fragments variables visited_fragments parent (kind.Field f ∷ [])
    field_with_below visited_fragments =
        let d = field_decides schema fragments variables visited_fragments parent f in (
          λ p. d.0 (p.0, λ b t. subst (λ x. AllHold schema fragments variables visited_fragments x (selections_of f.value.value.selection_set)) ((under b).0 t) p.1),
          λ h. let q = d.1 h in (q.0, q.1 below ((under below).1 refl)),
        )

    pub walks_field : {T E : Type 0} (r : Result T E) (visited_fragments new : List NameText) (further : List DiagnosticEntry) →
        Walks r schema fragments variables below (selections_of f.value.value.selection_set) visited_fragments new mid further →
        Walks r schema fragments variables parent (kind.Field f ∷ []) visited_fragments new old further
    walks_field (Ok x) visited_fragments new further w = record {
      reports = in_words_within IsLimitEntry (field_with_below visited_fragments)
          (both_within IsLimitEntry (within IsLimitEntry (wider field_truth checked)) (wider_within IsLimitEntry below_truth w.reports));
      goes = goes_as fragments (λ name spread. record {
        p = spread.p;
        here = spread.here;
        reachable_on = reachable_in_field f (one_stands (kind.Field f)) ((under below).1 refl) spread.reachable_on;
        named = spread.named;
      }) w.goes;
      gone = λ same name spread. elim (field_reaches f spread.reachable_on refl) [
        | inl itself ↦ absurd (not_spread f spread.p itself.0)
        | inr reachable ↦ w.gone (both_unchanged (kept_by checked) (kept_within IsLimitEntry w.reports) same).1 name (record {
          p = spread.p;
          here = spread.here;
          reachable_on = subst (λ b. ReachableOn schema (without visited_fragments fragments) b (selections_of f.value.value.selection_set) (kind.FragmentSpread spread.p) spread.here)
              (sym ((under reachable.0).0 reachable.1)) reachable.2;
          named = spread.named;
        })
      ];
    }
    walks_field (Err x) visited_fragments new further w = record {
      reports = kept_then (kept_wider field_truth (kept_by checked)) (kept_wider below_truth w.reports);
      more = w.more;
      grown = w.grown;
    }

  -- over a field whose set is nowhere, or is empty
  pub walked_field_alone : (parent : Option NameText) (f : Node Field) →
      ((b : Option NameText) → IsSubselectionParent schema parent f.value.value.name b → selections_of f.value.value.selection_set ≡ []) →
      {old new : List DiagnosticEntry} → Reports (FieldHolds schema variables parent f.value.value) (IsDiagnostic (FieldReport schema variables parent f)) old new →
      (visited_fragments : List NameText) → Answers parent (kind.Field f ∷ []) visited_fragments visited_fragments old new
  walked_field_alone parent f nowhere checked visited_fragments = record {
    reports = within IsLimitEntry (in_words (
      λ h. (field_decides schema fragments variables visited_fragments parent f).0 (h, λ b t. nothing_reachable schema fragments variables visited_fragments b (selections_of f.value.value.selection_set) (nowhere b t)),
      λ all. ((field_decides schema fragments variables visited_fragments parent f).1 all).0,
    ) (wider (field_says parent f) checked));
    goes = goes_nowhere fragments visited_fragments;
    gone = λ same name spread. elim (field_reaches f spread.reachable_on refl) [
      | inl itself ↦ absurd (not_spread f spread.p itself.0)
      | inr reachable ↦ absurd (nothing_reachable_here reachable.2 (nowhere reachable.0 reachable.1))
    ];
  }

  -- over an inline fragment, whose set is on this type
  module _ (parent : Option NameText) (i : Node InlineFragment) {old mid : List DiagnosticEntry}
      (checked : Reports (InlineFragmentHolds schema variables parent i.value.value) (IsDiagnostic (InlineFragmentReport schema variables parent i)) old mid) where
    in_inline_truth : (e : DiagnosticEntry) → SelectionEntryReport schema fragments variables (type_under schema parent i.value.value.type_condition) (selections_of i.value.value.selection_set) e →
        SelectionEntryReport schema fragments variables parent (kind.InlineFragment i ∷ []) e
    in_inline_truth = truth_from variables (λ s here p. reachable_in_inline_fragment i (one_stands (kind.InlineFragment i)) p)

    pub walks_inline : {T E : Type 0} (r : Result T E) (visited_fragments new : List NameText) (further : List DiagnosticEntry) →
        Walks r schema fragments variables (type_under schema parent i.value.value.type_condition) (selections_of i.value.value.selection_set) visited_fragments new mid further →
        Walks r schema fragments variables parent (kind.InlineFragment i ∷ []) visited_fragments new old further
    walks_inline (Ok x) visited_fragments new further w = record {
      reports = in_words_within IsLimitEntry (inline_decides schema fragments variables visited_fragments parent i)
          (both_within IsLimitEntry (within IsLimitEntry (wider (inline_says parent i) checked)) (wider_within IsLimitEntry in_inline_truth w.reports));
      goes = goes_as fragments (λ name spread. record {
        p = spread.p;
        here = spread.here;
        reachable_on = reachable_in_inline_fragment i (one_stands (kind.InlineFragment i)) spread.reachable_on;
        named = spread.named;
      }) w.goes;
      gone = λ same name spread. elim (inline_reaches i spread.reachable_on refl) [
        | inl itself ↦ absurd (spread_not_inline i spread.p itself.0)
        | inr reachable ↦ w.gone (both_unchanged (kept_by checked) (kept_within IsLimitEntry w.reports) same).1 name
            (record { p = spread.p; here = spread.here; reachable_on = reachable; named = spread.named })
      ];
    }
    walks_inline (Err x) visited_fragments new further w = record {
      reports = kept_then (kept_wider (inline_says parent i) (kept_by checked)) (kept_wider in_inline_truth w.reports);
      more = w.more;
      grown = w.grown;
    }

    -- where its condition is no composite type, its set is not looked at
    pub walked_inline_alone : ¬ InlineFragmentHolds schema variables parent i.value.value → (visited_fragments : List NameText) →
        Answers parent (kind.InlineFragment i ∷ []) visited_fragments visited_fragments old mid
    walked_inline_alone broken visited_fragments = record {
      reports = within IsLimitEntry (in_words (
        λ h. absurd (broken h),
        λ all. ((inline_decides schema fragments variables visited_fragments parent i).1 all).0,
      ) (wider (inline_says parent i) checked));
      goes = goes_nowhere fragments visited_fragments;
      gone = λ same. absurd (broken (checked.silent.0 (nothing_added old mid checked.added checked.appended same)));
    }

  -- a call that was refused memory before it went below
  pub stopped : {parent : Option NameText} {xs : List Selection} {Q : DiagnosticEntry → Type 0} (visited_fragments : List NameText) {old new : List DiagnosticEntry} →
      ((e : DiagnosticEntry) → Q e → SelectionEntryReport schema fragments variables parent xs e) → KeepsReports Q old new → Stops parent xs visited_fragments visited_fragments old new
  stopped visited_fragments w k = record { reports = kept_wider w k; more = []; grown = sym (append-nil visited_fragments) }

  -- over a spread
  module _ (parent : Option NameText) (p : Node FragmentSpread) {old mid : List DiagnosticEntry}
      (checked : Reports (SpreadStands schema fragments variables parent p.value.value) (IsDiagnostic (SpreadReport schema fragments variables parent p)) old mid)
      (visited_fragments : List NameText) where
    -- that names no fragment
    pub walked_undefined : fragments p.value.value.fragment_name ≡ None → Answers parent (kind.FragmentSpread p ∷ []) visited_fragments visited_fragments old mid
    walked_undefined undefined = record {
      reports = within IsLimitEntry (in_words (
        λ h. absurd (none-some h.definition (sym undefined ∙ h.defined)),
        spread_stands schema fragments variables one visited_fragments parent p,
      ) (wider (spread_says parent p) checked));
      goes = goes_nowhere fragments visited_fragments;
      gone = λ same.
          let h = checked.silent.0 (nothing_added old mid checked.added checked.appended same) in
          absurd (none-some h.definition (sym undefined ∙ h.defined));
    }

    -- whose fragment was visited before
    pub walked_before : IsTrue (stands_on visited_fragments p.value.value.fragment_name) → Answers parent (kind.FragmentSpread p ∷ []) visited_fragments visited_fragments old mid
    walked_before there = record {
      reports = within IsLimitEntry (in_words (spread_before schema fragments variables one visited_fragments parent p there) (wider (spread_says parent p) checked));
      goes = goes_nowhere fragments visited_fragments;
      gone = λ same name spread. elim (spread_reaches p spread.reachable_on refl) [
        | inl itself ↦
            let is : SameName p.value.value.fragment_name name = subst (λ q. SameName q.value.value.fragment_name name) (same_spread spread.p p itself.0) spread.named in
            subst IsTrue (stands_by_text visited_fragments p.value.value.fragment_name name is) there
        | inr r ↦ let fresh = (found_without visited_fragments fragments p.value.value.fragment_name r.0 r.1).0 in absurd (let no : ⊥ = cc in no)
      ];
    }

    -- whose fragment is visited
    module _ (d : Node Fragment) (found : fragments p.value.value.fragment_name ≡ Some d) (fresh : IsFalse (stands_on visited_fragments p.value.value.fragment_name))
        (names : List NameText) (grown : names ≡ visited_fragments ++ p.value.value.fragment_name ∷ []) where
      there_now : (name : NameText) → SameName p.value.value.fragment_name name → IsTrue (stands_on names name)
      there_now name is = subst (λ l. IsTrue (stands_on l name)) (sym grown)
          (stands_last visited_fragments p.value.value.fragment_name name (same_name_back p.value.value.fragment_name name is))

      from_fragment : {s : Selection} {here : Option NameText} →
          ReachableOn schema (without visited_fragments fragments) (type_under schema None (Some d.value.value.selection_set.ty)) (selections_of d.value.value.selection_set) s here →
          ReachableOn schema (without visited_fragments fragments) parent (kind.FragmentSpread p ∷ []) s here
      from_fragment {s} {here} reachable_on =
          reachable_in_spread d (one_stands (kind.FragmentSpread p)) (stays_without visited_fragments fragments p.value.value.fragment_name d fresh found)
          (subst (λ t. ReachableOn schema (without visited_fragments fragments) t (selections_of d.value.value.selection_set) s here)
          (type_of_condition schema None parent d.value.value.selection_set.ty) reachable_on)

      pub walks_fragment : {T E : Type 0} (r : Result T E) (new : List NameText) (further : List DiagnosticEntry) →
          FragmentWalks r schema fragments variables d names new mid further →
          Walks r schema fragments variables parent (kind.FragmentSpread p ∷ []) visited_fragments new old further
      walks_fragment (Ok x) new further w = record {
        reports = in_words_within IsLimitEntry (spread_fresh schema fragments variables one visited_fragments parent p d found fresh names grown)
            (both_within IsLimitEntry (within IsLimitEntry (wider (spread_says parent p) checked)) (wider_within IsLimitEntry (fragment_says parent p d found) w.reports));
        goes = record {
          further = p.value.value.fragment_name ∷ w.goes.further;
          grown = w.goes.grown ∙ ap (λ l. l ++ w.goes.further) grown ∙ append_assoc visited_fragments (p.value.value.fragment_name ∷ []) w.goes.further;
          spread = All-cons (IsSpreadFrom schema (without visited_fragments fragments) parent (kind.FragmentSpread p ∷ [])) p.value.value.fragment_name w.goes.further
              (record { p = p; here = parent; reachable_on = standing_at (one_stands (kind.FragmentSpread p)); named = same_name_itself p.value.value.fragment_name })
              (All-weaker
              (IsSpreadFrom schema (without names fragments) (type_under schema None (Some d.value.value.selection_set.ty)) (selections_of d.value.value.selection_set))
              (IsSpreadFrom schema (without visited_fragments fragments) parent (kind.FragmentSpread p ∷ []))
              (λ name spread. record {
                p = spread.p;
                here = spread.here;
                reachable_on = from_fragment (without_fewer fragments visited_fragments names (p.value.value.fragment_name ∷ []) grown spread.reachable_on);
                named = spread.named;
              }) w.goes.further w.goes.spread);
        };
        gone = λ same name spread.
            let inner = w.gone (both_unchanged (kept_by checked) (kept_within IsLimitEntry w.reports) same).1 in
            elim (spread_reaches p spread.reachable_on refl) [
              | inl itself ↦
                  let is : SameName p.value.value.fragment_name name = subst (λ q. SameName q.value.value.fragment_name name) (same_spread spread.p p itself.0) spread.named in
                  stands_still names new w.goes.further w.goes.grown name (there_now name is)
              | inr reachable ↦
                  let same_d : reachable.0 ≡ d = same_Some reachable.0 d (sym (found_without visited_fragments fragments p.value.value.fragment_name reachable.0 reachable.1).1 ∙ found) in
                  let from_d : ReachableOn schema (without visited_fragments fragments) (type_under schema None (Some d.value.value.selection_set.ty)) (selections_of d.value.value.selection_set) (kind.FragmentSpread spread.p) spread.here =
                  subst (λ x. ReachableOn schema (without visited_fragments fragments) (type_under schema None (Some x.value.value.selection_set.ty)) (selections_of x.value.value.selection_set) (kind.FragmentSpread spread.p) spread.here) same_d reachable.2 in
                  elim (avoids_or_goes_through visited_fragments names from_d) [
                    | inl avoids ↦ inner name (record { p = spread.p; here = spread.here; reachable_on = avoids; named = spread.named })
                    | inr t ↦ inner name (record {
                      p = spread.p;
                      here = spread.here;
                      reachable_on = subst (λ x. ReachableOn schema (without names fragments) (type_under schema None (Some x.value.value.selection_set.ty)) (selections_of x.value.value.selection_set) (kind.FragmentSpread spread.p) spread.here)
                          (sym (it_is_found schema fragments variables one visited_fragments parent p d found fresh names grown t.name t.d t.visited_fragments t.fresh t.found)) t.reachable_on;
                      named = spread.named;
                    })
                  ]
            ];
      }
      walks_fragment (Err x) new further w = record {
        reports = kept_then (kept_wider (spread_says parent p) (kept_by checked)) (kept_wider (fragment_says parent p d found) w.reports);
        more = p.value.value.fragment_name ∷ w.more;
        grown = w.grown ∙ ap (λ l. l ++ w.more) grown ∙ append_assoc visited_fragments (p.value.value.fragment_name ∷ []) w.more;
      }

  -- over a fragment
  module _ (d : Node Fragment) {old mid : List DiagnosticEntry}
      (checked : ReportsWithin IsLimitEntry (FragmentHolds schema fragments variables d)
      (λ e. IsDiagnostic (FragmentReport schema fragments variables d) e ⊎ FragmentLimit fragments d e.details e.location) old mid) where
    pub walks_definition : {T E : Type 0} (r : Result T E) (visited_fragments new : List NameText) (further : List DiagnosticEntry) →
        Walks r schema fragments variables (type_under schema None (Some d.value.value.selection_set.ty)) (selections_of d.value.value.selection_set) visited_fragments new mid further →
        FragmentWalks r schema fragments variables d visited_fragments new old further
    walks_definition (Ok x) visited_fragments new further w = record {
      reports = both_within IsLimitEntry (wider_within IsLimitEntry (λ e q. inl q) checked) (wider_within IsLimitEntry (λ e q. inr q) w.reports);
      goes = w.goes;
      gone = λ same. w.gone (both_unchanged (kept_within IsLimitEntry checked) (kept_within IsLimitEntry w.reports) same).1;
    }
    walks_definition (Err x) visited_fragments new further w = record {
      reports = kept_then (kept_wider (λ e q. inl q) (kept_within IsLimitEntry checked)) (kept_wider (λ e q. inr q) w.reports);
      more = w.more;
      grown = w.grown;
    }

    -- which is not looked into where something of it was reported
    pub walked_definition_alone : ¬ (mid ≡ old) → (visited_fragments : List NameText) → FragmentWalkAnswers schema fragments variables d visited_fragments visited_fragments old mid
    walked_definition_alone reported visited_fragments = record {
      reports = record {
        added = checked.added;
        appended = checked.appended;
        silent = λ no_limit. (
          λ none. absurd (reported (is_unchanged old mid checked.added checked.appended none)),
          λ h. (checked.silent no_limit).1 h.0,
        );
        each = All-weaker _ (FragmentEntryReport schema fragments variables d) (λ e q. inl q) checked.added checked.each;
      };
      goes = goes_nowhere fragments visited_fragments;
      gone = λ same. absurd (reported same);
    }
