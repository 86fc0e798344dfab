-- Inline fragments, spreads and fragments, in the words of what is asked of them.
use Rattle.std.proofs.Common.{◌≡◌, ◌↔◌, ◌⊎◌, inl, inr, ◌+◌, ◌<◌, ◌≤◌, List, [], ◌∷◌, ◌++◌, All, append_assoc, length, Bool, IsTrue, false, Option, None, Some, Result, Ok, Err, IfOk, refl, sym, ap, ◌∙◌, subst, arith}
use Rattle.std.proofs.lemmas.List.{append-nil, append_cancel_left, length-append}
use Rattle.std.proofs.lemmas.List.Elements.{All-nil}
use Rattle.graphql_documents.proofs.ListLemmas.{All-append_right}
use Rattle.std.proofs.lemmas.Option.{none-some, same_Some}
use Rattle.graphql_diagnostics.specs.Diagnostics.{IsDiagnostic, IsLimitEntry}
use Rattle.graphql_specification.specs.Directives.{ApplicationsHold}
use Rattle.graphql_specification.specs.Fragments.{FragmentHasNoCycle, FragmentHolds, InlineFragmentHolds, IsPossibleAt, IsPossibleIn, NamesComposite, TargetHolds, FragmentLimit, FragmentFormReport, ImpossibleReport, InlineFragmentConditionReport, InvalidTargetReport, SpreadTargetReport, FragmentReport, InlineFragmentReport, SpreadReport, by_condition, by_fragment, by_spread}
use Rattle.graphql_nodes.specs.Names.{NameText}
use Rattle.graphql_diagnostics.specs.Reports.{KeepsReports, Reports, ReportsWithin}
use Rattle.graphql_documents.specs.Selections.{Fragments}
use Rattle.graphql_specification.proofs.FragmentReportLemmas.{fragment_target, inline_impossible, inline_target, spread_impossible}
use Rattle.graphql_diagnostics.proofs.DiagnosticLemmas.{diagnostic_wider}
use Rattle.graphql_diagnostics.proofs.ReportLemmas.{ChecksList, checks_words, wider}
use Rattle.graphql_diagnostics.proofs.ReportWithinLemmas.{both_within, in_words_within, wider_within, within}
use Rattle.graphql_diagnostics.specs.declared.data.DiagnosticData.{DiagnosticData}
use Rattle.graphql_diagnostics.specs.declared.lists.DiagnosticEntry.{DiagnosticEntry}
use Rattle.graphql_nodes.specs.declared.directive_locations.DirectiveLocation.TheVariants as at
use Rattle.graphql_documents.specs.declared.documents.definitions.VariableDefinition.{VariableDefinition}
use Rattle.graphql_documents.specs.declared.documents.executables.Fragment.{Fragment}
use Rattle.graphql_documents.specs.declared.documents.executables.FragmentSpread.{FragmentSpread}
use Rattle.graphql_documents.specs.declared.documents.executables.InlineFragment.{InlineFragment}
use Rattle.graphql_nodes.specs.declared.nodes.Node.{Node}
use Rattle.graphql_documents.specs.declared.documents.schemas.Schema.{Schema}
use Rattle.graphql_nodes.specs.declared.spans.SourceSpan.{SourceSpan}
use Rattle.graphql_rules.specs.SelectionSteps.{ConditionHolds, IsUndefined, SpreadStands, is_undefined}

-- a rule that holds adds nothing
pub not_silent : {Entry P : Type 0} {Q : Entry → Type 0} {old new : List Entry} → Reports P Q old new → length old < length new → ¬ P
not_silent {old = old} {new = new} r longer p =
    let same : length new ≡ length old = ap length (r.appended ∙ ap (λ l. old ++ l) (r.silent.1 p) ∙ append-nil old) in
    omega (arith, same, longer)

-- where nothing was added in all, nothing was added in the second step
pub kept_second : {Entry : Type 0} {P Q : Entry → Type 0} {old mid new : List Entry} → KeepsReports P old mid → KeepsReports Q mid new →
    new ≡ old → length new ≡ length mid
kept_second {old = old} {mid = mid} {new = new} a b same =
    let first : length mid ≡ length old + length a.added = ap length a.appended ∙ length-append old a.added in
    let second : length new ≡ length mid + length b.added = ap length b.appended ∙ length-append mid b.added in
    let all : length new ≡ length old = ap length same in
    omega (arith, first, second, all)

nothing_added : {Entry : Type 0} (xs : List Entry) → length xs ≡ 0 → xs ≡ []
nothing_added [] e = refl
nothing_added (x ∷ xs) e = absurd (let no : ⊥ = omega (arith, e) in no)

-- where the list is no longer, the rule holds
pub silent_rule : {Entry P : Type 0} {Q : Entry → Type 0} {old new : List Entry} → Reports P Q old new → length new ≤ length old → P
silent_rule {old = old} {new = new} r short =
    let all : length new ≡ length old + length r.added = ap length r.appended ∙ length-append old r.added in
    r.silent.0 (nothing_added r.added (omega (arith, all, short)))

-- two rules, the second within a limit: where nothing was added both hold; and where both hold and none of what was
-- added is of a limit, nothing was added
module _ {Entry P R : Type 0} {Q Q' IsOfLimit : Entry → Type 0} {old mid new : List Entry} (a : Reports P Q old mid) (b : ReportsWithin IsOfLimit R Q' mid new) where
  pub both_hold : length new ≡ length old → P × R
  both_hold same =
      let first : length mid ≡ length old + length a.added = ap length a.appended ∙ length-append old a.added in
      let second : length new ≡ length mid + length b.added = ap length b.appended ∙ length-append mid b.added in
      let none_first = nothing_added a.added (omega (arith, first, second, same)) in
      let none_second = nothing_added b.added (omega (arith, first, second, same)) in
      (a.silent.0 none_first, (b.silent (subst (All (λ e. ¬ IsOfLimit e)) (sym none_second) (All-nil (λ e. ¬ IsOfLimit e)))).0 none_second)

  pub none_added : {Q'' : Entry → Type 0} {start : List Entry} → KeepsReports Q'' start old → KeepsReports (λ e. ¬ IsOfLimit e) start new → P → R → length new ≡ length old
  none_added {start = start} before kept p r =
      let none_first = a.silent.1 p in
      let all : new ≡ start ++ (before.added ++ (a.added ++ b.added)) =
      b.appended ∙ ap (λ l. l ++ b.added) (a.appended ∙ ap (λ l. l ++ a.added) before.appended) ∙ append_assoc (start ++ before.added) a.added b.added ∙
      append_assoc start before.added (a.added ++ b.added) in
      let same : kept.added ≡ before.added ++ (a.added ++ b.added) = append_cancel_left start kept.added (before.added ++ (a.added ++ b.added)) (sym kept.appended ∙ all) in
      let each = All-append_right (λ e. ¬ IsOfLimit e) a.added b.added
      (All-append_right (λ e. ¬ IsOfLimit e) before.added (a.added ++ b.added) (subst (All (λ e. ¬ IsOfLimit e)) same kept.each)) in
      let none_second = (b.silent each).1 r in
      let first : length mid ≡ length old + length a.added = ap length a.appended ∙ length-append old a.added in
      let second : length new ≡ length mid + length b.added = ap length b.appended ∙ length-append mid b.added in
      let zero_first : length a.added ≡ 0 = ap length none_first in
      let zero_second : length b.added ≡ 0 = ap length none_second in
      omega (arith, first, second, zero_first, zero_second)

-- a check that says no, of a rule that is stronger
pub says_no : {E : Type 0} (result : Result Bool E) (P R : Type 0) → (R → P) → IfOk result (λ goes_on. goes_on ≡ false → ¬ P) →
    IfOk result (λ goes_on. goes_on ≡ false → ¬ R)
says_no (Ok x) P R needs says = λ is r. says is (needs r)
says_no (Err e) P R needs says = says

-- what is known of the condition of an inline fragment
pub known_target : {E : Type 0} (result : Result Bool E) (schema : Option Schema) (given : Option NameText) (condition : NameText) → given ≡ Some condition →
    IfOk result (λ goes_on. IsTrue goes_on → TargetHolds schema condition) →
    IfOk result (λ goes_on. IsTrue goes_on → (other : NameText) → given ≡ Some other → TargetHolds schema other)
known_target (Ok x) schema given condition is known = λ yes other is'. subst (TargetHolds schema) (same_Some condition other (sym is ∙ is')) (known yes)
known_target (Err e) schema given condition is known = known

-- without a schema, and where the type around is not known, nothing is asked of a condition
module _ (schema : Option Schema) (condition : NameText) where
  pub target_unasked : schema ≡ None → TargetHolds schema condition
  target_unasked none = λ s is. absurd (none-some s (sym none ∙ is))

  pub possible_unasked : (parent : Option NameText) → schema ≡ None → IsPossibleIn schema condition parent
  possible_unasked parent none = λ s is. absurd (none-some s (sym none ∙ is))

  pub possible_anywhere : (parent : Option NameText) → parent ≡ None → IsPossibleIn schema condition parent
  possible_anywhere parent none = subst (IsPossibleIn schema condition) (sym none) (λ s is. tt)

  -- with one, that is asked which its contract says
  pub target_decides : (s : Schema) → schema ≡ Some s → NamesComposite s condition ↔ TargetHolds schema condition
  target_decides s has =
      (λ h t is. subst (λ x. NamesComposite x condition) (same_Some s t (sym has ∙ is)) h, λ h. h s has)

  pub possible_decides : (parent : Option NameText) (s : Schema) (p : NameText) → schema ≡ Some s → parent ≡ Some p →
      IsPossibleAt s condition (Some p) ↔ IsPossibleIn schema condition parent
  possible_decides parent s p has is = (
    λ h t is'. subst (λ q. IsPossibleAt t condition q) (sym is) (subst (λ x. IsPossibleAt x condition (Some p)) (same_Some s t (sym has ∙ is')) h),
    λ h. subst (λ q. IsPossibleAt s condition q) is (h s has),
  )

-- the condition of an inline fragment
module _ (schema : Option Schema) (parent : Option NameText) (i : Node InlineFragment) (condition : NameText) (s : Schema)
    (has : schema ≡ Some s) (is : i.value.value.type_condition ≡ Some condition) where
  pub names_target : (e : DiagnosticEntry) → IsDiagnostic (InvalidTargetReport (Some s) None condition i.location) e → IsDiagnostic (InlineFragmentConditionReport schema parent i) e
  names_target e said =
      diagnostic_wider (InvalidTargetReport schema None condition i.location) (InlineFragmentConditionReport schema parent i) (inline_target parent i condition is) e
      (subst (λ o. IsDiagnostic (InvalidTargetReport o None condition i.location) e) (sym has) said)

  module _ (p : NameText) (around : parent ≡ Some p) where
    pub names_impossible : (e : DiagnosticEntry) → IsDiagnostic (ImpossibleReport (Some s) None condition (Some p) i.location i.location) e →
        IsDiagnostic (InlineFragmentConditionReport schema parent i) e
    names_impossible e said =
        diagnostic_wider (ImpossibleReport schema None condition parent i.location i.location) (InlineFragmentConditionReport schema parent i) (inline_impossible parent i condition is) e
        (subst (λ o. IsDiagnostic (ImpossibleReport o None condition parent i.location i.location) e) (sym has)
        (subst (λ q. IsDiagnostic (ImpossibleReport (Some s) None condition q i.location i.location) e) (sym around) said))

    -- both are asked of it
    pub condition_decides : (t : Schema) → schema ≡ Some t →
        (NamesComposite s condition × IsPossibleAt t condition (Some p)) ↔ ConditionHolds schema parent condition
    condition_decides t against =
        let target = target_decides schema condition s has in
        let possible = possible_decides schema condition parent t p against around in (
          λ h. record { target = target.0 h.0; possible = possible.0 h.1 },
          λ h. (target.1 h.target, possible.1 h.possible),
        )

  -- or one, where the type around is not known
  pub condition_decides_alone : parent ≡ None → NamesComposite s condition ↔ ConditionHolds schema parent condition
  condition_decides_alone none =
      let target = target_decides schema condition s has in (
        λ h. record { target = target.0 h; possible = possible_anywhere schema condition parent none },
        λ h. target.1 h.target,
      )

  -- a condition that is no composite type
  pub condition_broken : ¬ NamesComposite s condition → NamesComposite s condition ↔ ConditionHolds schema parent condition
  condition_broken none = (λ h. absurd (none h), λ h. (target_decides schema condition s has).1 h.target)

pub condition_unasked : (schema : Option Schema) (parent : Option NameText) (condition : NameText) → schema ≡ None → ConditionHolds schema parent condition
condition_unasked schema parent condition none = record {
  target = target_unasked schema condition none;
  possible = possible_unasked schema condition parent none;
}

-- an inline fragment
module _ (schema : Option Schema) (variables : List (Node VariableDefinition)) (parent : Option NameText) (i : Node InlineFragment) where
  pub names_condition : (e : DiagnosticEntry) → IsDiagnostic (InlineFragmentConditionReport schema parent i) e → IsDiagnostic (InlineFragmentReport schema variables parent i) e
  names_condition = diagnostic_wider (InlineFragmentConditionReport schema parent i) (InlineFragmentReport schema variables parent i) (λ r at broken. by_condition broken)

  module _ (condition : NameText) (is : i.value.value.type_condition ≡ Some condition) where
    pub inline_decides : (ApplicationsHold schema variables at.InlineFragment i.value.value.directives.items × ConditionHolds schema parent condition) ↔
        InlineFragmentHolds schema variables parent i.value.value
    inline_decides = (
      λ p. record {
        directives = p.0;
        target = λ other is'. subst (TargetHolds schema) (same_Some condition other (sym is ∙ is')) p.1.target;
        possible = λ other is'. subst (λ c. IsPossibleIn schema c parent) (same_Some condition other (sym is ∙ is')) p.1.possible;
      },
      λ h. (h.directives, record { target = h.target condition is; possible = h.possible condition is }),
    )

    pub inline_needs : InlineFragmentHolds schema variables parent i.value.value → TargetHolds schema condition
    inline_needs h = h.target condition is

  pub inline_decides_alone : i.value.value.type_condition ≡ None →
      ApplicationsHold schema variables at.InlineFragment i.value.value.directives.items ↔ InlineFragmentHolds schema variables parent i.value.value
  inline_decides_alone none = (
    λ h. record {
      directives = h;
      target = λ condition is. absurd (none-some condition (sym none ∙ is));
      possible = λ condition is. absurd (none-some condition (sym none ∙ is));
    },
    λ h. h.directives,
  )

-- a spread
module _ (schema : Option Schema) (fragments : Fragments) (variables : List (Node VariableDefinition)) (parent : Option NameText) (p : Node FragmentSpread) where
  pub names_spread : (e : DiagnosticEntry) → IsDiagnostic (SpreadTargetReport schema fragments parent p) e → IsDiagnostic (SpreadReport schema fragments variables parent p) e
  names_spread = diagnostic_wider (SpreadTargetReport schema fragments parent p) (SpreadReport schema fragments variables parent p) (λ r at broken. by_spread broken)

  module _ (none : fragments p.value.value.fragment_name ≡ None) where
    of_undefined : (r : DiagnosticData) (at : Option SourceSpan) → IsUndefined p r at → SpreadTargetReport schema fragments parent p r at
    of_undefined r at is_undefined = record { undefined = none; name_is = refl; at_is = refl }

    pub names_undefined : (e : DiagnosticEntry) → IsDiagnostic (IsUndefined p) e → IsDiagnostic (SpreadReport schema fragments variables parent p) e
    names_undefined =
        diagnostic_wider (IsUndefined p) (SpreadReport schema fragments variables parent p) (λ r at said. by_spread (of_undefined r at said))

    pub undefined_decides : (ApplicationsHold schema variables at.FragmentSpread p.value.value.directives.items × ⊥) ↔
        SpreadStands schema fragments variables parent p.value.value
    undefined_decides = (λ h. absurd h.1, λ h. absurd (none-some h.definition (sym none ∙ h.defined)))

  module _ (d : Node Fragment) (found : fragments p.value.value.fragment_name ≡ Some d) where
    pub spread_decides : (ApplicationsHold schema variables at.FragmentSpread p.value.value.directives.items ×
        IsPossibleIn schema d.value.value.selection_set.ty parent) ↔ SpreadStands schema fragments variables parent p.value.value
    spread_decides = (
      λ h. record { directives = h.0; definition = d; defined = found; possible = h.1 },
      λ h. (
        h.directives,
        subst (λ (x : Node Fragment). IsPossibleIn schema x.value.value.selection_set.ty parent) (same_Some h.definition d (sym h.defined ∙ found)) h.possible,
      ),
    )

-- whether the fragment of a spread is possible where that is
module _ (schema : Option Schema) (fragments : Fragments) (parent : Option NameText) (p : Node FragmentSpread) (d : Node Fragment)
    (found : fragments p.value.value.fragment_name ≡ Some d) (s : Schema) (around condition : NameText)
    (has : schema ≡ Some s) (is : parent ≡ Some around) (same : condition ≡ d.value.value.selection_set.ty) where
  names_use : (e : DiagnosticEntry) → IsDiagnostic (ImpossibleReport (Some s) (Some p.value.value.fragment_name) condition (Some around) d.location p.location) e →
      IsDiagnostic (SpreadTargetReport schema fragments parent p) e
  names_use e said =
      let name = Some p.value.value.fragment_name in
      diagnostic_wider (ImpossibleReport schema name d.value.value.selection_set.ty parent d.location p.location) (SpreadTargetReport schema fragments parent p) (spread_impossible fragments parent p d found) e
      (subst (λ o. IsDiagnostic (ImpossibleReport o name d.value.value.selection_set.ty parent d.location p.location) e) (sym has)
      (subst (λ q. IsDiagnostic (ImpossibleReport (Some s) name d.value.value.selection_set.ty q d.location p.location) e) (sym is)
      (subst (λ c. IsDiagnostic (ImpossibleReport (Some s) name c (Some around) d.location p.location) e) same said)))

  use_decides : IsPossibleAt s condition (Some around) ↔ IsPossibleIn schema d.value.value.selection_set.ty parent
  use_decides =
      subst (λ c. IsPossibleAt s c (Some around) ↔ IsPossibleIn schema d.value.value.selection_set.ty parent) (sym same)
      (possible_decides schema d.value.value.selection_set.ty parent s around has is)

  pub use_checked : {T E : Type 0} (r : Result T E) (old new : List DiagnosticEntry) →
      ChecksList r (IsPossibleAt s condition (Some around))
      (IsDiagnostic (ImpossibleReport (Some s) (Some p.value.value.fragment_name) condition (Some around) d.location p.location)) old new →
      ChecksList r (IsPossibleIn schema d.value.value.selection_set.ty parent) (IsDiagnostic (SpreadTargetReport schema fragments parent p)) old new
  use_checked r old new checks =
      checks_words r (IsPossibleAt s condition (Some around)) (IsPossibleIn schema d.value.value.selection_set.ty parent)
      (IsDiagnostic (ImpossibleReport (Some s) (Some p.value.value.fragment_name) condition (Some around) d.location p.location))
      (IsDiagnostic (SpreadTargetReport schema fragments parent p)) old new use_decides names_use checks

-- the condition of a fragment
module _ (schema : Option Schema) (fragments : Fragments) (d : Node Fragment) (s : Schema) (name condition : NameText) (has : schema ≡ Some s)
    (same_name : name ≡ d.value.value.name) (same : condition ≡ d.value.value.selection_set.ty) where
  names_fragment_target : (e : DiagnosticEntry) → IsDiagnostic (InvalidTargetReport (Some s) (Some name) condition d.location) e →
      IsDiagnostic (FragmentFormReport schema fragments d) e
  names_fragment_target e said =
      diagnostic_wider (InvalidTargetReport schema (Some d.value.value.name) d.value.value.selection_set.ty d.location) (FragmentFormReport schema fragments d) (fragment_target fragments d) e
      (subst (λ o. IsDiagnostic (InvalidTargetReport o (Some d.value.value.name) d.value.value.selection_set.ty d.location) e) (sym has)
      (subst (λ n. IsDiagnostic (InvalidTargetReport (Some s) (Some n) d.value.value.selection_set.ty d.location) e) same_name
      (subst (λ c. IsDiagnostic (InvalidTargetReport (Some s) (Some name) c d.location) e) same said)))

  fragment_target_decides : NamesComposite s condition ↔ TargetHolds schema d.value.value.selection_set.ty
  fragment_target_decides =
      subst (λ c. NamesComposite s c ↔ TargetHolds schema d.value.value.selection_set.ty) (sym same)
      (target_decides schema d.value.value.selection_set.ty s has)

  pub target_checked : {T E : Type 0} (r : Result T E) (old new : List DiagnosticEntry) →
      ChecksList r (NamesComposite s condition) (IsDiagnostic (InvalidTargetReport (Some s) (Some name) condition d.location)) old new →
      ChecksList r (TargetHolds schema d.value.value.selection_set.ty) (IsDiagnostic (FragmentFormReport schema fragments d)) old new
  target_checked r old new checks =
      checks_words r (NamesComposite s condition) (TargetHolds schema d.value.value.selection_set.ty)
      (IsDiagnostic (InvalidTargetReport (Some s) (Some name) condition d.location)) (IsDiagnostic (FragmentFormReport schema fragments d)) old new
      fragment_target_decides names_fragment_target checks

-- a fragment by itself
module _ (schema : Option Schema) (fragments : Fragments) (variables : List (Node VariableDefinition)) (d : Node Fragment) where
  -- a diagnostic of it, or of a limit
  abbrev pub FragmentSaid : DiagnosticEntry → Type 0
  FragmentSaid e = IsDiagnostic (FragmentReport schema fragments variables d) e ⊎ FragmentLimit fragments d e.details e.location

  pub names_fragment : (e : DiagnosticEntry) → IsDiagnostic (FragmentFormReport schema fragments d) e → IsDiagnostic (FragmentReport schema fragments variables d) e
  names_fragment = diagnostic_wider (FragmentFormReport schema fragments d) (FragmentReport schema fragments variables d) (λ r at broken. by_fragment broken)

  pub names_said : (e : DiagnosticEntry) → IsDiagnostic (FragmentReport schema fragments variables d) e → FragmentSaid e
  names_said e said = inl said

  pub names_broken : (e : DiagnosticEntry) → IsDiagnostic (FragmentFormReport schema fragments d) e → FragmentSaid e
  names_broken e said = inl (names_fragment e said)

  pub names_cycle : (e : DiagnosticEntry) → IsDiagnostic (FragmentFormReport schema fragments d) e ⊎ FragmentLimit fragments d e.details e.location → FragmentSaid e
  names_cycle e (inl said) = inl (names_fragment e said)
  names_cycle e (inr limit) = inr limit

  pub fragment_decides : ((ApplicationsHold schema variables at.FragmentDefinition d.value.value.directives.items × TargetHolds schema d.value.value.selection_set.ty) ×
      FragmentHasNoCycle fragments d) ↔ FragmentHolds schema fragments variables d
  fragment_decides = (
    λ p. record { directives = p.0.0; target = p.0.1; no_cycle = p.1 },
    λ h. ((h.directives, h.target), h.no_cycle),
  )

  -- its directives, its condition and its spreads, one after another
  pub fragment_reported : {old directed targeted new : List DiagnosticEntry} →
      Reports (ApplicationsHold schema variables at.FragmentDefinition d.value.value.directives.items) (IsDiagnostic (FragmentReport schema fragments variables d)) old directed →
      Reports (TargetHolds schema d.value.value.selection_set.ty) (IsDiagnostic (FragmentFormReport schema fragments d)) directed targeted →
      ReportsWithin IsLimitEntry (FragmentHasNoCycle fragments d)
      (λ e. IsDiagnostic (FragmentFormReport schema fragments d) e ⊎ FragmentLimit fragments d e.details e.location) targeted new →
      ReportsWithin IsLimitEntry (FragmentHolds schema fragments variables d) FragmentSaid old new
  fragment_reported a b c =
      in_words_within IsLimitEntry fragment_decides
      (both_within IsLimitEntry (both_within IsLimitEntry (within IsLimitEntry (wider names_said a)) (within IsLimitEntry (wider names_broken b)))
      (wider_within IsLimitEntry names_cycle c))
