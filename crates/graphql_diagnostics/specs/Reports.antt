-- What a call that reports has done to a list of diagnostics.
use Rattle.std.specs.Prelude.{◌≡◌, ◌↔◌, List, [], ◌++◌, All, Result, MatchResult, ◌⊎◌}
use Rattle.graphql_diagnostics.specs.Diagnostics.{entries, IsLimitEntry}
use Rattle.graphql_diagnostics.specs.declared.lists.DiagnosticEntry.{DiagnosticEntry}
use Rattle.graphql_diagnostics.specs.declared.lists.DiagnosticList.{DiagnosticList}

module _ {Entry : Type 0} where
  -- the new list is the old one with more reports behind it, each of them true
  pub record KeepsReports (IsTrueReport : Entry → Type 0) (old new : List Entry) : Type 0 where
    pub added : List Entry
    pub appended : new ≡ old ++ added
    pub each : All IsTrueReport added

  -- the new list is the old one with more reports behind it, and this holds of them together
  pub record Appends (Are : List Entry → Type 0) (old new : List Entry) : Type 0 where
    pub added : List Entry
    pub appended : new ≡ old ++ added
    pub are : Are added

  -- each further diagnostic is true, and there is none exactly where the rule holds
  pub record Reports (Holds : Type 0) (IsTrueReport : Entry → Type 0) (old new : List Entry) : Type 0 where
    pub added : List Entry
    pub appended : new ≡ old ++ added
    pub silent : (added ≡ []) ↔ Holds
    pub each : All IsTrueReport added

  -- the same of a rule that a walk with a limit seeks: each further diagnostic is true, and where none of
  -- them is of a limit, there is none exactly where the rule holds
  pub record ReportsWithin (IsOfLimit : Entry → Type 0) (Holds : Type 0) (IsTrueReport : Entry → Type 0) (old new : List Entry) : Type 0 where
    pub added : List Entry
    pub appended : new ≡ old ++ added
    pub silent : All (λ e. ¬ IsOfLimit e) added → ((added ≡ []) ↔ Holds)
    pub each : All IsTrueReport added

-- a call that checks a rule: where it answers, it reports nothing exactly where the rule holds; in
-- any case the old diagnostics stay, and each further one is true
abbrev pub Checks : {T E : Type 0} → Result T E → Type 0 → (DiagnosticEntry → Type 0) → DiagnosticList → DiagnosticList → Type 0
Checks result Holds IsTrueReport old new =
    MatchResult result
    (λ _. Reports Holds IsTrueReport (entries old) (entries new))
    (λ _. KeepsReports IsTrueReport (entries old) (entries new))

-- a call that checks a rule within a limit: each further diagnostic is true, of the rule or of the limit; and
-- where it answers and none is of a limit, there is none exactly where the rule holds
abbrev pub ChecksWithin : {T E : Type 0} → Result T E → Type 0 → (DiagnosticEntry → Type 0) → (DiagnosticEntry → Type 0) → DiagnosticList → DiagnosticList → Type 0
ChecksWithin result Holds IsTrueReport IsTrueLimit old new =
    MatchResult result
    (λ _. ReportsWithin IsLimitEntry Holds (λ e. IsTrueReport e ⊎ IsTrueLimit e) (entries old) (entries new))
    (λ _. KeepsReports (λ e. IsTrueReport e ⊎ IsTrueLimit e) (entries old) (entries new))
