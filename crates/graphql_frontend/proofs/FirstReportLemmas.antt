-- The first reports of a check say that its rule is broken.
use Rattle.std.proofs.Common.{◌≡◌, ◌≢◌, ◌<◌, ◌∙◌, ◌++◌, ◌∷◌, ℕ, [], All, Err, List, None, Ok, Option, Result, Some, length, map, refl, subst, sym, true≢false}
use Rattle.std.specs.Prelude.{IfOk, IsSome, MatchResult, OnErr, Vec, find, slice_index_or}
use Rattle.std.specs.declared.alloc.Global.{Global}
use Rattle.std.proofs.lemmas.List.Elements.{All-head}
use Rattle.std.proofs.lemmas.List.{append_assoc, map-id}
use Rattle.graphql_diagnostics.specs.Reports.{KeepsReports, Reports}
use Rattle.graphql_diagnostics.specs.declared.lists.DiagnosticEntry.{DiagnosticEntry}
use Rattle.graphql_documents.specs.Definitions.{variable_named}
use Rattle.graphql_documents.specs.Executables.{operations_of}
use Rattle.graphql_documents.specs.Selections.{fragments_of}
use Rattle.graphql_documents.specs.declared.documents.executables.ExecutableDocument.{ExecutableDocument}
use Rattle.graphql_documents.specs.declared.documents.executables.Operation.{Operation}
use Rattle.graphql_documents.specs.declared.documents.schemas.Schema.{Schema}
use Rattle.graphql_documents.specs.declared.documents.values.Value.{Value}
use Rattle.graphql_input_rules.specs.InputFields.{FieldReport, FieldsAreUnique}
use Rattle.graphql_input_rules.specs.declared.reports.InputFieldRepetition.{InputFieldRepetition}
use Rattle.graphql_nodes.specs.Names.{AreDistinct, NameText, same_name}
use Rattle.graphql_nodes.specs.declared.nodes.Node.{Node}
use Rattle.graphql_document_checking.specs.Repetitions.{Repeats}
use Rattle.graphql_schema_building.proofs.DistinctLemmas.{distinct_front, last_is_new}
use Rattle.graphql_usage_rules.proofs.VariableLemmas.{all_defined}
use Rattle.graphql_usage_rules.specs.UndefinedVariables.{DocumentUndefinedReport, UsedVariablesAreDefined, VariableUsesAreDefined}
use Rattle.graphql_usage_rules.specs.VariableMisuses.{OperationUsagesAreAllowed}
use Rattle.graphql_usage_rules.specs.declared.reports.VariableMisuse.{VariableMisuse}
use Rattle.graphql_frontend.specs.Documents.{IsMisuseReport, UsagesAreAllowed}
use Rattle.graphql_frontend.proofs.ReportLemmas.{kept}

-- a true report excludes that the rule holds, so there is none where it does
none_if_it_holds : {Report : Type 0} (Holds : Type 0) (IsTrueReport : Report → Type 0) (reports : List Report) → All IsTrueReport reports →
    ((r : Report) → IsTrueReport r → ¬ Holds) → Holds → reports ≡ []
none_if_it_holds Holds IsTrueReport [] each excludes holds = refl
none_if_it_holds Holds IsTrueReport (r ∷ reports) each excludes holds = absurd (excludes r (All-head IsTrueReport r reports each) holds)

-- what a list that began empty says of the rule, if the check answered or the list kept a report
pub decided : {T E Report : Type 0} (checked : Result T E) (Holds : Type 0) (IsTrueReport : Report → Type 0) (old new reports : List Report) →
    MatchResult checked (λ _. Reports Holds IsTrueReport old new) (λ _. KeepsReports IsTrueReport old new) → old ≡ [] →
    reports ≡ new → OnErr checked (reports ≢ []) → ((r : Report) → IsTrueReport r → ¬ Holds) → Reports Holds IsTrueReport [] reports
decided (Ok x) Holds IsTrueReport old new reports said empty same some excludes =
    subst (Reports Holds IsTrueReport []) (sym same) (subst (λ l. Reports Holds IsTrueReport l new) empty said)
decided (Err e) Holds IsTrueReport old new reports said empty same some excludes =
    let each : All IsTrueReport reports = subst (All IsTrueReport) (sym same) (kept IsTrueReport old new said empty) in
    record {
      added = reports;
      appended = refl;
      silent = (λ none. absurd (some none), none_if_it_holds Holds IsTrueReport reports each excludes);
      each = each;
    }

-- the same of what a call answers about such a list
pub decides_if_ok : {T E F Report : Type 0} (checked : Result T E) (Holds : Type 0) (IsTrueReport : Report → Type 0) (old new : List Report) (result : Result (Vec Report Global) F) →
    MatchResult checked (λ _. Reports Holds IsTrueReport old new) (λ _. KeepsReports IsTrueReport old new) → old ≡ [] →
    IfOk result (λ reports. reports.items ≡ new) → IfOk result (λ reports. OnErr checked (reports.items ≢ [])) → ((r : Report) → IsTrueReport r → ¬ Holds) →
    IfOk result (λ reports. Reports Holds IsTrueReport [] reports.items)
decides_if_ok checked Holds IsTrueReport old new (Ok reports) said empty same some excludes = decided checked Holds IsTrueReport old new reports.items said empty same some excludes
decides_if_ok checked Holds IsTrueReport old new (Err e) said empty same some excludes = tt

-- a name that is there again excludes that the names are distinct
repeated : (names : List NameText) (first again : NameText) → Repeats names first again → ¬ AreDistinct names
repeated names first again r distinct =
    let split : AreDistinct ((r.before ++ again ∷ []) ++ r.after) =
    subst AreDistinct (sym (append_assoc r.before (again ∷ []) r.after)) (subst AreDistinct r.split distinct) in
    let front : AreDistinct (map (λ (n : NameText). n) (r.before ++ again ∷ [])) =
    distinct_front (λ (n : NameText). n) (r.before ++ again ∷ []) r.after (subst AreDistinct (sym (map-id ((r.before ++ again ∷ []) ++ r.after))) split) in
    let none : find (λ n. same_name n again) r.before ≡ None = last_is_new (λ (n : NameText). n) r.before again front in
    let both = sym none ∙ r.first_is in
    let no : ⊥ = cc in
    no

-- a true report of a repeated input field excludes that input fields are unique
pub field_excludes : (IsWritten : Value → Type 0) (r : InputFieldRepetition) → FieldReport IsWritten r → ¬ FieldsAreUnique IsWritten
field_excludes IsWritten r report unique =
    repeated _ report.repetition.first report.repetition.again report.repetition.repeats (unique report.entries report.written)

-- what holds of all holds of one of them
of_one : {X : Type 0} (Q : X → Type 0) (xs : List X) (k : ℕ) (x : X) → All Q xs → k < length xs → slice_index_or xs k x ≡ x → Q x
of_one Q xs k x all within at = subst Q at (all k x within)

-- something that is found is not nothing
is_there : {X : Type 0} (found : Option X) → IsSome found → ¬ (found ≡ None)
is_there found some none = true≢false (sym (subst IsSome none some))

-- so does one of an undefined variable that all are defined
pub undefined_excludes : (document : ExecutableDocument) (e : DiagnosticEntry) → DocumentUndefinedReport document e → ¬ VariableUsesAreDefined document
undefined_excludes document e report all =
    let (k, o, within, at, said) = report in
    let operation = o.value.value in
    let defined : UsedVariablesAreDefined (fragments_of document) operation =
    of_one (λ (x : Node Operation). UsedVariablesAreDefined (fragments_of document) x.value.value) (operations_of document) k o all within at in
    let (variable, in_scope, undefined) = said in
    is_there (variable_named undefined.name operation.variables.items)
    ((all_defined (fragments_of document) operation).1 defined variable in_scope undefined.name undefined.is_variable) undefined.undefined

-- and one of a usage that all are allowed
pub misuse_excludes : (schema : Option Schema) (document : ExecutableDocument) (m : VariableMisuse) → IsMisuseReport schema document m → ¬ UsagesAreAllowed schema document
misuse_excludes None document m report all = report
misuse_excludes (Some schema) document m report all =
    let (k, o, within, at, misuse) = report in
    let allowed : OperationUsagesAreAllowed schema document o.value.value =
    of_one (λ (x : Node Operation). OperationUsagesAreAllowed schema document x.value.value) (operations_of document) k o all within at in
    misuse.disallowed (allowed misuse.usage misuse.used misuse.v misuse.is_variable)
