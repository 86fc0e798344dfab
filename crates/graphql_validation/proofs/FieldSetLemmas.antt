-- A field set has no fragments, so what a walk over it says comes without a limit.
use Rattle.std.proofs.Common.{◌≡◌, inl, inr, true, false, List, [], Some, ap}
use Rattle.std.specs.Map.{lookup}
use Rattle.std.specs.Prelude.{Result, Ok, Err, MatchResult}
use Rattle.std.proofs.lemmas.Option.{none-some}
use Rattle.std.proofs.lemmas.List.Elements.{All-weaker}
use Rattle.graphql_diagnostics.specs.Diagnostics.{IsLimitEntry}
use Rattle.graphql_specification.specs.FieldSets.{FieldSetHolds, FieldSetReport}
use Rattle.graphql_nodes.specs.Names.{NameText, same_name}
use Rattle.graphql_diagnostics.specs.Reports.{KeepsReports, Reports}
use Rattle.graphql_documents.specs.Selections.{Fragments, fragments_of, no_fragments, selections_of}
use Rattle.graphql_diagnostics.specs.declared.lists.DiagnosticEntry.{DiagnosticEntry}
use Rattle.graphql_documents.specs.declared.documents.executables.ExecutableDocument.{ExecutableDocument}
use Rattle.graphql_documents.specs.declared.documents.executables.Fragment.{Fragment}
use Rattle.graphql_documents.specs.declared.documents.executables.SelectionSet.{SelectionSet}
use Rattle.graphql_nodes.specs.declared.nodes.Node.{Node}
use Rattle.graphql_documents.specs.declared.documents.schemas.Schema.{Schema}
use Rattle.graphql_validation.proofs.LimitLemmas.{limit_says, says_limit, says_no_bound}
use Rattle.graphql_rules.specs.SelectionSteps.{SelectionEntryReport, WalkAnswers, WalkStops}

-- a document without fragments
pub has_no_fragments : (document : ExecutableDocument) → document.fragments.entries ≡ [] → fragments_of document ≡ no_fragments
has_no_fragments document none =
    let found_in : List (NameText × Node Fragment) → Fragments = λ es name. lookup (same_name name) es in
    ap found_in none

module _ (schema : Schema) (set : SelectionSet) where
  -- where there are no fragments, none nests too deep
  only_broken : (e : DiagnosticEntry) → SelectionEntryReport (Some schema) no_fragments [] (Some set.ty) (selections_of set) e → FieldSetReport schema set e
  only_broken e (inl says) = says
  only_broken e (inr limit) = absurd (none-some limit.d limit.found)

  no_limit : (e : DiagnosticEntry) → FieldSetReport schema set e → ¬ IsLimitEntry e
  no_limit e says limit =
      let is : says_limit e.details ≡ true = limit_says e.details limit in
      let is_none : says_limit e.details ≡ false = says_no_bound (Some schema) no_fragments [] (Some set.ty) (selections_of set) e.details e.location says in
      let no' : ⊥ = cc in no'

  pub field_set_checked : {visited_fragments : List NameText} {old new : List DiagnosticEntry} →
      WalkAnswers (Some schema) no_fragments [] (Some set.ty) (selections_of set) [] visited_fragments old new →
      Reports (FieldSetHolds schema set) (FieldSetReport schema set) old new
  field_set_checked w =
      let each = All-weaker _ (FieldSetReport schema set) only_broken w.reports.added w.reports.each in
      record {
        added = w.reports.added;
        appended = w.reports.appended;
        silent = w.reports.silent (All-weaker (FieldSetReport schema set) (λ e. ¬ IsLimitEntry e) no_limit w.reports.added each);
        each = each;
      }

  -- none of them is of a limit
  pub field_set_has_no_limit : {T E : Type 0} (r : Result T E) {old new : List DiagnosticEntry} →
      MatchResult r (λ _. Reports (FieldSetHolds schema set) (FieldSetReport schema set) old new) (λ _. KeepsReports (FieldSetReport schema set) old new) →
      KeepsReports (λ e. ¬ IsLimitEntry e) old new
  field_set_has_no_limit (Ok v) x =
      record { added = x.added; appended = x.appended; each = All-weaker (FieldSetReport schema set) (λ e. ¬ IsLimitEntry e) no_limit x.added x.each }
  field_set_has_no_limit (Err e) x =
      record { added = x.added; appended = x.appended; each = All-weaker (FieldSetReport schema set) (λ e. ¬ IsLimitEntry e) no_limit x.added x.each }

  pub field_set_kept : {visited_fragments : List NameText} {old new : List DiagnosticEntry} →
      WalkStops (Some schema) no_fragments [] (Some set.ty) (selections_of set) [] visited_fragments old new →
      KeepsReports (FieldSetReport schema set) old new
  field_set_kept s = record {
    added = s.reports.added;
    appended = s.reports.appended;
    each = All-weaker _ (FieldSetReport schema set) only_broken s.reports.added s.reports.each;
  }
