use Rattle.std.proofs.Common.{◌∷◌, ◌++◌, []}
use Rattle.std.proofs.lemmas.List.Elements.{All-append, All-cons, All-nil}
use Rattle.graphql_diagnostics.specs.Diagnostics.{IsLimitEntry}
use Rattle.graphql_diagnostics.specs.declared.lists.DiagnosticEntry.{DiagnosticEntry}
use Rattle.graphql_documents.proofs.ListLemmas.{done_next}
use Rattle.graphql_change_witnesses.proofs.confirmation.has_no_limit.Goals as goal

pub loop-entry-preserved : goal.loop-entry-preserved
loop-entry-preserved c =
    let done = c.loop-entry.invariant.done in
    let x : DiagnosticEntry = c.in-Some.entry.now in
    let P : DiagnosticEntry → Type 0 = (λ e. ¬ IsLimitEntry e) in
    record {
      done = done ++ x ∷ [];
      all = done_next _ done c.loop-entry.entry-iterator.rest.now c.next.new.self.rest.now x c.loop-entry.invariant.all c.in-Some.ensures.steps;
      none = All-append P done (x ∷ []) c.loop-entry.invariant.none (All-cons P x [] (c.is_of_rule.ensures.0 c.if-not-is_of_rule.false) (All-nil P));
    }
