use Rattle.std.proofs.Common.{◌∙◌, All, subst, sym, true≢false}
use Rattle.std.proofs.lemmas.List.Elements.{All-nil}
use Rattle.graphql_diagnostics.specs.Diagnostics.{IsLimitEntry}
use Rattle.graphql_diagnostics.specs.declared.lists.DiagnosticEntry.{DiagnosticEntry}
use Rattle.graphql_frontend.proofs.documents.validate_beside.Goals as goal

pub returns-then-is_empty : goal.returns-then-is_empty
returns-then-is_empty c = λ are bytes nests reaches. (
  nests,
  reaches,
  λ built.
      let nothing = c.is_empty.ensures.0 c.if-is_empty.true in
      let no_limit =
      subst (All (λ (e : DiagnosticEntry). ¬ IsLimitEntry e)) (sym nothing.0) (All-nil (λ (e : DiagnosticEntry). ¬ IsLimitEntry e)) in
      ((c.in_ok-reports.ensures are).decides built no_limit).0 nothing,
)

pub returns-else-is_empty : goal.returns-else-is_empty
returns-else-is_empty c = λ are bytes nests reaches.
    (nests, reaches, λ nothing. true≢false (sym (c.is_empty.ensures.1 nothing) ∙ c.if-is_empty.false), c.in_ok-reports.ensures are)
