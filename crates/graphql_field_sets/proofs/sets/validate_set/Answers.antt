use Rattle.std.proofs.Common.{[], Some, refl, subst, ◌∙◌}
use Rattle.std.proofs.lemmas.Result.{MatchResult-from_err, MatchResult-weaker}
use Rattle.graphql_diagnostics.proofs.ReportLemmas.{kept}
use Rattle.graphql_diagnostics.specs.Diagnostics.{entries}
use Rattle.graphql_documents.specs.Selections.{fragments_of, selections_of}
use Rattle.graphql_documents.proofs.SelectionLemmas.{one_fragment_found}
use Rattle.graphql_validation.specs.Contexts.{visited_fragment_names}
use Rattle.graphql_validation.specs.SelectionSteps.{Walks}
use Rattle.graphql_validation.proofs.WalkLemmas.{walks_as}
use Rattle.graphql_validation.proofs.FieldSetLemmas.{field_set_checked, field_set_kept, has_no_fragments}
use Rattle.graphql_field_sets.proofs.sets.validate_set.Goals as goal

pub returns-in_err-variables : goal.returns-in_err-variables
returns-in_err-variables c = MatchResult-from_err _ _ _ c.from_residual.ensures.0 (λ y. kept _ _)

pub returns : goal.returns
returns c =
    let s = c.args.schema.now in
    let set = c.args.set.now in
    let D = c.empty_document-document.result in
    let r = c.validate_selection_set.result in
    let new = visited_fragment_names c.validate_selection_set.new.context in
    let old = entries c.args.diagnostics.now in
    let further = entries c.validate_selection_set.new.diagnostics in
    MatchResult-weaker r
    (subst (λ F. Walks r (Some s) F [] (Some set.ty) (selections_of set) [] new old further) (has_no_fragments D c.empty_document-document.ensures)
    (walks_as (Some s) (fragments_of D) [] (one_fragment_found D) r new old further
    c.new-context.ensures.schema (c.new-context.ensures.variables ∙ c.in_ok-variables.ensures) refl refl c.new-context.ensures.visited_fragments c.validate_selection_set.ensures.walks))
    (λ _ w. field_set_checked s set w)
    (λ _ k. field_set_kept s set k)
