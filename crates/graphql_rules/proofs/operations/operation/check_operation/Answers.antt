-- The parts of an operation, one after another.
use Rattle.std.proofs.Common.{refl}
use Rattle.std.proofs.lemmas.Result.{MatchResult-from_err, MatchResult-weaker}
use Rattle.graphql_diagnostics.specs.Diagnostics.{IsLimitEntry, entries}
use Rattle.graphql_documents.specs.Selections.{fragments_of}
use Rattle.graphql_diagnostics.proofs.ReportLemmas.{both, kept_by, kept_then, kept_wider}
use Rattle.graphql_diagnostics.proofs.ReportWithinLemmas.{both_within, in_words_within, kept_within, wider_within, within}
use Rattle.graphql_documents.proofs.SelectionLemmas.{one_fragment_found}
use Rattle.graphql_rules.proofs.WalkLemmas.{walks_as}
use Rattle.graphql_operations.specs.Contexts.{visited_fragment_names, schema_of}
use Rattle.graphql_rules.proofs.OperationLemmas.{directives_checked, directives_kept, of_its_selections, of_its_uses, operation_decides, uses_checked, variables_checked, variables_kept}
use Rattle.graphql_rules.proofs.RuleSetLemmas.{both_of_others, directives_but, if_it_answers, in_words_of_others, of_check_within, of_selections_never, of_uses, variables_but}
use Rattle.graphql_specification.specs.Operations.{root_type}
use Rattle.graphql_documents.specs.Selections.{selections_of}
use Rattle.graphql_rules.proofs.operations.operation.check_operation.Goals as goal

pub returns-in_err-check_each_directive-clause-checks : goal.returns-in_err-check_each_directive-clause-checks
returns-in_err-check_each_directive-clause-checks c =
    MatchResult-from_err _ _ _ c.from_residual.ensures.0
    (λ y. directives_kept (schema_of c.args.context.now) c.args.document.now.document.now c.args.operation.now _ _ _ _ _ c.requires.variables c.location_of.ensures c.deref.ensures.value
    c.in_err-check_each_directive.ensures)

pub returns-in_err-validate_variable_definitions-clause-checks : goal.returns-in_err-validate_variable_definitions-clause-checks
returns-in_err-validate_variable_definitions-clause-checks c =
    let S = schema_of c.args.context.now in
    let o = c.args.operation.now in
    let D = c.args.document.now.document.now in
    MatchResult-from_err _ _ _ c.from_residual-in_err-validate_variable_definitions.ensures.0
    (λ y. kept_then
    (kept_by (directives_checked S D o _ _ _ _ _ c.requires.variables c.location_of.ensures c.deref.ensures.value c.in_ok-check_each_directive.ensures))
    (variables_kept S D o _ _ _ c.deref-2.ensures.value c.in_err-validate_variable_definitions.ensures))

pub returns-in_err-validate_unused_variables-clause-checks : goal.returns-in_err-validate_unused_variables-clause-checks
returns-in_err-validate_unused_variables-clause-checks c =
    let S = schema_of c.args.context.now in
    let o = c.args.operation.now in
    let D = c.args.document.now.document.now in
    MatchResult-from_err _ _ _ c.from_residual-in_err-validate_unused_variables.ensures.0
    (λ y. kept_then
    (kept_by (both (directives_checked S D o _ _ _ _ _ c.requires.variables c.location_of.ensures c.deref.ensures.value c.in_ok-check_each_directive.ensures)
    (variables_checked S D o _ _ _ c.deref-2.ensures.value c.in_ok-validate_variable_definitions.ensures)))
    (kept_wider (of_its_uses S D o) c.in_err-validate_unused_variables.ensures.kept))

pub returns-clause-checks : goal.returns-clause-checks
returns-clause-checks c =
    let S = schema_of c.args.context.now in
    let o = c.args.operation.now in
    let D = c.args.document.now.document.now in
    let before = both_within IsLimitEntry
    (within IsLimitEntry (both (directives_checked S D o _ _ _ _ _ c.requires.variables c.location_of.ensures c.deref.ensures.value c.in_ok-check_each_directive.ensures)
    (variables_checked S D o _ _ _ c.deref-2.ensures.value c.in_ok-validate_variable_definitions.ensures)))
    (uses_checked S D o _ _ c.in_ok-validate_unused_variables.ensures.exact c.in_ok-validate_unused_variables.ensures.kept) in
    MatchResult-weaker c.walk_selection_set.result
    (walks_as S (fragments_of D) o.variables.items (one_fragment_found D) c.walk_selection_set.result (visited_fragment_names c.walk_selection_set.new.context)
    (entries c.validate_unused_variables.new.diagnostics) (entries c.walk_selection_set.new.diagnostics)
    refl c.requires.variables c.root_of-root.ensures.root refl c.requires.visited_fragments c.walk_selection_set.ensures.walks)
    (λ _ w. in_words_within IsLimitEntry (operation_decides S D o) (both_within IsLimitEntry before (wider_within IsLimitEntry (of_its_selections S D o) w.reports)))
    (λ _ s. kept_then (kept_within IsLimitEntry before) (kept_wider (of_its_selections S D o) s.reports))

pub returns-clause-others : goal.returns-clause-others
returns-clause-others c =
    let S = schema_of c.args.context.now in
    let o = c.args.operation.now in
    let D = c.args.document.now.document.now in
    let before = both_of_others
    (both_of_others (directives_but S o _ _ _ _ _ c.requires.variables c.location_of.ensures c.deref.ensures.value c.in_ok-check_each_directive.ensures)
    (variables_but S o _ _ _ c.deref-2.ensures.value c.in_ok-validate_variable_definitions.ensures))
    (of_uses (fragments_of D) o c.in_ok-validate_unused_variables.ensures.exact c.in_ok-validate_unused_variables.ensures.kept) in
    if_it_answers c.walk_selection_set.result _ _ _
    (λ w. in_words_of_others (λ off p. record { directives = p.0.0.0; definitions = p.0.0.1; used = p.0.1; selections = p.1 })
    (both_of_others before
    (of_check_within (of_selections_never S (fragments_of D) o.variables.items (root_type S o) (selections_of o.selection_set)) w.reports)))
    (walks_as S (fragments_of D) o.variables.items (one_fragment_found D) c.walk_selection_set.result (visited_fragment_names c.walk_selection_set.new.context)
    (entries c.validate_unused_variables.new.diagnostics) (entries c.walk_selection_set.new.diagnostics)
    refl c.requires.variables c.root_of-root.ensures.root refl c.requires.visited_fragments c.walk_selection_set.ensures.walks)
