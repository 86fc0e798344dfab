use Rattle.std.proofs.Common.{◌≡◌, ap, sym, ◌∙◌}
use Rattle.std.specs.Option.{option_map}
use Rattle.std.proofs.lemmas.Option.{none-some}
use Rattle.graphql_documents.specs.Definitions.{definition_named}
use Rattle.graphql_diagnostics.proofs.ReportLemmas.{checks_words, holds}
use Rattle.graphql_documents.specs.declared.documents.definitions.InputValueDefinition.{InputValueDefinition}
use Rattle.graphql_nodes.specs.declared.nodes.Node.{Node}
use Rattle.graphql_field_definitions.specs.FieldDefinitionSteps.{visited_argument}
use Rattle.graphql_variables.proofs.FirstPlaceLemmas.{first_found, none_mapped, place_of_first}
use Rattle.graphql_field_definitions.proofs.argument_repetitions.check_next_argument.Goals as goal

pub returns-in-Some-clause-checks : goal.returns-in-Some-clause-checks
returns-in-Some-clause-checks c = λ before r arguments next.
    let name = c.args.argument.now.value.value.name in
    let place = λ (d : Node InputValueDefinition). d.location in
    let first_is : c.in_ok-original.field-0 ≡ option_map place (definition_named name before) =
    c.in_ok-original.ensures.found _ r ∙ place_of_first visited_argument before c.deref.result.now.name ∙
    ap (λ x. option_map place (definition_named x.name before)) c.deref.ensures in
    let first = first_found place (definition_named name before) c.in-Some.original (sym first_is ∙ c.in-Some.is) in
    checks_words c.report_repetition.result _ _ _ _ _ _ (λ no. absurd no, λ is_new. none-some first.0 (sym is_new ∙ first.1)) (λ e q. q)
    (c.report_repetition.ensures before first.0 first.1 first.2 arguments next)

pub returns-in-None-clause-checks : goal.returns-in-None-clause-checks
returns-in-None-clause-checks c = λ before r arguments next.
    let name = c.args.argument.now.value.value.name in
    let place = λ (d : Node InputValueDefinition). d.location in
    let first_is : c.in_ok-original.field-0 ≡ option_map place (definition_named name before) =
    c.in_ok-original.ensures.found _ r ∙ place_of_first visited_argument before c.deref.result.now.name ∙
    ap (λ x. option_map place (definition_named x.name before)) c.deref.ensures in
    holds _ _ _ (none_mapped place (definition_named name before) (sym first_is ∙ c.in-None.is))
