use Rattle.std.proofs.Common.{◌≡◌, None, ◌∙◌, rules, sym}
use Rattle.std.proofs.lemmas.Option.{none-some}
use Rattle.std.specs.Option.{option_copied}
use Rattle.graphql_specification.specs.Directives.{IsRepeatable}
use Rattle.graphql_diagnostics.proofs.ReportLemmas.{holds}
use Rattle.graphql_values.specs.DirectiveSteps.{directive_named, head_place}
use Rattle.graphql_variables.proofs.FirstPlaceLemmas.{first_found, none_mapped}
use Rattle.graphql_values.proofs.directive.applications.check_repetition.Goals as goal

pub returns-in_default : goal.returns-in_default
returns-in_default c = λ before is variables location directives next.
    let name = c.args.directive.now.value.value.name in
    let none : c.args.first ≡ None = search rules in
    holds _ _ _ (λ first found. absurd (none-some first (sym (none_mapped head_place (directive_named name before) (sym is ∙ none)) ∙ found)))

pub returns-then-is_repeatable : goal.returns-then-is_repeatable
returns-then-is_repeatable c = λ before is variables location directives next.
    let repeatable : IsRepeatable (option_copied c.args.schema) c.args.directive.now.value.value.name = search rules in
    holds _ _ _ (λ first found. repeatable)

pub returns : goal.returns
returns c = λ before is variables location directives next.
    let name = c.args.directive.now.value.value.name in
    let not_repeatable : ¬ IsRepeatable (option_copied c.args.schema) name = search rules in
    let first = first_found head_place (directive_named name before) c.in-Some.original (sym is ∙ c.in-Some.is) in
    c.report_repetition.ensures (option_copied c.args.schema) before first.0 first.1 first.2 not_repeatable variables location directives next
