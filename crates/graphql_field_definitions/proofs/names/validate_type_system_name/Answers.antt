use Rattle.std.proofs.Common.{◌∙◌, sym, rules, true≢false}
use Rattle.graphql_diagnostics.proofs.ReportLemmas.{checks-push}
use Rattle.graphql_specification.specs.InputValueDefinitions.{of_reserved_name}
use Rattle.graphql_nodes.specs.Names.{IsFreeName}
use Rattle.graphql_field_definitions.proofs.names.validate_type_system_name.Goals as goal

pub returns : goal.returns
returns c =
    let reserved : ¬ IsFreeName c.args.name.now = λ free. true≢false (sym (c.is_free_name.ensures.1 free) ∙ c.if-is_free_name.false) in
    checks-push _ _ _ _ _ _ c.push.ensures.ok c.push.ensures.err reserved
    (of_reserved_name (reserved, search rules, search rules, search rules))
