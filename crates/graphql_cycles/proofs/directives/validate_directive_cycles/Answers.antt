-- What the search found, as it is reported.
use Rattle.std.proofs.Common.{subst}
use Rattle.graphql_cycles.specs.DirectiveSearches.{LeadsToError}
use Rattle.graphql_cycles.proofs.directives.validate_directive_cycles.Goals as goal

pub returns-in-Err-Recursed : goal.returns-in-Err-Recursed
returns-in-Err-Recursed c =
    let schema = c.args.schema.now in
    let found = subst (LeadsToError schema c.args.definition.now) c.in-Err-Recursed.field-0-is c.in-Err-Recursed.ensures in
    c.report_cycle.ensures schema found.0 found.1 found.2

pub returns-in-Err-Limit : goal.returns-in-Err-Limit
returns-in-Err-Limit c =
    let schema = c.args.schema.now in
    c.report_nesting.ensures schema (subst (LeadsToError schema c.args.definition.now) c.in-Err-Limit.field-0-is c.in-Err-Limit.ensures)
