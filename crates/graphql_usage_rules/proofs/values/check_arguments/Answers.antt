use Rattle.std.proofs.Common.{subst}
use Rattle.graphql_nodes.specs.declared.nodes.Node.{Node}
use Rattle.graphql_documents.specs.declared.documents.directives.Argument.{Argument}
use Rattle.graphql_usage_rules.specs.Parts.{UsedInArgument}
use Rattle.graphql_usage_rules.specs.Usages.{Usage}
use Rattle.graphql_usage_rules.proofs.PlaceLemmas.{Kept, Reported, place_refused, places_all, places_more}
use Rattle.graphql_usage_rules.proofs.values.check_arguments.Goals as goal

pub returns-in_err-check_argument : goal.returns-in_err-check_argument
returns-in_err-check_argument c =
    let v = c.args.variables.now in
    let In : Node Argument → Usage → Type 0 = λ a. UsedInArgument c.args.schema.now c.args.definitions.now a.value.value in
    let mid = c.loop-argument.reports.kept.items in
    let new = c.check_argument.new.reports.kept.items in
    place_refused v In c.args.arguments.now c.from_residual-in_err-check_argument.result c.loop-argument.argument-index c.argument-item.result c.args.reports.now.kept.items mid new
    c.from_residual-in_err-check_argument.ensures.0 c.loop-argument-test.true c.argument-item.is c.loop-argument.invariant
    (subst (λ l. Kept v (UsedInArgument c.args.schema.now l c.argument-item.result.value.value) mid new) c.in_ok-definitions_by_name.ensures
    (subst (λ a. Kept v (UsedInArgument c.args.schema.now c.in_ok-definitions_by_name.definitions_by_name a) mid new) c.deref.ensures c.in_err-check_argument.ensures))

pub loop-argument-preserved : goal.loop-argument-preserved
loop-argument-preserved c =
    let v = c.args.variables.now in
    let In : Node Argument → Usage → Type 0 = λ a. UsedInArgument c.args.schema.now c.args.definitions.now a.value.value in
    let mid = c.loop-argument.reports.kept.items in
    let new = c.check_argument.new.reports.kept.items in
    places_more v In c.args.arguments.now c.loop-argument.argument-index c.argument-item.result c.args.reports.now.kept.items mid new
    c.loop-argument-test.true c.argument-item.is c.loop-argument.invariant
    (subst (λ l. Reported v (UsedInArgument c.args.schema.now l c.argument-item.result.value.value) mid new) c.in_ok-definitions_by_name.ensures
    (subst (λ a. Reported v (UsedInArgument c.args.schema.now c.in_ok-definitions_by_name.definitions_by_name a) mid new) c.deref.ensures c.in_ok-check_argument.ensures))

pub returns : goal.returns
returns c =
    let In : Node Argument → Usage → Type 0 = λ a. UsedInArgument c.args.schema.now c.args.definitions.now a.value.value in
    places_all c.args.variables.now In c.args.arguments.now c.loop-argument.argument-index c.args.reports.now.kept.items c.loop-argument.reports.kept.items
    c.loop-argument-test.false c.loop-argument.invariant
