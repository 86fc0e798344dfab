use Rattle.std.proofs.Common.{ap, ◌∙◌}
use Rattle.std.specs.Option.{option_copied}
use Rattle.graphql_documents.specs.Definitions.{variable_named}
use Rattle.graphql_variables.proofs.by_name.VariablesByName.find.Goals as goal

pub returns-in-Some : goal.returns-in-Some
returns-in-Some c =
    let name = c.args.name.now in
    ap option_copied (c.copied.ensures ∙ c.get.ensures.value) ∙ (c.self.invariant c.in-Some.first c.in-Some.is).look_up name ∙
    ap (variable_named name) c.self.view_is
