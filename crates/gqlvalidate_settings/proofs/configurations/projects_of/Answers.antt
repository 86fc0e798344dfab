use Rattle.std.proofs.Common.{◌∙◌, None, MatchOption, subst}
use Rattle.std.specs.Option.{option_copied}
use Rattle.gqlvalidate_settings.specs.Configurations.{AreNamedProjects, IsSoleProject}
use Rattle.gqlvalidate_settings.specs.Settings.{TableAt}
use Rattle.gqlvalidate_settings.specs.declared.keys.Key.TheVariants as key
use Rattle.gqlvalidate_settings.proofs.ConfigurationLemmas.{table_once}
use Rattle.gqlvalidate_settings.proofs.configurations.projects_of.Goals as goal

pub returns-in-Err-clause-refused : goal.returns-in-Err-clause-refused
returns-in-Err-clause-refused c = λ not_memory projects are.
    let folder = c.args.folder.now in
    let members = c.args.members.now in
    let none : TableAt key.Projects members None = subst (λ t. TableAt key.Projects members (option_copied t)) c.in-None.is c.in_ok-named.ensures in
    let same = table_once key.Projects members are.named None are.has_named none in
    let sole : IsSoleProject folder members projects =
    subst (λ t. MatchOption t (IsSoleProject folder members projects) (λ inner. AreNamedProjects folder members inner projects)) same are.projects_are in
    c.in-Err.ensures.refused (λ memory. not_memory (c.from.ensures ∙ memory)) projects sole
