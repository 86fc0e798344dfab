use Rattle.std.proofs.Common.{◌≡◌, [], ◌∷◌, rules}
use Rattle.gqlvalidate_settings.specs.Configurations.{IsSoleProject}
use Rattle.gqlvalidate_settings.specs.Refusals.{RulesOut}
use Rattle.gqlvalidate_settings.proofs.ListLemmas.{handed_on}
use Rattle.gqlvalidate_settings.proofs.configurations.sole_project.Goals as goal

pub returns-in_err-project-clause-refused : goal.returns-in_err-project-clause-refused
returns-in_err-project-clause-refused c =
    handed_on c.from_residual.result _ (RulesOut (IsSoleProject c.args.folder.now c.args.members.now)) c.from_residual.ensures.1
    (λ not_memory projects is. c.in_err-project.ensures.refused not_memory is.0 is.3)

pub returns-clause-project : goal.returns-clause-project
returns-clause-project c =
    let project = c.in_ok-project.project in
    let pushed : c.push.new.self.items ≡ project ∷ [] = search rules in
    (project, pushed, c.in_ok-project.ensures.name, c.in_ok-project.ensures.project)
