use Rattle.gqlvalidate_settings.specs.Projects.{AreFragments}
use Rattle.gqlvalidate_settings.specs.Refusals.{RulesOut}
use Rattle.gqlvalidate_settings.proofs.ListLemmas.{handed_on}
use Rattle.gqlvalidate_settings.proofs.projects.fragments_of.Goals as goal

pub returns-in_err-own-clause-refused : goal.returns-in_err-own-clause-refused
returns-in_err-own-clause-refused c =
    handed_on c.from_residual.result _ (RulesOut (AreFragments c.args.members.now)) c.from_residual.ensures.1
    (λ not_memory listed are. c.in_err-own.ensures.refused not_memory are.own are.has_own)
