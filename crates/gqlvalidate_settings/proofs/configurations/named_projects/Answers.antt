use Rattle.std.proofs.Common.{◌≡◌, ◌∙◌, ap, map, string_bytes, subst, sym}
use Rattle.std.specs.List.{AllZip}
use Rattle.gqlvalidate_settings.specs.Configurations.{AreNamedProjects, IsNamedProject}
use Rattle.gqlvalidate_settings.specs.Refusals.{RulesOut}
use Rattle.gqlvalidate_settings.proofs.ConfigurationLemmas.{fragments_once, handed_up}
use Rattle.gqlvalidate_settings.proofs.ListLemmas.{if_err_weaker}
use Rattle.gqlvalidate_settings.proofs.configurations.named_projects.Goals as goal

pub returns-in_err-shared-clause-refused : goal.returns-in_err-shared-clause-refused
returns-in_err-shared-clause-refused c =
    handed_up c.from_residual.result _ (RulesOut (AreNamedProjects c.args.folder.now c.args.members.now c.args.named.now)) c.from_residual.ensures.1
    (λ not_memory projects are. c.in_err-shared.ensures.refused not_memory are.shared are.shared_are)

pub returns-clause-refused : goal.returns-clause-refused
returns-clause-refused c =
    let folder = c.args.folder.now in
    let named = c.args.named.now in
    if_err_weaker c.each_project.result
    (λ refused. RulesOut (AllZip (IsNamedProject folder (map string_bytes c.deref.result.now)) named) refused.refusal)
    (λ refused. RulesOut (AreNamedProjects folder c.args.members.now named) refused.refusal)
    (λ refused out not_memory projects are.
    let shared = fragments_once c.args.members.now are.shared (map string_bytes c.in_ok-shared.shared.items) are.shared_are c.in_ok-shared.ensures.fragments in
    let same : are.shared ≡ map string_bytes c.deref.result.now = shared ∙ ap (map string_bytes) (sym c.deref.ensures.value) in
    out not_memory projects (subst (λ texts. AllZip (IsNamedProject folder texts) named projects) same are.each))
    c.each_project.ensures.refused
