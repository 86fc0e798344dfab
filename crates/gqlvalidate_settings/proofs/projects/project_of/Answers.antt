use Rattle.std.proofs.Common.{map, string_bytes}
use Rattle.gqlvalidate_settings.specs.Projects.{IsProject}
use Rattle.gqlvalidate_settings.specs.Refusals.{RulesOut}
use Rattle.gqlvalidate_settings.proofs.ListLemmas.{handed_on}
use Rattle.gqlvalidate_settings.proofs.projects.project_of.Goals as goal

pub returns-in_err-schema-clause-refused : goal.returns-in_err-schema-clause-refused
returns-in_err-schema-clause-refused c =
    handed_on c.from_residual.result _ (RulesOut (IsProject c.args.folder.now (map string_bytes c.args.shared.now) c.args.members.now)) c.from_residual.ensures.1
    (λ not_memory project is. c.in_err-schema.ensures.refused not_memory (map string_bytes project.schema.items) is.schema)

pub returns-in_err-documents-clause-refused : goal.returns-in_err-documents-clause-refused
returns-in_err-documents-clause-refused c =
    handed_on c.from_residual-in_err-documents.result _ (RulesOut (IsProject c.args.folder.now (map string_bytes c.args.shared.now) c.args.members.now)) c.from_residual-in_err-documents.ensures.1
    (λ not_memory project is. c.in_err-documents.ensures.refused not_memory (map string_bytes project.documents.items) is.documents)

pub returns-in_err-own-clause-refused : goal.returns-in_err-own-clause-refused
returns-in_err-own-clause-refused c =
    handed_on c.from_residual-in_err-own.result _ (RulesOut (IsProject c.args.folder.now (map string_bytes c.args.shared.now) c.args.members.now)) c.from_residual-in_err-own.ensures.1
    (λ not_memory project is. c.in_err-own.ensures.refused not_memory is.fragments is.fragments_are)
