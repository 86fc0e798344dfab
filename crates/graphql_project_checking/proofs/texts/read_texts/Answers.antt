use Rattle.std.proofs.Common.{◌≡◌, [], subst}
use Rattle.graphql_frontend.specs.Texts.{ParsesTexts}
use Rattle.graphql_projects.specs.Projects.{ReadFiles}
use Rattle.graphql_project_checking.specs.Truth.{AreErrorsOf, HasErrors}
use Rattle.graphql_project_checking.proofs.ErrorLemmas.{errors_are, errors_so, parsed_files}
use Rattle.graphql_project_checking.proofs.SilenceLemmas.{silent_so}
use Rattle.graphql_project_checking.proofs.TextLemmas.{files_are_read, without_errors}
use Rattle.graphql_project_checking.proofs.TruthLemmas.{adds_so}
use Rattle.graphql_project_checking.proofs.texts.read_texts.Goals as goal

pub returns : goal.returns
returns c =
    let bounds = c.args.bounds in
    let sources = c.args.sources.now in
    let kept = c.in_ok-sources.sources.items in
    let documents = c.in_ok-parsed.parsed.documents.items in
    let errors = c.in_ok-parsed.parsed.errors.items in
    let parsed = subst (λ l. ParsesTexts bounds l documents errors) c.deref.ensures.value c.in_ok-parsed.ensures in
    record {
      silence = silent_so c.args.found.now.items c.add_errors.new.found.items (errors ≡ []) (ReadFiles bounds sources documents)
          (λ none. files_are_read bounds c.in_ok-sources.ensures documents (without_errors bounds parsed none)) c.in_ok-add_errors.ensures.silence;
      parsed = parsed_files bounds c.in_ok-sources.ensures parsed;
      truth = adds_so (HasErrors errors) (AreErrorsOf bounds sources) c.args.found.now.items c.add_errors.new.found.items
          (errors_so bounds sources errors (errors_are bounds c.in_ok-sources.ensures parsed)) c.in_ok-add_errors.ensures.truth;
    }
