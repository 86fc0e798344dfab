use Rattle.std.proofs.Common.{[], ◌∷◌, IfOk, subst}
use Rattle.graphql_notes.specs.Labels.{AreNotes, label}
use Rattle.graphql_findings.proofs.notes.notes_of_misuse.Goals as goal

pub returns : goal.returns
returns c = subst (λ text. IfOk c.note_beside.result (λ notes. AreNotes c.args.at (label c.args.misuse.now.definition_location text ∷ []) notes.items)) c.in_ok-message.ensures.ok c.note_beside.ensures
