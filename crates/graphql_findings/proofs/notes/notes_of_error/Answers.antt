use Rattle.std.proofs.Common.{[], ◌∷◌, IfOk, subst}
use Rattle.std.proofs.lemmas.Result.{IfOk-weaker}
use Rattle.graphql_notes.specs.Labels.{AreNotes, label}
use Rattle.graphql_syntax_helps.specs.Brackets.{IsPlaceOfOpen}
use Rattle.graphql_findings.proofs.notes.notes_of_error.Goals as goal

pub returns : goal.returns
returns c =
    let at = c.args.report.now in
    let place = c.in_ok-place.place in
    let found = subst (λ text. IsPlaceOfOpen c.args.bounds at.file_id text at.error place) c.text_of-text.ensures c.in_ok-place.ensures in
    IfOk-weaker c.note_beside.result _ _ (λ notes are. (place, found, are))
    (subst (λ text. IfOk c.note_beside.result (λ notes. AreNotes c.args.at (label place text ∷ []) notes.items)) c.in_ok-message.ensures.ok c.note_beside.ensures)
