use Rattle.std.proofs.Common.{ℕ, List, [], ◌∷◌, IfOk, string_bytes, subst}
use Rattle.graphql_notes.specs.Labels.{AreNotes, label}
use Rattle.graphql_notes.proofs.definitions.named_spread.Goals as goal

pub returns : goal.returns
returns c =
    let Noted : List ℕ → List ℕ → Type 0 = λ first second. IfOk c.two_notes_beside.result (λ notes. AreNotes c.args.at (label c.args.fragment first ∷ label c.args.definition second ∷ []) notes.items) in
    subst (Noted _) c.in_ok-around.ensures.ok (subst (λ first. Noted first (string_bytes c.in_ok-around.around)) c.in_ok-spread.ensures.ok c.two_notes_beside.ensures)
