use Rattle.std.proofs.Common.{◌≡◌, ◌++◌, ℕ, List, [], ◌∷◌, OnOk, Option, codes, map, subst}
use Rattle.graphql_nodes.specs.declared.spans.SourceSpan.{SourceSpan}
use Rattle.graphql_notes.specs.Labels.{label, label_of, labels_beside}
use Rattle.graphql_notes.proofs.lists.add_field.Goals as goal

pub returns : goal.returns
returns c =
    let Adds : Option SourceSpan → List ℕ → Type 0 = λ place text.
    OnOk c.add_note.result (map label_of c.add_note.new.notes.items ≡ map label_of c.args.notes.now.items ++ labels_beside c.args.at (label place text ∷ [])) in
    subst (λ place. Adds place (codes "a root field")) c.location-place.ensures (subst (Adds c.location-place.result) c.in_ok-message.ensures.ok c.add_note.ensures)
