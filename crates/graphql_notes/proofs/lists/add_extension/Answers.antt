use Rattle.std.proofs.Common.{◌≡◌, ◌++◌, [], ◌∷◌, OnOk, map, subst}
use Rattle.graphql_notes.specs.Labels.{label, label_of, labels_beside}
use Rattle.graphql_notes.proofs.lists.add_extension.Goals as goal

pub returns : goal.returns
returns c =
    subst (λ text. OnOk c.add_note.result (map label_of c.add_note.new.notes.items ≡ map label_of c.args.notes.now.items ++ labels_beside c.args.at (label c.args.extension text ∷ [])))
    c.in_ok-message.ensures.ok c.add_note.ensures
