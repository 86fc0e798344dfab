use Rattle.std.proofs.Common.{◌≡◌, codes, map, take}
use Rattle.graphql_nodes.specs.Names.{NameText}
use Rattle.graphql_notes.specs.Labels.{label, label_of, labels_beside}
use Rattle.graphql_notes.proofs.lists.notes_of_fields.Given as goal

abbrev pub invariant-loop-field : goal.invariant-loop-field
invariant-loop-field l = map label_of l.notes.items ≡ labels_beside l.at (map (λ (field : NameText). label field.location (codes "a root field")) (take l.field-index l.fields))
