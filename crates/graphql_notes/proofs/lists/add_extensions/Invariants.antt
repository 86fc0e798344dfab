use Rattle.std.proofs.Common.{◌≡◌, ◌++◌, codes, map, take}
use Rattle.graphql_notes.specs.Labels.{label, label_of, labels_beside}
use Rattle.graphql_notes.proofs.lists.add_extensions.Given as goal

abbrev pub invariant-loop-extension : goal.invariant-loop-extension
invariant-loop-extension l = map label_of l.notes.items ≡ map label_of l.fn.notes.items ++ labels_beside l.at (map (λ extension. label extension (codes "extended here")) (take l.extension-index l.extensions))
