use Rattle.std.proofs.Common.{◌≡◌, ◌++◌, List}
use Rattle.std.specs.List.{AllZip}
use Rattle.graphql_kept_projects.specs.Left.{IsLess}
use Rattle.graphql_kept_projects.specs.declared.kept.LeftText.{LeftText}
use Rattle.graphql_kept_projects.proofs.kept.left_without.Given as goal

-- of the texts so far something is left, one by one
abbrev pub invariant-loop-text : goal.invariant-loop-text
invariant-loop-text l =
    (done : List LeftText) × (l.fn.left.texts.items ≡ done ++ l.text-iterator.rest.items) × AllZip IsLess done l.kept.texts.items
