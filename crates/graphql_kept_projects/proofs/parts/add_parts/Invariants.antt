use Rattle.std.proofs.Common.{◌∷◌, []}
use Rattle.graphql_kept_projects.specs.Documents.{AddsParts}
use Rattle.graphql_kept_projects.proofs.parts.add_parts.Given as goal

abbrev pub invariant-loop-part : goal.invariant-loop-part
invariant-loop-part l = AddsParts (l.source ∷ []) l.initial.parts.items l.parts.items
