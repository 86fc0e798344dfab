use Rattle.graphql_kept_projects.specs.Documents.{AddsParts}
use Rattle.graphql_kept_projects.proofs.parts.add_all_parts.Given as goal

abbrev pub invariant-loop-source : goal.invariant-loop-source
invariant-loop-source l = AddsParts l.sources l.initial.parts.items l.parts.items
