use Rattle.std.proofs.Common.{List}
use Rattle.std.specs.Prelude.{All}
use Rattle.graphql_frontend.specs.declared.texts.SourceText.{SourceText}
use Rattle.graphql_kept_projects.specs.Documents.{IsOneOrPart, IsPartOfOne}
use Rattle.graphql_kept_projects.proofs.parts.with_parts.Given as goal

abbrev pub invariant-loop-part : goal.invariant-loop-part
invariant-loop-part l = (whole : List SourceText) → All (IsOneOrPart whole) l.sources → All (IsPartOfOne whole) l.parts → All (IsOneOrPart whole) l.all.items
