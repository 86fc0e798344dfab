use Rattle.std.proofs.lemmas.Str.Pattern.{ends_text}
use Rattle.graphql_literals.proofs.programs.has_ending.Goals as goal

pub returns : goal.returns
returns c = ends_text _ _ _ c.ends_with.ensures.cases
