use Rattle.std.proofs.Common.{All}
use Rattle.graphql_suggestions.specs.Defined.{names_of_arguments}
use Rattle.graphql_suggestions.specs.Suggestions.{IsSuggested}
use Rattle.graphql_suggestions.proofs.suggestions.like_argument_of.Given as goal

abbrev pub invariant-loop-argument : goal.invariant-loop-argument
invariant-loop-argument l = All (IsSuggested (names_of_arguments l.arguments) l.wanted) l.found.items
