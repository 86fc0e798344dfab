use Rattle.std.proofs.Common.{◌∙◌}
use Rattle.graphql_implementations.proofs.TypeEqualityLemmas.{equality_is}
use Rattle.graphql_implementations.proofs.arguments.is_same_type.Goals as goal

pub returns : goal.returns
returns c = c.eq.ensures ∙ equality_is c.args.ty.now c.args.other.now
