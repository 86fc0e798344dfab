use Rattle.std.proofs.Common.{◌∙◌}
use Rattle.graphql_lone_fields.proofs.LeafLemmas.{type_equality_is}
use Rattle.graphql_lone_fields.proofs.keys.is_same_type.Goals as goal

pub returns : goal.returns
returns c = c.eq.ensures ∙ type_equality_is c.args.ty.now c.args.other.now
