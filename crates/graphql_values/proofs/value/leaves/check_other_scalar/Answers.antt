use Rattle.std.proofs.Common.{rules}
use Rattle.graphql_diagnostics.proofs.ReportLemmas.{holds}
use Rattle.graphql_values.proofs.LeafLemmas.{other_accepted, other_cannot}
use Rattle.graphql_values.proofs.value.leaves.check_other_scalar.Goals as goal

pub returns-then-takes_other_scalar : goal.returns-then-takes_other_scalar
returns-then-takes_other_scalar c = λ schema variables is.
    holds _ _ _ (other_accepted schema variables c.args.expected.now.ty.now c.args.expected.now.definition.now _ is c.requires (search rules))

pub returns : goal.returns
returns c = λ schema variables is.
    c.unsupported_type.ensures schema variables c.args.expected.now.ty.now c.args.expected.now.definition.now is
    (other_cannot schema variables c.args.expected.now.ty.now c.args.expected.now.definition.now _ is c.requires (search rules))
