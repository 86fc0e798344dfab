use Rattle.std.proofs.Common.{rules}
use Rattle.graphql_diagnostics.proofs.ReportLemmas.{holds}
use Rattle.graphql_values.proofs.LeafLemmas.{null_accepted, null_cannot}
use Rattle.graphql_values.proofs.value.leaves.check_null.Goals as goal

pub returns-then-not-is_non_null : goal.returns-then-not-is_non_null
returns-then-not-is_non_null c = λ schema variables is.
    holds _ _ _ (null_accepted schema variables c.args.expected.now.ty.now c.args.expected.now.definition.now _ is c.requires (search rules))

pub returns : goal.returns
returns c = λ schema variables is.
    c.unsupported_type.ensures schema variables c.args.expected.now.ty.now c.args.expected.now.definition.now is
    (null_cannot schema variables c.args.expected.now.ty.now c.args.expected.now.definition.now _ is c.requires (search rules))
