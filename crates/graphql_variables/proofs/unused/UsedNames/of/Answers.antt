use Rattle.std.proofs.Common.{subst}
use Rattle.graphql_variables.specs.Uses.{AreUsed, IsNamedIn, names_of}
use Rattle.graphql_variables.proofs.unused.UsedNames.of.Goals as goal

pub returns : goal.returns
returns c = subst (λ l. AreUsed (IsNamedIn (names_of l)) c.in_ok-set_of.field-0.keys) c.deref.ensures.value c.in_ok-set_of.ensures
