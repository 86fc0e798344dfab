use Rattle.std.proofs.Common.{sym}
use Rattle.graphql_operations.proofs.PossibleTypeLemmas.{implementers_found, implementers_missing}
use Rattle.graphql_operations.proofs.possible_types.PossibleTypes.implementers_of.Goals as goal

pub returns-in-Some : goal.returns-in-Some
returns-in-Some c = implementers_found c.args.self.now.schema.now c.args.self.now.implementers.entries c.args.self.now.made c.args.interface.now c.in-Some.known.now (sym c.in-Some.ensures.value)

pub returns-in-None : goal.returns-in-None
returns-in-None c = λ name. (
  λ implemented. absurd (implementers_missing c.args.self.now.schema.now c.args.self.now.implementers.entries c.args.self.now.made c.args.interface.now (sym c.in-None.ensures.value) name implemented),
  λ there. absurd (let no : ⊥ = cc in no),
)
