use Rattle.std.proofs.Common.{◌∙◌, ap, not}
use Rattle.graphql_variables.proofs.SelectionWalkLemmas.{refs_any, refs_with}
use Rattle.graphql_operations.proofs.context.OperationValidationContext.enter.Goals as goal

pub returns-clause-is_new : goal.returns-clause-is_new
returns-clause-is_new c = c.in_ok-insert.ensures.added ∙ ap not (refs_any (λ r. r.now) c.args.name.now c.args.self.now.visited_fragments.keys)

pub returns-clause-names : goal.returns-clause-names
returns-clause-names c = refs_with (λ r. r.now) c.args.self.now.visited_fragments.keys c.insert.new.self.keys c.args.name c.in_ok-insert.ensures.keys
