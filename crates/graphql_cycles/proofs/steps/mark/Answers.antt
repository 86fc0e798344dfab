use Rattle.std.proofs.Common.{◌∙◌, ap, not}
use Rattle.graphql_variables.proofs.SelectionWalkLemmas.{refs_any, refs_with}
use Rattle.graphql_cycles.proofs.steps.mark.Goals as goal

pub returns-in-Ok-clause-is_new : goal.returns-in-Ok-clause-is_new
returns-in-Ok-clause-is_new g c =
    c.in-Ok.ensures.added ∙ ap not (refs_any (λ r. r.now) c.args.name.now c.args.seen.now.keys)

pub returns-in-Ok-clause-names : goal.returns-in-Ok-clause-names
returns-in-Ok-clause-names g c = refs_with (λ r. r.now) c.args.seen.now.keys c.insert.new.self.keys c.args.name c.in-Ok.ensures.keys
