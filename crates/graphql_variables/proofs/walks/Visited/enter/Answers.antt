use Rattle.std.proofs.Common.{◌∙◌, ap, not, refl}
use Rattle.graphql_variables.proofs.SelectionWalkLemmas.{refs_any, refs_with}
use Rattle.graphql_variables.proofs.walks.Visited.enter.Goals as goal

pub returns : goal.returns
returns c = record {
  is_new = c.in_ok-insert.ensures.added ∙ ap not (refs_any (λ r. r.now) c.args.name.now c.args.self.now.visited_fragments.keys);
  names = refs_with (λ r. r.now) c.args.self.now.visited_fragments.keys c.insert.new.self.keys c.args.name c.in_ok-insert.ensures.keys;
  selections = refl;
}
