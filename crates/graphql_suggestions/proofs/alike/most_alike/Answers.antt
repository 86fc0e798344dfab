use Rattle.std.proofs.Common.{rules, subst, sym, All}
use Rattle.std.proofs.lemmas.List.Elements.{All-take}
use Rattle.std.proofs.lemmas.List.Sorted.{All-permutation}
use Rattle.graphql_suggestions.specs.Suggestions.{IsSuggested}
use Rattle.graphql_suggestions.proofs.alike.most_alike.Goals as goal

pub returns : goal.returns
returns c names wanted all =
    let sorted : All (IsSuggested names wanted) c.sort_by_key.new.self.items =
    All-permutation (IsSuggested names wanted) _ _ c.in_ok-sort_by_key.ensures.permutation all in
    record {
      each = subst (All (IsSuggested names wanted)) (sym c.truncate.ensures.items) (All-take (IsSuggested names wanted) 5 _ sorted);
      few = search rules;
    }
