use Rattle.std.proofs.Common.{◌≡◌, ◌∙◌, ◌++◌, ◌∷◌, List, [], Contains, ap, subst, sym}
use Rattle.std.proofs.lemmas.List.Elements.{Contains-append_right}
use Rattle.graphql_documents.proofs.ListLemmas.{done_next, stands_first, stands_mapped}
use Rattle.graphql_nodes.specs.Names.{NameText}
use Rattle.graphql_suggestions.specs.Defined.{keys}
use Rattle.graphql_suggestions.proofs.suggestions.like_key.Goals as goal

pub loop-name-preserved : goal.loop-name-preserved
loop-name-preserved g c =
    let entries = c.args.definitions.now.entries in
    let done = c.loop-name.invariant.done in
    let x : NameText × (g.row.T).Denot = (c.in-Some.name.now, c.in-Some.field-0-1.now) in
    let whole : entries ≡ c.into_iter-name-iterator.result = cc in
    let here : entries ≡ done ++ x ∷ c.next.new.self = whole ∙ c.loop-name.invariant.all ∙ ap (λ (l : List (NameText × (g.row.T).Denot)). done ++ l) c.in-Some.ensures.steps in
    let among : Contains entries x = subst (λ l. Contains l x) (sym here) (Contains-append_right done (x ∷ c.next.new.self) x (stands_first x c.next.new.self)) in
    record {
      can_next = tt;
      is_finite = tt;
      done = done ++ x ∷ [];
      all = done_next _ done c.loop-name.name-iterator c.next.new.self x c.loop-name.invariant.all c.in-Some.ensures.steps;
      found = c.in_ok-add_if_alike.ensures (keys entries) (stands_mapped (λ (entry : NameText × (g.row.T).Denot). entry.0) entries x among) c.loop-name.invariant.found;
    }
