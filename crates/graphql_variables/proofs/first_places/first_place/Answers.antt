use Rattle.std.proofs.Common.{◌≡◌, None, sym, ◌∙◌}
use Rattle.graphql_nodes.specs.Names.{SameName, same_name}
use Rattle.graphql_variables.specs.FirstPlaces.{known_place}
use Rattle.graphql_variables.proofs.FirstPlaceLemmas.{kept_or, remembers_more, same_known}
use Rattle.graphql_variables.proofs.first_places.first_place.Goals as goal

pub returns-in-Some-clause-found : goal.returns-in-Some-clause-found
returns-in-Some-clause-found c = λ visited r. sym c.in-Some.is ∙ c.find.ensures ∙ r.look_up c.args.name.now

pub returns-in-Some-clause-remembered : goal.returns-in-Some-clause-remembered
returns-in-Some-clause-remembered c = λ visited.
    let seen = c.args.seen.now in
    let name = c.args.name.now in
    let some : ¬ (known_place seen name ≡ None) = λ none. let no : ⊥ = cc (sym c.in-Some.is ∙ c.find.ensures ∙ none) in no in
    remembers_more name c.args.location (λ other.
    kept_or (same_name name other) c.args.location (known_place seen other)
    (λ (same : SameName name other) none. some (same_known seen name other same ∙ none)))

pub returns-in_ok-add-in-None-clause-found : goal.returns-in_ok-add-in-None-clause-found
returns-in_ok-add-in-None-clause-found c = λ visited r. sym c.in-None.is ∙ c.find.ensures ∙ r.look_up c.args.name.now

pub returns-in_ok-add-in-None-clause-remembered : goal.returns-in_ok-add-in-None-clause-remembered
returns-in_ok-add-in-None-clause-remembered c = λ visited. remembers_more c.args.name.now c.args.location c.in_ok-add-in-None.ensures
