use Rattle.std.proofs.Common.{sym, ap, ◌∙◌}
use Rattle.std.specs.Option.{option_copied, option_map}
use Rattle.graphql_variables.specs.FirstPlaces.{place_at}
use Rattle.graphql_variables.proofs.FirstPlaceLemmas.{place_of_first}
use Rattle.graphql_variables.proofs.first_places.location_of.Goals as goal

pub returns-in-Some : goal.returns-in-Some
returns-in-Some c =
    sym (place_of_first place_at c.args.places.now c.args.name.now ∙
    ap (option_map (λ place. (place_at place).1)) (sym c.first_named.ensures ∙ ap option_copied c.in-Some.is))

pub returns-in-None : goal.returns-in-None
returns-in-None c =
    sym (place_of_first place_at c.args.places.now c.args.name.now ∙
    ap (option_map (λ place. (place_at place).1)) (sym c.first_named.ensures ∙ ap option_copied c.in-None.is))
