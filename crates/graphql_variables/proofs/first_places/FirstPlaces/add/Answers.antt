use Rattle.std.proofs.Common.{◌∷◌, [], Bor, sym, ap, ◌∙◌}
use Rattle.std.specs.HashMap.{get_by}
use Rattle.std.specs.Option.{option_or}
use Rattle.std.proofs.lemmas.List.{map-append}
use Rattle.graphql_nodes.specs.Names.{NameText, SameName, same_name}
use Rattle.graphql_variables.specs.FirstPlaces.{place_at, place_in, places_of}
use Rattle.graphql_variables.proofs.FirstPlaceLemmas.{between_or, chosen_or, place_more, same_known, second_none, three_or}
use Rattle.graphql_variables.proofs.first_places.FirstPlaces.add.Goals as goal

pub returns-in_ok-push : goal.returns-in_ok-push
returns-in_ok-push c = λ other.
    let seen = c.args.self.now in
    let name = c.args.name.now in
    let behind = get_by (λ (b : Bor NameText). same_name other b.now) seen.others in
    let none = λ (same : SameName name other). sym (same_known seen name other same) ∙ c.requires in
    ap (λ items. option_or (place_in (places_of items) other) behind) c.in_ok-push.ensures.items ∙
    ap (λ places. option_or (place_in places other) behind) (map-append place_at seen.few.items ((c.args.name, c.args.location) ∷ [])) ∙
    ap (λ o. option_or o behind) (place_more (places_of seen.few.items) (name, c.args.location) other) ∙
    between_or (place_in (places_of seen.few.items) other) behind (same_name name other) c.args.location none

pub returns-in_ok-insert : goal.returns-in_ok-insert
returns-in_ok-insert c = λ other.
    let seen = c.args.self.now in
    let name = c.args.name.now in
    let few = place_in (places_of seen.few.items) other in
    let behind = get_by (λ (b : Bor NameText). same_name other b.now) seen.others in
    let key : Bor NameText = record { ref_ptr = (0, 0); now = other } in
    let none = λ (same : SameName name other). second_none few behind (sym (same_known seen name other same) ∙ c.requires) in
    ap (option_or few) (c.in_ok-insert.ensures.updates.0 key ∙ chosen_or (same_name name other) c.args.location behind none) ∙
    three_or few behind _
