-- The location of the first of each name, for walks that report repetitions.
use Rattle.std.specs.Prelude.{◌≡◌, List, ◌∷◌, ◌++◌, Option, find, map}
use Rattle.std.specs.Borrow.{Bor}
use Rattle.std.specs.HashMap.{get_by}
use Rattle.std.specs.Option.{option_map, option_or}
use Rattle.graphql_nodes.specs.Names.{NameText, same_name}
use Rattle.graphql_nodes.specs.declared.spans.SourceSpan.{SourceSpan}
use Rattle.graphql_variables.specs.declared.first_places.FirstPlaces.{FirstPlaces}

-- the location beside the first of the names that is this one
abbrev pub place_in : List (NameText × Option SourceSpan) → NameText → Option (Option SourceSpan)
place_in visited name = option_map (λ m. m.1) (find (λ m. same_name m.0 name) visited)

-- what a borrowed name and its location are
abbrev pub place_at : Bor NameText × Option SourceSpan → NameText × Option SourceSpan
place_at place = (place.0.now, place.1)

abbrev pub places_of : List (Bor NameText × Option SourceSpan) → List (NameText × Option SourceSpan)
places_of = map place_at

-- the location that is known of the first of this name
abbrev pub known_place : FirstPlaces → NameText → Option (Option SourceSpan)
known_place seen name = option_or (place_in (places_of seen.few.items) name) (get_by (λ b. same_name name b.now) seen.others)

-- for each name the location of the first is known
pub record Remembers (seen : FirstPlaces) (visited : List (NameText × Option SourceSpan)) : Type 0 where
  pub look_up : (name : NameText) → known_place seen name ≡ place_in visited name

-- an element of a list, behind these
pub record IsNext {X : Type 0} (all before : List X) (x : X) : Type 0 where
  pub after : List X
  pub split : all ≡ before ++ x ∷ after
