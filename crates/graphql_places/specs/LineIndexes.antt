-- What is kept of the places of a text.
use Rattle.std.specs.Prelude.{◌≡◌, ℕ, suc, ◌*◌, ◌/◌, List, length, Some, slice_get}
use Rattle.graphql_places.specs.Places.{IsPlaceOf}
use Rattle.graphql_places.specs.declared.Place.{Place}

-- these are the places of the bytes 0, 256, 512 and so on, as far as the text goes
pub record AreKeptPlaces (text : List ℕ) (kept : List Place) : Type 0 where
  pub count : length kept ≡ suc (length text / 256)
  pub each : (part : ℕ) (place : Place) → slice_get kept part ≡ Some place → IsPlaceOf text (part * 256) place
