use Rattle.std.proofs.Common.{◌≡◌, ◌*◌, ℕ, suc, length, Some, slice_get}
use Rattle.graphql_places.specs.Places.{IsPlaceOf}
use Rattle.graphql_places.specs.declared.Place.{Place}
use Rattle.graphql_places.proofs.line_indexes.LineIndex.new.Given as goal

abbrev pub invariant-loop-part : goal.invariant-loop-part
invariant-loop-part l = record {
  here : IsPlaceOf l.bytes (l.part * 256) l.place;
  count : length l.kept.items ≡ suc l.part;
  each : (part : ℕ) (place : Place) → slice_get l.kept.items part ≡ Some place → IsPlaceOf l.bytes (part * 256) place;
}
