use Rattle.std.proofs.Common.{◌≡◌, ℕ, suc, ◌<◌, true, false, List, length, drop, get_or, None, Some, refl, sym, ◌∙◌, ap, add-one, arith}
use Rattle.std.proofs.Math.Seq.{drop-cons, drop-length}
use Rattle.std.specs.Str.{bytes_eq}
use Rattle.graphql_nodes.specs.declared.directive_locations.DirectiveLocation.{DirectiveLocation}
use Rattle.graphql_nodes.specs.declared.directive_locations.DirectiveLocation.TheVariants.{Query}
use Rattle.graphql_type_system_syntax.specs.DirectiveDefinitionReaders.{location_among}
use Rattle.graphql_nodes.specs.DirectiveLocations.{location_text}
use Rattle.graphql_type_system_syntax.proofs.locations.location_among.Goals as goal

this_one : (xs : List DirectiveLocation) (k : ℕ) (text : List ℕ) → k < length xs →
    bytes_eq text (location_text (get_or xs k Query)) ≡ true → location_among (drop k xs) text ≡ Some (get_or xs k Query)
this_one xs k text h e = rw (drop-cons xs k Query h, e) refl

not_this_one : (xs : List DirectiveLocation) (k : ℕ) (text : List ℕ) → k < length xs →
    bytes_eq text (location_text (get_or xs k Query)) ≡ false → location_among (drop k xs) text ≡ location_among (drop (suc k) xs) text
not_this_one xs k text h e = rw (drop-cons xs k Query h, e) refl

none_left : (xs : List DirectiveLocation) (k : ℕ) (text : List ℕ) → k ≡ length xs → location_among (drop k xs) text ≡ None
none_left xs k text e = rw (e, drop-length xs) refl

pub returns-then-eq : goal.returns-then-eq
returns-then-eq c =
    let same : c.as_bytes.result.now ≡ location_text (get_or c.args.locations.now c.loop-location.location-index Query) = c.as_bytes.ensures.value ∙ c.name.ensures in
    let seen : bytes_eq c.args.text.now (location_text (get_or c.args.locations.now c.loop-location.location-index Query)) ≡ true = ap (bytes_eq c.args.text.now) (sym same) ∙ sym c.eq.ensures ∙ c.if-eq.true in
    sym (c.loop-location.invariant ∙ this_one c.args.locations.now c.loop-location.location-index c.args.text.now (omega arith) seen)

pub loop-location-preserved : goal.loop-location-preserved
loop-location-preserved c =
    let same : c.as_bytes.result.now ≡ location_text (get_or c.args.locations.now c.loop-location.location-index Query) = c.as_bytes.ensures.value ∙ c.name.ensures in
    let seen : bytes_eq c.args.text.now (location_text (get_or c.args.locations.now c.loop-location.location-index Query)) ≡ false = ap (bytes_eq c.args.text.now) (sym same) ∙ sym c.eq.ensures ∙ c.if-eq.false in
    c.loop-location.invariant ∙ not_this_one c.args.locations.now c.loop-location.location-index c.args.text.now (omega arith) seen ∙ rw (add-one c.loop-location.location-index) refl

pub returns : goal.returns
returns c = sym (c.loop-location.invariant ∙ none_left c.args.locations.now c.loop-location.location-index c.args.text.now (omega arith))
