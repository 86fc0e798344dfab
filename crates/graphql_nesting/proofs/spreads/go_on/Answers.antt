use Rattle.std.proofs.Common.{◌≡◌, ◌<◌, ◌≤◌, None, Option, arith, get_or, length, refl, subst, sym}
use Rattle.std.specs.Prelude.{MatchOption}
use Rattle.std.proofs.lemmas.Option.{slice_get-get_or, slice_get_past}
use Rattle.graphql_nesting.specs.Spreads.{AddsKnown, AreLevelsThrough, goes_through, spread_known, stays}
use Rattle.graphql_nesting.specs.declared.spreads.PlacedSpread.{PlacedSpread}
use Rattle.graphql_nesting.proofs.spreads.go_on.Goals as goal

pub loop-progress-preserved : goal.loop-progress-preserved
loop-progress-preserved c =
    let spreads = c.args.spreads.now in
    let next = c.loop-progress.progress.next in
    let within : next < length spreads = omega arith in
    let through : AreLevelsThrough c.args.known.now (get_or spreads next (record { fragment = 0; above = 0 })) c.in-Some.levels =
    subst (AddsKnown c.args.known.now (get_or spreads next (record { fragment = 0; above = 0 }))) c.in-Some.is c.in_ok-levels.ensures in
    goes_through c.loop-progress.invariant (slice_get-get_or spreads next (record { fragment = 0; above = 0 }) within) through refl c.max.ensures

pub loop-progress-init : goal.loop-progress-init
loop-progress-init c = stays

pub returns-in_default : goal.returns-in_default
returns-in_default c =
    let spreads = c.args.spreads.now in
    let next = c.loop-progress.progress.next in
    let within : next < length spreads = omega arith in (
      c.loop-progress.invariant,
      subst (λ (o : Option PlacedSpread). MatchOption o (Unit {0}) (λ s. spread_known c.args.known.now s ≡ None)) (sym (slice_get-get_or spreads next (record { fragment = 0; above = 0 }) within))
          (subst (AddsKnown c.args.known.now (get_or spreads next (record { fragment = 0; above = 0 }))) c.in_default.is c.in_ok-levels.ensures),
    )

pub returns : goal.returns
returns c =
    let spreads = c.args.spreads.now in
    let next = c.loop-progress.progress.next in
    let past : length spreads ≤ next = omega arith in (
      c.loop-progress.invariant,
      subst (λ (o : Option PlacedSpread). MatchOption o (Unit {0}) (λ s. spread_known c.args.known.now s ≡ None)) (sym (slice_get_past spreads next past)) tt,
    )
