use Rattle.std.proofs.Common.{◌<◌, ◌≤◌, List, arith, length, subst}
use Rattle.graphql_nesting.specs.Spreads.{GoesOn, StopsAt}
use Rattle.graphql_nesting.specs.declared.spreads.FragmentLevels.{FragmentLevels}
use Rattle.graphql_nesting.specs.declared.spreads.PlacedSpread.{PlacedSpread}
use Rattle.graphql_nesting.specs.declared.spreads.Progress.{Progress}
use Rattle.graphql_nesting.proofs.CheckLemmas.{all_known, leads_to_endless}
use Rattle.graphql_nesting.proofs.fragments.FragmentNestings.levels_of.Goals as goal

pub returns-then-end-len : goal.returns-then-end-len
returns-then-end-len c = λ document set settled written.
    let end = c.in_ok-end.end in
    let spreads = c.args.written.now.spreads.items in
    let within : end.next < length spreads = omega (arith, c.if-end-len.true, c.len.ensures, c.args.written.now.spreads.ok.0) in
    leads_to_endless document c.args.self.now settled set c.args.written.now written end.next within
    (subst (λ (l : List FragmentLevels). StopsAt l spreads end.next) c.deref.ensures.value
    (subst (λ (l : List PlacedSpread). StopsAt c.deref.result.now l end.next) c.deref-2.ensures.value c.in_ok-end.ensures.1))

pub returns-else-end-len : goal.returns-else-end-len
returns-else-end-len c = λ document set settled written.
    let end = c.in_ok-end.end in
    let spreads = c.args.written.now.spreads.items in
    let past : length spreads ≤ end.next = omega (arith, c.if-end-len.false, c.len.ensures, c.args.written.now.spreads.ok.0) in
    all_known document c.args.self.now settled set c.args.written.now written end
    (subst (λ (p : Progress). GoesOn c.args.self.now.known.items spreads p end) c.start.ensures
    (subst (λ (l : List FragmentLevels). GoesOn l spreads c.start.result end) c.deref.ensures.value
    (subst (λ (l : List PlacedSpread). GoesOn c.deref.result.now l c.start.result end) c.deref-2.ensures.value c.in_ok-end.ensures.0))) past
