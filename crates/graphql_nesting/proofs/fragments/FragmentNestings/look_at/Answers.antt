use Rattle.std.proofs.Common.{◌≡◌, List, None, Some, ap, arith, length, refl, subst, sym, ◌∙◌, Result, Ok, Err, OnOk}
use Rattle.std.specs.Prelude.{slice_get}
use Rattle.std.proofs.lemmas.Option.{slice_get_read}
use Rattle.std.proofs.lemmas.Result.{on_ok_weaker}
use Rattle.graphql_nesting.specs.Search.{Searches}
use Rattle.graphql_nesting.specs.Spreads.{GoesOn, StopsAt, known_at}
use Rattle.graphql_nesting.specs.declared.spreads.FragmentLevels.{FragmentLevels}
use Rattle.graphql_nesting.specs.declared.spreads.PlacedSpread.{PlacedSpread}
use Rattle.graphql_nesting.proofs.SearchLemmas.{searches_settled, searches_waits, settled_less, spread_within, waits_less, within_known}
use Rattle.graphql_nesting.proofs.ProgressLemmas.{stops_unknown}
use Rattle.graphql_nesting.proofs.fragments.FragmentNestings.look_at.Goals as goal

-- two facts of a call that answered
both : {T E : Type 0} (P Q : Type 0) (r : Result T E) → OnOk r P → OnOk r Q → OnOk r (P × Q)
both P Q (Ok x) one other = (one, other)
both P Q (Err e) one other = tt

pub returns-in-None-clause-searches : goal.returns-in-None-clause-searches
returns-in-None-clause-searches c = λ document s.
    let old = c.args.self.now in
    let new = c.settle.new.self in
    let x = c.index.result.now in
    let end = c.in_ok-progress.progress in
    let ready = c.args.ready.now.items in
    let at = slice_get_read old.fragments.items (length old.fragments.items) c.args.waiting.fragment x refl
    (let within = within_known document old.fragments.items s.listed old.known.items ready c.args.waiting s in let same = s.as_many in omega arith) c.index.ensures in
    let on = subst (λ (l : List FragmentLevels). GoesOn l x.written.spreads.items c.args.waiting.progress end) c.deref.ensures.value
    (subst (λ (l : List PlacedSpread). GoesOn c.deref.result.now l c.args.waiting.progress end) c.as_slice-spreads.ensures.value c.in_ok-progress.ensures.0) in
    let none : slice_get x.written.spreads.items end.next ≡ None = ap (λ (l : List PlacedSpread). slice_get l end.next) (sym c.as_slice-spreads.ensures.value) ∙ sym c.in-None.ensures in
    on_ok_weaker c.settle.result
    (λ (known, more). subst (λ (f : _). Searches document f.items new.known.items c.settle.new.ready.items) (sym c.settle.ensures.fragments)
    (searches_settled document old.fragments.items s.listed old.known.items ready c.args.waiting s x at end on new.known.items c.settle.new.ready.items none known more))
    (both _ _ c.settle.result c.settle.ensures.known c.settle.ensures.ready)

pub returns-in-None-clause-less : goal.returns-in-None-clause-less
returns-in-None-clause-less c =
    let (document, s) = c.requires in
    let old = c.args.self.now in
    let ready = c.args.ready.now.items in
    on_ok_weaker c.settle.result
    (λ (known, more). settled_less old.known.items c.settle.new.self.known.items ready c.settle.new.ready.items c.args.waiting c.args.waiting.fragment c.in_ok-progress.progress.levels
    (within_known document old.fragments.items s.listed old.known.items ready c.args.waiting s) known more)
    (both _ _ c.settle.result c.settle.ensures.known c.settle.ensures.ready)

pub returns-in-Some-clause-searches : goal.returns-in-Some-clause-searches
returns-in-Some-clause-searches c = λ document s.
    let old = c.args.self.now in
    let new = c.wait.new.self in
    let x = c.index.result.now in
    let end = c.in_ok-progress.progress in
    let p = c.in-Some.spread in
    let ready = c.args.ready.now.items in
    let at = slice_get_read old.fragments.items (length old.fragments.items) c.args.waiting.fragment x refl
    (let within = within_known document old.fragments.items s.listed old.known.items ready c.args.waiting s in let same = s.as_many in omega arith) c.index.ensures in
    let on = subst (λ (l : List FragmentLevels). GoesOn l x.written.spreads.items c.args.waiting.progress end) c.deref.ensures.value
    (subst (λ (l : List PlacedSpread). GoesOn c.deref.result.now l c.args.waiting.progress end) c.as_slice-spreads.ensures.value c.in_ok-progress.ensures.0) in
    let next : slice_get x.written.spreads.items end.next ≡ Some p = ap (λ (l : List PlacedSpread). slice_get l end.next) (sym c.as_slice-spreads.ensures.value) ∙ sym c.in-Some.ensures in
    let stops = subst (λ (l : List FragmentLevels). StopsAt l x.written.spreads.items end.next) c.deref.ensures.value
    (subst (λ (l : List PlacedSpread). StopsAt c.deref.result.now l end.next) c.as_slice-spreads.ensures.value c.in_ok-progress.ensures.1) in
    let unknown : known_at old.known.items p.fragment ≡ None = stops_unknown old.known.items x.written.spreads.items end.next p stops next in
    on_ok_weaker c.wait.result
    (λ puts. subst (λ (f : _). Searches document f.items new.known.items ready) (sym c.wait.ensures.fragments)
    (searches_waits document old.fragments.items s.listed old.known.items ready c.args.waiting s x at end on new.known.items p next unknown puts))
    c.wait.ensures.known

pub returns-in-Some-clause-less : goal.returns-in-Some-clause-less
returns-in-Some-clause-less c =
    let (document, s) = c.requires in
    let old = c.args.self.now in
    let x = c.index.result.now in
    let end = c.in_ok-progress.progress in
    let ready = c.args.ready.now.items in
    let at = slice_get_read old.fragments.items (length old.fragments.items) c.args.waiting.fragment x refl
    (let within = within_known document old.fragments.items s.listed old.known.items ready c.args.waiting s in let same = s.as_many in omega arith) c.index.ensures in
    let on = subst (λ (l : List FragmentLevels). GoesOn l x.written.spreads.items c.args.waiting.progress end) c.deref.ensures.value
    (subst (λ (l : List PlacedSpread). GoesOn c.deref.result.now l c.args.waiting.progress end) c.as_slice-spreads.ensures.value c.in_ok-progress.ensures.0) in
    let next : slice_get x.written.spreads.items end.next ≡ Some c.in-Some.spread = ap (λ (l : List PlacedSpread). slice_get l end.next) (sym c.as_slice-spreads.ensures.value) ∙ sym c.in-Some.ensures in
    on_ok_weaker c.wait.result
    (λ puts. waits_less old.known.items c.wait.new.self.known.items c.args.ready.now.items c.args.waiting (record { fragment = c.args.waiting.fragment; progress = c.in_ok-progress.progress })
    c.in-Some.spread.fragment
    (spread_within document old.fragments.items s.listed old.known.items ready c.args.waiting s x at end on c.in-Some.spread end.next next) puts)
    c.wait.ensures.known
