use Rattle.std.proofs.Common.{map, sym, ap, subst}
use Rattle.std.specs.Borrow.{Bor}
use Rattle.std.specs.List.{Any}
use Rattle.graphql_documents.specs.declared.documents.executables.FragmentSpread.{FragmentSpread}
use Rattle.graphql_documents.specs.declared.documents.executables.Selection.{Selection}
use Rattle.graphql_variables.specs.Uses.{NamesAlso}
use Rattle.graphql_variables.proofs.UseLemmas.{also_all, also_in_words, also_more}
use Rattle.graphql_operations.specs.UsedFragments.{IsSpreadAmong}
use Rattle.graphql_operations.proofs.UsedFragmentLemmas.{SpreadsHere, no_spread_here, spread_here, spreads_among}
use Rattle.graphql_operations.proofs.fragments_used.add_spreads.Goals as goal
use Rattle.graphql_operations.proofs.fragments_used.add_spreads.Goals.{in-FragmentSpread+in_ok-insert, in_default}

pub loop-selection-preserved : goal.loop-selection-preserved
loop-selection-preserved c =
    let xs = c.args.selections.now in
    let i = c.loop-selection.selection-index in
    let x = c.selection-item.result in
    let mid = c.loop-selection.names.keys in
    elim c.match-selection.branch [
      | in-FragmentSpread+in_ok-insert w ↦
          let here : NamesAlso (λ n. SpreadsHere n x) mid w.insert.new.self.keys =
          subst (NamesAlso (λ n. SpreadsHere n x) mid) (sym w.in_ok-insert.ensures.keys)
          (spread_here x w.in-FragmentSpread.spread _ w.in-FragmentSpread.is (ap (λ (p : FragmentSpread). p.fragment_name) w.deref.ensures) mid) in
          rw w.names-is
          (also_more SpreadsHere xs i x c.args.names.now.keys mid w.insert.new.self.keys c.loop-selection-test.true c.selection-item.is c.loop-selection.invariant here)
      | in_default w ↦
          rw w.names-is
          (also_more SpreadsHere xs i x c.args.names.now.keys mid mid c.loop-selection-test.true c.selection-item.is c.loop-selection.invariant
          (no_spread_here x w.in_default.not-FragmentSpread mid))
    ]

pub returns : goal.returns
returns c =
    let xs = c.args.selections.now in
    let old = c.args.names.now.keys in
    let new = c.loop-selection.names.keys in
    also_in_words (λ n. Any (SpreadsHere n) xs) (IsSpreadAmong (map (λ (b : Bor Selection). b.now) xs)) old new (spreads_among xs)
    (also_all SpreadsHere xs c.loop-selection.selection-index old new c.loop-selection-test.false c.loop-selection.invariant)
