use Rattle.std.proofs.Common.{◌≡◌, ◌∙◌, ◌+◌, List, sym, subst, take}
use Rattle.std.specs.Prelude.{◌⊎◌, Any, OnOk}
use Rattle.std.proofs.lemmas.List.{take_all}
use Rattle.graphql_nodes.specs.Names.{NameText}
use Rattle.graphql_documents.specs.Selections.{selections_of}
use Rattle.graphql_documents.specs.declared.documents.executables.Field.{Field}
use Rattle.graphql_documents.specs.declared.documents.executables.FragmentSpread.{FragmentSpread}
use Rattle.graphql_documents.specs.declared.documents.executables.InlineFragment.{InlineFragment}
use Rattle.graphql_documents.specs.declared.documents.executables.Selection.TheVariants as kind
use Rattle.graphql_documents.specs.declared.documents.executables.Selection.{Selection}
use Rattle.graphql_variables.proofs.UseLemmas.{any_more}
use Rattle.graphql_reach.specs.Written.{SelectionHas, SetHas}
use Rattle.graphql_reach.specs.Reached.{AddsSpreads, SpreadsName}
use Rattle.graphql_reach.proofs.SelectionLemmas.{field_spreads, inline_spreads, set_words, spread_spreads}
use Rattle.graphql_reach.proofs.SpreadLemmas.{adds_then, adds_words, adds_words_ok}
use Rattle.graphql_reach.proofs.reached.Reached.+selection.Goals as goal

-- what the first selections spread
abbrev Among : List Selection → NameText → Type 0
Among selections name = Any (λ s. SelectionHas SpreadsName s name) selections

pub add_in_selection-returns-in-Field : goal.add_in_selection-returns-in-Field
add_in_selection-returns-in-Field t c =
    let d = c.args.document.now in
    let r = c.add_in_set.result in
    let f = c.in-Field.field in
    let old = c.args.self.now in
    let new = c.add_in_set.new.self in
    subst (λ s. OnOk r (AddsSpreads d (SelectionHas SpreadsName s) old new)) (sym c.in-Field.is)
    (adds_words_ok d r (SetHas SpreadsName f.value.value.selection_set) (SelectionHas SpreadsName (kind.Field f)) old new (field_spreads f)
    (subst (λ (x : Field). OnOk r (AddsSpreads d (SetHas SpreadsName x.selection_set) old new)) c.deref.ensures c.add_in_set.ensures))

pub add_in_selection-returns-in-FragmentSpread : goal.add_in_selection-returns-in-FragmentSpread
add_in_selection-returns-in-FragmentSpread t c =
    let d = c.args.document.now in
    let r = c.add_spread.result in
    let p = c.in-FragmentSpread.spread in
    let old = c.args.self.now in
    let new = c.add_spread.new.self in
    subst (λ s. OnOk r (AddsSpreads d (SelectionHas SpreadsName s) old new)) (sym c.in-FragmentSpread.is)
    (adds_words_ok d r (λ spread. spread ≡ p.value.value.fragment_name) (SelectionHas SpreadsName (kind.FragmentSpread p)) old new (spread_spreads p)
    (subst (λ (x : FragmentSpread). OnOk r (AddsSpreads d (λ spread. spread ≡ x.fragment_name) old new)) c.deref-in-FragmentSpread.ensures c.add_spread.ensures))

pub add_in_selection-returns-in-InlineFragment : goal.add_in_selection-returns-in-InlineFragment
add_in_selection-returns-in-InlineFragment t c =
    let d = c.args.document.now in
    let r = c.add_in_set-in-InlineFragment.result in
    let i = c.in-InlineFragment.fragment in
    let old = c.args.self.now in
    let new = c.add_in_set-in-InlineFragment.new.self in
    subst (λ s. OnOk r (AddsSpreads d (SelectionHas SpreadsName s) old new)) (sym c.in-InlineFragment.is)
    (adds_words_ok d r (SetHas SpreadsName i.value.value.selection_set) (SelectionHas SpreadsName (kind.InlineFragment i)) old new (inline_spreads i)
    (subst (λ (x : InlineFragment). OnOk r (AddsSpreads d (SetHas SpreadsName x.selection_set) old new)) c.deref-in-InlineFragment.ensures
    c.add_in_set-in-InlineFragment.ensures))

pub add_in_set-loop-selection-preserved : goal.add_in_set-loop-selection-preserved
add_in_set-loop-selection-preserved t c =
    let d = c.args.document.now in
    let xs = c.deref-selection-items.result.now in
    let i = c.loop-selection.selection-index in
    let s = c.selection-item.result in
    let more = λ (name : NameText). any_more (λ s. SelectionHas SpreadsName s name) xs i s c.loop-selection-test.true c.selection-item.is in
    adds_words d (λ name. Among (take i xs) name ⊎ SelectionHas SpreadsName s name) (Among (take (i + 1) xs)) c.args.self.now c.add_in_selection.new.self
    (λ name. ((more name).1, (more name).0))
    (adds_then d (Among (take i xs)) (SelectionHas SpreadsName s) c.args.self.now c.loop-selection.self c.add_in_selection.new.self c.loop-selection.invariant
    c.in_ok-add_in_selection.ensures)

pub add_in_set-returns : goal.add_in_set-returns
add_in_set-returns t c =
    let d = c.args.document.now in
    let xs = c.deref-selection-items.result.now in
    let i = c.loop-selection.selection-index in
    let all = take_all i xs c.loop-selection-test.false ∙ c.deref-selection-items.ensures.value in
    adds_words d (Among (selections_of c.args.set.now)) (SetHas SpreadsName c.args.set.now) c.args.self.now c.loop-selection.self (set_words SpreadsName c.args.set.now)
    (subst (λ l. AddsSpreads d (Among l) c.args.self.now c.loop-selection.self) all c.loop-selection.invariant)
