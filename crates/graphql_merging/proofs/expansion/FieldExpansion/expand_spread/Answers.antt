use Rattle.std.proofs.Common.{◌≡◌, ◌++◌, ◌∷◌, [], Bor, IsFalse, IsTrue, None, Some, map, refl, sym, ap, ◌∙◌, subst}
use Rattle.std.proofs.lemmas.List.{append-nil, map-append}
use Rattle.std.specs.List.{list_any}
use Rattle.graphql_specification.specs.MergedSets.{followed_by}
use Rattle.graphql_nodes.specs.Names.{same_name}
use Rattle.graphql_documents.specs.declared.documents.executables.Fragment.{Fragment}
use Rattle.graphql_documents.specs.declared.documents.executables.FragmentSpread.{FragmentSpread}
use Rattle.graphql_documents.specs.declared.documents.executables.SelectionSet.{SelectionSet}
use Rattle.graphql_merging.specs.ExpansionSteps.{expanding, fragments_in, newest}
use Rattle.graphql_merging.proofs.ExpansionStepLemmas.{known_expands, known_name, new_name, spread_expands}
use Rattle.graphql_merging.proofs.expansion.FieldExpansion.expand_spread.Goals as goal

pub returns-in_ok-push_back : goal.returns-in_ok-push_back
returns-in_ok-push_back c = λ parent.
    let p = c.args.spread.now in
    let old = c.args.self.now in
    let named = subst (λ (q : FragmentSpread). IsFalse (list_any (same_name q.fragment_name) (newest old.visited.keys)) × (newest c.insert.new.self.keys ≡ q.fragment_name ∷ newest old.visited.keys))
    c.deref.ensures (new_name old.visited.keys c.insert.new.self.keys _ c.in_ok-insert.field-0
    c.in_ok-insert.ensures.added c.in_ok-insert.ensures.keys c.if-branch.true) in
    let d = c.in-Some.fragment.now in
    let found : fragments_in old.fragments.now p.value.value.fragment_name ≡ Some d =
    subst (λ (q : FragmentSpread). fragments_in old.fragments.now q.fragment_name ≡ Some d) c.deref.ensures (sym c.in-Some.ensures.value) in
    let queue = ap (map (λ (set : Bor SelectionSet). set.now)) c.in_ok-push_back.ensures.items ∙ map-append (λ (set : Bor SelectionSet). set.now) old.queue.items _ ∙
    ap (λ (e : Fragment). (expanding old).queue ++ e.selection_set ∷ []) c.deref-in-Some.ensures in
    spread_expands parent p refl refl named.0 named.1 (queue ∙ ap (λ o. (expanding old).queue ++ followed_by o []) (sym found))

pub returns-in_default : goal.returns-in_default
returns-in_default c = λ parent.
    let p = c.args.spread.now in
    let old = c.args.self.now in
    let named = subst (λ (q : FragmentSpread). IsFalse (list_any (same_name q.fragment_name) (newest old.visited.keys)) × (newest c.insert.new.self.keys ≡ q.fragment_name ∷ newest old.visited.keys))
    c.deref.ensures (new_name old.visited.keys c.insert.new.self.keys _ c.in_ok-insert.field-0
    c.in_ok-insert.ensures.added c.in_ok-insert.ensures.keys c.if-branch.true) in
    let found : fragments_in old.fragments.now p.value.value.fragment_name ≡ None =
    subst (λ (q : FragmentSpread). fragments_in old.fragments.now q.fragment_name ≡ None) c.deref.ensures (sym c.in_default.ensures.value) in
    spread_expands parent p refl refl named.0 named.1 (sym (append-nil (expanding old).queue) ∙ ap (λ o. (expanding old).queue ++ followed_by o []) (sym found))

pub returns-else-branch : goal.returns-else-branch
returns-else-branch c = λ parent.
    let p = c.args.spread.now in
    let old = c.args.self.now in
    let named = subst (λ (q : FragmentSpread). IsTrue (list_any (same_name q.fragment_name) (newest old.visited.keys)) × (newest c.insert.new.self.keys ≡ newest old.visited.keys))
    c.deref.ensures (known_name old.visited.keys c.insert.new.self.keys _ c.in_ok-insert.field-0
    c.in_ok-insert.ensures.added c.in_ok-insert.ensures.keys c.if-branch.false) in
    known_expands parent p refl refl named.0 named.1 refl
