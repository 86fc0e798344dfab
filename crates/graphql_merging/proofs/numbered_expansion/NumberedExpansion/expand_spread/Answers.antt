use Rattle.std.proofs.Common.{◌≡◌, ◌++◌, ◌∷◌, [], IsFalse, IsTrue, ap, map, refl, subst, sym, ◌∙◌}
use Rattle.std.proofs.lemmas.List.{append-nil, map-append}
use Rattle.std.specs.List.{list_any}
use Rattle.graphql_contents.specs.declared.documents.NumberedSet.{NumberedSet}
use Rattle.graphql_specification.specs.MergedSets.{followed_by}
use Rattle.graphql_nodes.specs.Names.{same_name}
use Rattle.graphql_documents.specs.declared.documents.executables.FragmentSpread.{FragmentSpread}
use Rattle.graphql_merging.specs.ExpansionSteps.{fragments_in, newest}
use Rattle.graphql_merging.specs.NumberedExpansions.{expanding}
use Rattle.graphql_merging.proofs.ExpansionStepLemmas.{followed_by_none, followed_found, known_expands, known_name, new_name, spread_expands}
use Rattle.graphql_merging.proofs.numbered_expansion.NumberedExpansion.expand_spread.Goals as goal

pub returns-in_ok-push_back-clause-expands : goal.returns-in_ok-push_back-clause-expands
returns-in_ok-push_back-clause-expands c = λ parent.
    let p = c.args.spread.now in
    let old = expanding c.args.self.now in
    let keys = c.args.self.now.visited.keys in
    let set = c.in-Some.set.set.now in
    let named = subst (λ (q : FragmentSpread). IsFalse (list_any (same_name q.fragment_name) (newest keys)) × (newest c.insert.new.self.keys ≡ q.fragment_name ∷ newest keys))
    c.deref.ensures (new_name keys c.insert.new.self.keys _ c.in_ok-insert.field-0 c.in_ok-insert.ensures.added c.in_ok-insert.ensures.keys c.if-branch.true) in
    let found = subst (λ (q : FragmentSpread). followed_by (fragments_in old.fragments q.fragment_name) [] ≡ set ∷ []) c.deref.ensures
    (followed_found (fragments_in old.fragments c.deref.result.now.fragment_name) set c.in-Some.ensures.set) in
    let queue = ap (map (λ (s : NumberedSet). s.set.now)) c.in_ok-push_back.ensures.items ∙ map-append (λ (s : NumberedSet). s.set.now) c.args.self.now.queue.items _ in
    spread_expands parent p refl refl named.0 named.1 (queue ∙ ap (λ l. old.queue ++ l) (sym found))

pub returns-in_default-clause-expands : goal.returns-in_default-clause-expands
returns-in_default-clause-expands c = λ parent.
    let p = c.args.spread.now in
    let old = expanding c.args.self.now in
    let keys = c.args.self.now.visited.keys in
    let named = subst (λ (q : FragmentSpread). IsFalse (list_any (same_name q.fragment_name) (newest keys)) × (newest c.insert.new.self.keys ≡ q.fragment_name ∷ newest keys))
    c.deref.ensures (new_name keys c.insert.new.self.keys _ c.in_ok-insert.field-0 c.in_ok-insert.ensures.added c.in_ok-insert.ensures.keys c.if-branch.true) in
    let found = subst (λ (q : FragmentSpread). followed_by (fragments_in old.fragments q.fragment_name) [] ≡ []) c.deref.ensures
    (followed_by_none (fragments_in old.fragments c.deref.result.now.fragment_name) c.in_default.ensures.set) in
    spread_expands parent p refl refl named.0 named.1 (sym (append-nil old.queue) ∙ ap (λ l. old.queue ++ l) (sym found))

pub returns-else-branch-clause-expands : goal.returns-else-branch-clause-expands
returns-else-branch-clause-expands c = λ parent.
    let p = c.args.spread.now in
    let keys = c.args.self.now.visited.keys in
    let named = subst (λ (q : FragmentSpread). IsTrue (list_any (same_name q.fragment_name) (newest keys)) × (newest c.insert.new.self.keys ≡ newest keys))
    c.deref.ensures (known_name keys c.insert.new.self.keys _ c.in_ok-insert.field-0 c.in_ok-insert.ensures.added c.in_ok-insert.ensures.keys c.if-branch.false) in
    known_expands parent p refl refl named.0 named.1 refl
