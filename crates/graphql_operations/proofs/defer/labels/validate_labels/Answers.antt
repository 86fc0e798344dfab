use Rattle.std.proofs.Common.{◌≡◌, Bor, Contains, List, map, rules, ap, ◌∙◌, subst}
use Rattle.std.proofs.lemmas.Result.{MatchResult-from_err}
use Rattle.graphql_documents.specs.Executables.{sets_of}
use Rattle.graphql_diagnostics.specs.Diagnostics.{entries}
use Rattle.graphql_documents.specs.declared.documents.executables.SelectionSet.{SelectionSet}
use Rattle.graphql_operations.proofs.DeferWalkLemmas.{all_passed, defers_of_set, in_document, meets_set, visited_behind, visited_in_document, visited_of_set, nothing_passed, on_set, sets_behind, sets_more}
use Rattle.graphql_variables.proofs.ReferenceLemmas.{stands_referred}
use Rattle.graphql_operations.proofs.defer.labels.validate_labels.Goals as goal

pub loop-set-init : goal.loop-set-init
loop-set-init c = nothing_passed (entries c.args.diagnostics.now) (record { look_up = λ text. search rules })

pub returns-in_err-check_set : goal.returns-in_err-check_set
returns-in_err-check_set c =
    let document = c.args.document.now in
    let xs = c.deref-set-items.result.now in
    let i = c.loop-set.set-index in
    let x = c.set-item.result in
    let in' = c.loop-set-test.true in
    let item = c.set-item.is in
    let are : map (λ (s : Bor SelectionSet). s.now) xs ≡ sets_of document =
    ap (λ (l : List (Bor SelectionSet)). map (λ s. s.now) l) c.deref-set-items.ensures.value ∙ c.in_ok-sets.ensures in
    let stands : Contains (sets_of document) x.now = subst (λ l. Contains l x.now) are (stands_referred xs i x in' item) in
    MatchResult-from_err _ _ _ c.from_residual-in_err-check_set.ensures.0
    (λ y. c.in_err-check_set.ensures document (defers_of_set x.now) (visited_of_set x.now) (meets_set x.now).0 stands (on_set x.now) (meets_set x.now).1
    _ (sets_behind document xs are i x in' item) _ (visited_behind document xs are i x in' item) (entries c.args.diagnostics.now)
    (in_document document xs are i x in' item) (visited_in_document document xs are i x in' item) c.loop-set.invariant)

pub loop-set-preserved : goal.loop-set-preserved
loop-set-preserved c =
    let document = c.args.document.now in
    let xs = c.deref-set-items.result.now in
    let i = c.loop-set.set-index in
    let x = c.set-item.result in
    let in' = c.loop-set-test.true in
    let item = c.set-item.is in
    let are : map (λ (s : Bor SelectionSet). s.now) xs ≡ sets_of document =
    ap (λ (l : List (Bor SelectionSet)). map (λ s. s.now) l) c.deref-set-items.ensures.value ∙ c.in_ok-sets.ensures in
    let stands : Contains (sets_of document) x.now = subst (λ l. Contains l x.now) are (stands_referred xs i x in' item) in
    sets_more document xs are i x in' item
    (c.in_ok-check_set.ensures document (defers_of_set x.now) (visited_of_set x.now) (meets_set x.now).0 stands (on_set x.now) (meets_set x.now).1
    _ (sets_behind document xs are i x in' item) _ (visited_behind document xs are i x in' item) (entries c.args.diagnostics.now)
    (in_document document xs are i x in' item) (visited_in_document document xs are i x in' item) c.loop-set.invariant)

pub returns : goal.returns
returns c =
    let document = c.args.document.now in
    let xs = c.deref-set-items.result.now in
    let are : map (λ (s : Bor SelectionSet). s.now) xs ≡ sets_of document =
    ap (λ (l : List (Bor SelectionSet)). map (λ s. s.now) l) c.deref-set-items.ensures.value ∙ c.in_ok-sets.ensures in
    all_passed document xs are c.loop-set.set-index c.loop-set-test.false c.loop-set.invariant
