use Rattle.std.proofs.Common.{◌≡◌, ◌++◌, Contains, ap, inl, inr, subst, sym, ◌∙◌, ℕ}
use Rattle.graphql_merging.specs.Groups.{pass_of}
use Rattle.graphql_specification.specs.MergedSets.{ArePutTogether}
use Rattle.graphql_pair_merging.specs.NumberedSets.{field_of}
use Rattle.graphql_pair_merging.specs.Pairs.{AreTogether, lists_at}
use Rattle.graphql_pair_merging.specs.declared.field_groups.GroupedBy.TheVariants.{ParentType}
use Rattle.graphql_pair_merging.specs.declared.numbered_sets.NumberedField.{NumberedField}
use Rattle.graphql_pair_merging.proofs.ArgumentNumberLemmas.{numbers_among}
use Rattle.graphql_pair_merging.proofs.PlaceLemmas.{stands_at}
use Rattle.graphql_pair_merging.proofs.SettleLemmas.{apart, in_both, of_group, settled_two, settles_nothing, together}
use Rattle.std.specs.Prelude.{Ok}
use Rattle.graphql_pair_merging.proofs.pairs.PairPass.look_at_two_parents.Goals as goal

pub returns-then-not-parents_may_overlap-clause-found : goal.returns-then-not-parents_may_overlap-clause-found
returns-then-not-parents_may_overlap-clause-found g c fields key a b =
    let schema = c.args.self.now.schema.now in
    let first = c.args.first.now in
    let second = c.args.second.now in
    let one = c.in-Some-Some.one.now in
    let other = c.in-Some-Some.other.now in
    settles_nothing schema (pass_of c.args.self.now.pass) fields (λ x y. Contains first x × Contains second y) (lists_at c.args.waiting.now.items)
    (λ x y both put. apart schema fields first second key.one_key a b one other (stands_at first 0 one (sym c.in-Some-Some.ensures.value)) (stands_at second 0 other (sym c.in-Some-Some.ensures'.value))
    (λ overlap. let e = c.parents_may_overlap.ensures.1 overlap in let f = c.if-not-parents_may_overlap.true in let no : ⊥ = cc in no) x y both
    (subst (λ p. ArePutTogether schema p (field_of x) (field_of y)) c.requires put))

pub returns-clause-found : goal.returns-clause-found
returns-clause-found g c fields key a b =
    let schema = c.args.self.now.schema.now in
    let pass = pass_of c.args.self.now.pass in
    let first = c.args.first.now in
    let second = c.args.second.now in
    let one = c.in-Some-Some.one.now in
    let other = c.in-Some-Some.other.now in
    let all = c.deref.result.now in
    let is : all ≡ first ++ second = c.deref.ensures.value ∙ c.in_ok-extend_from_slice.ensures.items ∙ ap (λ l. l ++ second) c.in_ok-both.ensures.items in
    let among : (x : NumberedField) → Contains all x → Contains fields x =
    λ x in'. elim (in_both first second all is x in') [
      | inl h ↦ of_group ParentType fields first a x h
      | inr h ↦ of_group ParentType fields second b x h
    ] in
    settled_two {E = ℕ} schema pass (Ok c.in_ok-compare_fields.field-0) fields all first second (lists_at c.args.waiting.now.items) (lists_at c.compare_fields.new.waiting.items) is
    among
    (c.in_ok-compare_fields.ensures.found (subst (λ p. AreTogether schema p all) (sym c.requires)
    (together schema fields first second key.one_key a b one other (stands_at first 0 one (sym c.in-Some-Some.ensures.value)) (stands_at second 0 other (sym c.in-Some-Some.ensures'.value)) all is
    (c.parents_may_overlap.ensures.0 c.if-not-parents_may_overlap.false))) (numbers_among fields all among key.numbers))
