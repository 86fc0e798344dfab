use Rattle.std.proofs.Common.{subst, sym}
use Rattle.graphql_merging.specs.Groups.{pass_of}
use Rattle.graphql_specification.specs.MergedSets.{ArePutTogether}
use Rattle.graphql_pair_merging.specs.NumberedSets.{field_of}
use Rattle.graphql_pair_merging.specs.Pairs.{AreTogether, Both, lists_at}
use Rattle.graphql_pair_merging.specs.declared.field_groups.GroupedBy.TheVariants.{ParentType}
use Rattle.graphql_pair_merging.proofs.ArgumentNumberLemmas.{numbers_among}
use Rattle.graphql_pair_merging.proofs.PlaceLemmas.{stands_at}
use Rattle.graphql_pair_merging.proofs.SettleLemmas.{apart, of_group, settled_named, settles_nothing, together_alone}
use Rattle.graphql_pair_merging.proofs.pairs.PairPass.look_at_one_parent.Goals as goal

pub returns-then-not-parents_may_overlap-clause-found : goal.returns-then-not-parents_may_overlap-clause-found
returns-then-not-parents_may_overlap-clause-found g c all key is =
    let schema = c.args.self.now.schema.now in
    let fields = c.args.fields.now in
    let one = c.in-Some.one.now in
    let there = stands_at fields 0 one (sym c.in-Some.ensures.value) in
    settles_nothing schema (pass_of c.args.self.now.pass) all (Both fields) (lists_at c.args.waiting.now.items)
    (λ x y both put. apart schema all fields fields key.one_key is is one one there there
    (λ overlap. let e = c.parents_may_overlap.ensures.1 overlap in let f = c.if-not-parents_may_overlap.true in let no : ⊥ = cc in no) x y both
    (subst (λ p. ArePutTogether schema p (field_of x) (field_of y)) c.requires put))

pub returns-clause-found : goal.returns-clause-found
returns-clause-found g c all key is =
    let schema = c.args.self.now.schema.now in
    let pass = pass_of c.args.self.now.pass in
    let fields = c.args.fields.now in
    let one = c.in-Some.one.now in
    settled_named schema pass c.look_at_fields.result all fields (Both fields) (lists_at c.args.waiting.now.items) (lists_at c.look_at_fields.new.waiting.items)
    (of_group ParentType all fields is) (λ x y both put. both)
    (c.look_at_fields.ensures.found (subst (λ p. AreTogether schema p fields) (sym c.requires)
    (together_alone schema all fields key.one_key is one (stands_at fields 0 one (sym c.in-Some.ensures.value)) (c.parents_may_overlap.ensures.0 c.if-not-parents_may_overlap.false)))
    (numbers_among all fields (of_group ParentType all fields is) key.numbers))
