use Rattle.std.proofs.Common.{◌≡◌, [], Contains, ap, subst, sym, true, ◌∙◌}
use Rattle.std.specs.Prelude.{filter}
use Rattle.graphql_documents.proofs.ListLemmas.{kept_by_filter, none_stands}
use Rattle.graphql_merging.specs.Groups.{pass_of}
use Rattle.graphql_pair_merging.specs.FieldGroups.{IsGroupOf, fields_in, has_name}
use Rattle.graphql_pair_merging.specs.Pairs.{lists_at}
use Rattle.graphql_pair_merging.specs.declared.field_groups.GroupedBy.TheVariants.{ParentType}
use Rattle.graphql_pair_merging.proofs.SettleLemmas.{into_group, settled_words, settles_nothing}
use Rattle.graphql_pair_merging.proofs.pairs.PairPass.look_with_parent.Goals as goal

pub returns-in-Some-clause-found : goal.returns-in-Some-clause-found
returns-in-Some-clause-found g c fields key grouped first_is =
    let schema = c.args.self.now.schema.now in
    let pass = pass_of c.args.self.now.pass in
    let first = c.args.first.now in
    let name = c.args.parent.now in
    let group = c.deref.result.now in
    let is : IsGroupOf ParentType fields group = (name, c.deref.ensures.value ∙ ap fields_in c.in-Some.ensures.value ∙ grouped name) in
    settled_words schema pass c.look_at_two_parents.result fields (λ x y. Contains first x × Contains group y) (λ x y. Contains first x × (Contains fields y × (has_name ParentType name y ≡ true))) (lists_at c.args.waiting.now.items)
    (lists_at c.look_at_two_parents.new.waiting.items) (λ x y p put. (p.0, into_group ParentType fields group is y p.1.0 p.1.1)) (c.look_at_two_parents.ensures.found fields key first_is is)

pub returns-in-None-clause-found : goal.returns-in-None-clause-found
returns-in-None-clause-found g c fields key grouped first_is =
    let first = c.args.first.now in
    let name = c.args.parent.now in
    let none : [] ≡ filter (has_name ParentType name) fields = ap fields_in c.in-None.ensures.value ∙ grouped name in
    settles_nothing c.args.self.now.schema.now (pass_of c.args.self.now.pass) fields (λ x y. Contains first x × (Contains fields y × (has_name ParentType name y ≡ true))) (lists_at c.args.waiting.now.items)
    (λ x y p put. none_stands y (subst (λ l. Contains l y) (sym none) (kept_by_filter (has_name ParentType name) fields y p.1.0 p.1.1)))
