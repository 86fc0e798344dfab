use Rattle.std.proofs.Common.{◌≡◌, [], Contains, ap, inl, inr, subst, sym, true, ◌∙◌}
use Rattle.std.specs.Prelude.{filter}
use Rattle.graphql_documents.proofs.ListLemmas.{kept_by_filter, none_stands}
use Rattle.graphql_merging.specs.Groups.{pass_of}
use Rattle.graphql_nodes.proofs.NameLemmas.{same_name_then}
use Rattle.graphql_pair_merging.specs.FieldGroups.{IsGroupOf, fields_in, has_name, name_by}
use Rattle.graphql_pair_merging.specs.Pairs.{Both, lists_at}
use Rattle.graphql_pair_merging.specs.Parents.{IsInTurn}
use Rattle.graphql_pair_merging.specs.declared.field_groups.GroupedBy.TheVariants.{ParentType}
use Rattle.graphql_pair_merging.specs.declared.numbered_sets.NumberedField.{NumberedField}
use Rattle.graphql_pair_merging.proofs.SettleLemmas.{into_group, settled_words, settles_nothing}
use Rattle.graphql_pair_merging.proofs.TurnLemmas.{others_alike}
use Rattle.graphql_pair_merging.proofs.pairs.PairPass.look_from_parent.Goals as goal

pub returns-in_default-clause-found : goal.returns-in_default-clause-found
returns-in_default-clause-found g c fields key grouped named =
    let schema = c.args.self.now.schema.now in
    let name = c.args.parent.now in
    let none : [] ≡ filter (has_name ParentType name) fields = ap fields_in c.in_default.ensures.value ∙ grouped name in
    settles_nothing schema (pass_of c.args.self.now.pass) fields (λ x y. Both fields x y × IsInTurn schema x y × (has_name ParentType name x ≡ true)) (lists_at c.args.waiting.now.items)
    (λ x y p put. none_stands x (subst (λ l. Contains l x) (sym none) (kept_by_filter (has_name ParentType name) fields x p.0.0 p.2)))

pub returns-then-may_overlap_others-clause-found : goal.returns-then-may_overlap_others-clause-found
returns-then-may_overlap_others-clause-found g c fields key grouped named =
    let schema = c.args.self.now.schema.now in
    let pass = pass_of c.args.self.now.pass in
    let name = c.args.parent.now in
    let group = c.deref.result.now in
    let is : IsGroupOf ParentType fields group = (name, c.deref.ensures.value ∙ ap fields_in c.in-Some.ensures.value ∙ grouped name) in
    settled_words schema pass c.look_with_parents.result fields (λ x y. Contains group x × Contains fields y) (λ x y. Both fields x y × IsInTurn schema x y × (has_name ParentType name x ≡ true))
    (lists_at c.args.waiting.now.items) (lists_at c.look_with_parents.new.waiting.items) (λ x y p put. (into_group ParentType fields group is x p.0.0 p.2, p.0.1)) (c.look_with_parents.ensures.found fields key grouped is named)

pub returns-clause-found : goal.returns-clause-found
returns-clause-found g c fields key grouped named =
    let schema = c.args.self.now.schema.now in
    let pass = pass_of c.args.self.now.pass in
    let name = c.args.parent.now in
    let group = c.deref-2.result.now in
    let is : IsGroupOf ParentType fields group = (name, c.deref-2.ensures.value ∙ ap fields_in c.in-Some.ensures.value ∙ grouped name) in
    let also : (x y : NumberedField) → IsInTurn schema x y → has_name ParentType name x ≡ true → has_name ParentType name y ≡ true =
    λ x y turn has. elim turn [
      | inl same ↦ same_name_then (name_by ParentType y) (name_by ParentType x) name same has
      | inr others ↦ let e = sym (others_alike schema (name_by ParentType x) name has) ∙ others in let f = c.may_overlap_others.ensures in let g = c.if-may_overlap_others.false in absurd (let no : ⊥ = cc in no)
    ] in
    settled_words schema pass c.look_at_one_parent.result fields (Both group) (λ x y. Both fields x y × IsInTurn schema x y × (has_name ParentType name x ≡ true)) (lists_at c.args.waiting.now.items)
    (lists_at c.look_at_one_parent.new.waiting.items)
    (λ x y p put. (into_group ParentType fields group is x p.0.0 p.2, into_group ParentType fields group is y p.0.1 (also x y p.1 p.2)))
    (c.look_at_one_parent.ensures.found fields key is)
