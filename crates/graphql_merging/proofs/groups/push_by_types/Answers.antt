use Rattle.std.proofs.Common.{◌≤◌, ◌*◌, ◌++◌, ap, arith, length, subst, sym, ◌∙◌}
use Rattle.graphql_merging.specs.NumberedFields.{AreNumberedIn, listed, lists_of}
use Rattle.std.proofs.lemmas.List.{length-map}
use Rattle.graphql_merging.specs.NumberedFields.{selection_of}
use Rattle.graphql_merging.specs.Groups.{fields_under}
use Rattle.graphql_merging.specs.NumberedGroups.{named_fields}
use Rattle.graphql_merging.specs.Works.{weight}
use Rattle.graphql_merging.proofs.GroupLemmas.{lists_on_objects}
use Rattle.graphql_merging.proofs.WeightLemmas.{weight_by_objects, weight_unless_empty}
use Rattle.graphql_merging.proofs.groups.push_by_types.Goals as goal

pub returns-clause-groups : goal.returns-clause-groups
returns-clause-groups g c =
    let found = c.in_ok-on_objects.field-0 in
    let before = lists_of c.args.groups.now.items in
    c.in_ok-push_each_with.ensures.groups ∙
    ap (λ l. before ++ l)
    (lists_on_objects c.args.schema.now (listed c.args.fields.now) found.on_objects.entries (listed c.deref.result.now)
    c.in_ok-on_objects.ensures.objects (ap listed c.deref.ensures.value ∙ c.in_ok-on_objects.ensures.on_abstract)
    (λ none. let e = c.is_empty.ensures.1 none in let no : ⊥ = cc in no))

pub returns-clause-numbered : goal.returns-clause-numbered
returns-clause-numbered g c contents lists all =
    let held = c.in_ok-on_objects.ensures.numbered contents all in
    c.in_ok-push_each_with.ensures.numbered contents lists held.0 (subst (AreNumberedIn contents) (sym c.deref.ensures.value) held.1)

pub returns-then-is_empty-clause-numbered : goal.returns-then-is_empty-clause-numbered
returns-then-is_empty-clause-numbered g c contents lists all =
    c.in_ok-push_unless_empty.ensures.numbered contents lists (c.in_ok-on_objects.ensures.numbered contents all).1

pub returns-then-is_empty-clause-spare : goal.returns-then-is_empty-clause-spare
returns-then-is_empty-clause-spare g c bounded =
    let found = c.in_ok-on_objects.field-0 in (
      bounded,
      omega (
        arith,
        c.in_ok-on_objects.ensures.steps,
        c.in_ok-on_objects.ensures.few,
        ap weight c.in_ok-push_unless_empty.ensures.groups,
        weight_unless_empty (lists_of c.args.groups.now.items) (listed found.on_abstract.items),
        length-map found.on_abstract.items selection_of,
      ),
    )

pub returns-clause-spare : goal.returns-clause-spare
returns-clause-spare g c bounded =
    let found = c.in_ok-on_objects.field-0 in
    let fields = listed c.args.fields.now in
    let few : weight (fields_under (named_fields found.on_objects.entries)) ≤ 2 * length fields =
    subst (λ known. weight (fields_under known) ≤ 2 * length fields) (sym c.in_ok-on_objects.ensures.objects) (weight_by_objects c.args.schema.now fields) in
    let many = length-map c.args.fields.now selection_of in
    let paid = c.in_ok-push_each_with.ensures.spare bounded in
    (paid.0, omega (arith, c.in_ok-on_objects.ensures.steps, paid.1, few, many))

pub returns-in_err-push_each_with-clause-cost : goal.returns-in_err-push_each_with-clause-cost
returns-in_err-push_each_with-clause-cost g c bounded =
    let found = c.in_ok-on_objects.field-0 in
    let fields = listed c.args.fields.now in
    let few : weight (fields_under (named_fields found.on_objects.entries)) ≤ 2 * length fields =
    subst (λ known. weight (fields_under known) ≤ 2 * length fields) (sym c.in_ok-on_objects.ensures.objects) (weight_by_objects c.args.schema.now fields) in
    let many = length-map c.args.fields.now selection_of in
    let paid = c.push_each_with.ensures.cost bounded in
    (paid.0, omega (arith, c.in_ok-on_objects.ensures.steps, paid.1, few, many))

pub returns-clause-cost : goal.returns-clause-cost
returns-clause-cost g c bounded =
    let found = c.in_ok-on_objects.field-0 in
    let fields = listed c.args.fields.now in
    let few : weight (fields_under (named_fields found.on_objects.entries)) ≤ 2 * length fields =
    subst (λ known. weight (fields_under known) ≤ 2 * length fields) (sym c.in_ok-on_objects.ensures.objects) (weight_by_objects c.args.schema.now fields) in
    let many = length-map c.args.fields.now selection_of in
    let paid = c.push_each_with.ensures.cost bounded in
    (paid.0, omega (arith, c.in_ok-on_objects.ensures.steps, paid.1, few, many))
