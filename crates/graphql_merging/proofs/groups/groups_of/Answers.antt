use Rattle.std.proofs.Common.{◌≡◌, ◌≤◌, ◌+◌, ◌*◌, ℕ, Vec, ap, arith, length, subst, sym, ◌∙◌, map, rules}
use Rattle.indexmap.specs.IndexMap.{values}
use Rattle.graphql_merging.specs.NumberedFields.{AreGroupsNumbered, listed, lists_of}
use Rattle.graphql_merging.proofs.NumberedGroupLemmas.{values_numbered}
use Rattle.graphql_merging.proofs.GroupLemmas.{lists_by_keys, lists_viewed}
use Rattle.std.proofs.lemmas.List.{length-map}
use Rattle.std.proofs.lemmas.Result.{IfOk-weaker}
use Rattle.graphql_merging.specs.NumberedFields.{selection_of}
use Rattle.graphql_merging.specs.NumberedGroups.{named_fields}
use Rattle.std.specs.declared.alloc.Global.{Global}
use Rattle.graphql_merging.specs.declared.numbered_fields.NumberedField.{NumberedField}
use Rattle.graphql_merging.specs.Works.{Pays, weight}
use Rattle.graphql_merging.proofs.WeightLemmas.{names_within, weight_by_keys}
use Rattle.graphql_merging.specs.Groups.{fields_under, pass_of}
use Rattle.graphql_specification.specs.MergedSets.{groups_of}
use Rattle.graphql_merging.proofs.groups.groups_of.Goals as goal

pub returns-in_ok-collect-in-Shapes-clause-groups : goal.returns-in_ok-collect-in-Shapes-clause-groups
returns-in_ok-collect-in-Shapes-clause-groups g c =
    let found = c.in_ok-fields_by_key.fields_by_key in
    let fields = listed c.args.fields.now in
    let items : c.in_ok-collect-in-Shapes.field-0.items ≡ values found = search rules in
    ap lists_of items ∙ lists_viewed found.entries ∙ ap (map (λ entry. entry.1)) c.in_ok-fields_by_key.ensures.found ∙
    lists_by_keys c.args.schema.now fields ∙
    ap (λ pass. groups_of c.args.schema.now (pass_of pass) fields) (sym c.in-Shapes.is)

pub returns-in_ok-collect-in-Shapes-clause-numbered : goal.returns-in_ok-collect-in-Shapes-clause-numbered
returns-in_ok-collect-in-Shapes-clause-numbered g c contents all =
    let found = c.in_ok-fields_by_key.fields_by_key in
    let items : c.in_ok-collect-in-Shapes.field-0.items ≡ values found = search rules in
    subst (AreGroupsNumbered contents) (sym items) (values_numbered contents found.entries (c.in_ok-fields_by_key.ensures.numbered contents all))

pub returns-in_ok-collect-in-Shapes-clause-spare : goal.returns-in_ok-collect-in-Shapes-clause-spare
returns-in_ok-collect-in-Shapes-clause-spare g c bounded =
    let found = c.in_ok-fields_by_key.fields_by_key in
    let fields = listed c.args.fields.now in
    let few : weight (fields_under (named_fields found.entries)) ≤ 2 * length fields =
    subst (λ known. weight (fields_under known) ≤ 2 * length fields) (sym c.in_ok-fields_by_key.ensures.found) (weight_by_keys fields) in
    let many = length-map c.args.fields.now selection_of in
    let items : c.in_ok-collect-in-Shapes.field-0.items ≡ values found = search rules in
    let same = ap (λ l. weight (lists_of l)) items ∙ ap weight (lists_viewed found.entries) in (
      bounded,
      omega (
        arith,
        c.in_ok-fields_by_key.ensures.steps,
        c.take-in-Shapes.ensures,
        c.len.ensures,
        few,
        many,
        same,
        names_within found.entries,
      ),
    )

pub returns-in-NamesAndArguments-clause-spare : goal.returns-in-NamesAndArguments-clause-spare
returns-in-NamesAndArguments-clause-spare g c =
    let found = c.in_ok-fields_by_key.fields_by_key in
    let fields = listed c.args.fields.now in
    let few : weight (fields_under (named_fields found.entries)) ≤ 2 * length fields =
    subst (λ known. weight (fields_under known) ≤ 2 * length fields) (sym c.in_ok-fields_by_key.ensures.found) (weight_by_keys fields) in
    let many = length-map c.args.fields.now selection_of in
    let Spares = λ (before : ℕ) (groups : Vec (Vec NumberedField Global) Global).
    Pays c.args.work.now c.groups_by_types.new.work before (c.groups_by_types.new.steps + 4 * weight (lists_of groups.items)) 0 in
    IfOk-weaker c.groups_by_types.result (Spares (c.numbered_by_key.new.steps + 11 * weight (fields_under (named_fields found.entries))))
    (Spares (c.args.steps.now + 23 * length c.args.fields.now))
    (λ groups spare bounded. let paid = spare bounded in (paid.0, omega (arith, c.in_ok-fields_by_key.ensures.steps, paid.1, few, many)))
    c.groups_by_types.ensures.spare

pub returns-in-NamesAndArguments-clause-cost : goal.returns-in-NamesAndArguments-clause-cost
returns-in-NamesAndArguments-clause-cost g c bounded =
    let found = c.in_ok-fields_by_key.fields_by_key in
    let fields = listed c.args.fields.now in
    let few : weight (fields_under (named_fields found.entries)) ≤ 2 * length fields =
    subst (λ known. weight (fields_under known) ≤ 2 * length fields) (sym c.in_ok-fields_by_key.ensures.found) (weight_by_keys fields) in
    let many = length-map c.args.fields.now selection_of in
    let paid = c.groups_by_types.ensures.cost bounded in
    (paid.0, omega (arith, c.in_ok-fields_by_key.ensures.steps, paid.1, few, many))

pub returns-in_err-collect-in-Shapes-clause-cost : goal.returns-in_err-collect-in-Shapes-clause-cost
returns-in_err-collect-in-Shapes-clause-cost g c bounded =
    let found = c.in_ok-fields_by_key.fields_by_key in
    let fields = listed c.args.fields.now in
    let few : weight (fields_under (named_fields found.entries)) ≤ 2 * length fields =
    subst (λ known. weight (fields_under known) ≤ 2 * length fields) (sym c.in_ok-fields_by_key.ensures.found) (weight_by_keys fields) in
    let many = length-map c.args.fields.now selection_of in (
      bounded,
      omega (
        arith,
        c.in_ok-fields_by_key.ensures.steps,
        c.take-in-Shapes.ensures,
        c.len.ensures,
        few,
        many,
        names_within found.entries,
      ),
    )

pub returns-in_ok-collect-in-Shapes-clause-cost : goal.returns-in_ok-collect-in-Shapes-clause-cost
returns-in_ok-collect-in-Shapes-clause-cost g c bounded =
    let found = c.in_ok-fields_by_key.fields_by_key in
    let fields = listed c.args.fields.now in
    let few : weight (fields_under (named_fields found.entries)) ≤ 2 * length fields =
    subst (λ known. weight (fields_under known) ≤ 2 * length fields) (sym c.in_ok-fields_by_key.ensures.found) (weight_by_keys fields) in
    let many = length-map c.args.fields.now selection_of in (
      bounded,
      omega (
        arith,
        c.in_ok-fields_by_key.ensures.steps,
        c.take-in-Shapes.ensures,
        c.len.ensures,
        few,
        many,
        names_within found.entries,
      ),
    )
