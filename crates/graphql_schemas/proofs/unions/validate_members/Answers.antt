use Rattle.std.proofs.Common.{◌≡◌, Contains, sym, ap, subst, ◌∙◌}
use Rattle.graphql_diagnostics.specs.Diagnostics.{IsDiagnostic}
use Rattle.graphql_documents.specs.Schemas.{NamesKind, is_object_type}
use Rattle.graphql_specification.specs.Types.{TypeReport}
use Rattle.graphql_documents.specs.declared.documents.components.ComponentName.{ComponentName}
use Rattle.graphql_documents.specs.declared.documents.schemas.ExtendedType.TheVariants as types
use Rattle.graphql_documents.specs.declared.documents.schemas.UnionType.{UnionType}
use Rattle.graphql_diagnostics.proofs.ReportLemmas.{checks-err, kept_by, kept_then, walked_all, walked_more, walked_none}
use Rattle.graphql_schemas.proofs.unions.validate_members.Goals as goal

pub loop-member-init : goal.loop-member-init
loop-member-init c =
    walked_none (λ (member : ComponentName). NamesKind c.args.schema.now is_object_type member.name)
    (IsDiagnostic (TypeReport c.args.schema.now (types.Union c.args.union.now))) c.as_slice-member-items.result.now _

pub returns-in_err-validate_member : goal.returns-in_err-validate_member
returns-in_err-validate_member c =
    let members = c.as_slice-member-items.result.now in
    let x = c.member-item.result in
    let are : members ≡ c.args.union.now.value.value.members.keys =
    c.as_slice-member-items.ensures.keys ∙ ap (λ (u : UnionType). u.members.keys) c.deref.ensures in
    let stands : Contains members x = (c.loop-member.member-index, c.loop-member-test.true, sym c.member-item.is) in
    checks-err _ _ _ _ _ c.from_residual.ensures.0
    (kept_then (kept_by c.loop-member.invariant) (c.in_err-validate_member.ensures c.args.union.now (subst (λ l. Contains l x) are stands)))

pub loop-member-preserved : goal.loop-member-preserved
loop-member-preserved c =
    let members = c.as_slice-member-items.result.now in
    let x = c.member-item.result in
    let are : members ≡ c.args.union.now.value.value.members.keys =
    c.as_slice-member-items.ensures.keys ∙ ap (λ (u : UnionType). u.members.keys) c.deref.ensures in
    let stands : Contains members x = (c.loop-member.member-index, c.loop-member-test.true, sym c.member-item.is) in
    walked_more (λ (member : ComponentName). NamesKind c.args.schema.now is_object_type member.name)
    (IsDiagnostic (TypeReport c.args.schema.now (types.Union c.args.union.now)))
    members c.loop-member.member-index x _ _ _
    c.loop-member-test.true c.member-item.is c.loop-member.invariant
    (c.in_ok-validate_member.ensures c.args.union.now (subst (λ l. Contains l x) are stands))

pub returns : goal.returns
returns c =
    walked_all (λ (member : ComponentName). NamesKind c.args.schema.now is_object_type member.name)
    (IsDiagnostic (TypeReport c.args.schema.now (types.Union c.args.union.now)))
    c.as_slice-member-items.result.now c.loop-member.member-index c.args.union.now.value.value.members.keys _ _
    (c.as_slice-member-items.ensures.keys ∙ ap (λ (u : UnionType). u.members.keys) c.deref.ensures)
    c.loop-member-test.false c.loop-member.invariant
