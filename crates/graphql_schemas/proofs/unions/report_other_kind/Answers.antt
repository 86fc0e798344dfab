use Rattle.std.proofs.Common.{◌≡◌, rules}
use Rattle.graphql_specification.specs.Types.{member_is_no_object}
use Rattle.graphql_diagnostics.proofs.ReportLemmas.{checks-push}
use Rattle.graphql_schemas.proofs.unions.report_other_kind.Goals as goal

pub returns : goal.returns
returns c = λ schema union defined stands.
    let named : c.in_ok-name.name ≡ c.args.member.now.name = search rules in
    checks-push _ _ _ _ _ _ c.push.ensures.ok c.push.ensures.err (λ no. no)
    (rw named (member_is_no_object {d = union} {member = c.args.member.now} {describe = c.describe.result} {at = c.location.result} stands (c.args.definition.now, defined, c.requires, search rules) (search rules)))
