use Rattle.std.proofs.Common.{◌≡◌, ◌∙◌, ap}
use Rattle.std.specs.Prelude.{flat_map}
use Rattle.graphql_diagnostics.proofs.ReportLemmas.{checks-err, checks_after, checks_words, kept_by}
use Rattle.graphql_schema_checking.specs.Definitions.{interface_names, member_names, parts_of}
use Rattle.graphql_schema_checking.specs.SchemaBuilds.{all_interface_names, all_member_names}
use Rattle.graphql_repetitions.specs.References.{nows}
use Rattle.graphql_schema_checking.proofs.RuleLemmas.{answered, interfaces_checked, members_checked, parts_are, parts_words, refused}
use Rattle.graphql_schema_checking.proofs.checks.check_parts.Goals as goal

pub returns-in_err-check_repetitions : goal.returns-in_err-check_repetitions
returns-in_err-check_repetitions c = λ definitions named.
    let d = c.args.definition.now in
    let parts : nows c.deref.result.now ≡ parts_of definitions d = ap nows c.deref.ensures.value ∙ c.in_ok-parts.ensures ∙ parts_are definitions d (nows c.args.extensions.now) named in
    let members : nows c.deref-2.result.now ≡ all_member_names definitions d =
    ap nows c.deref-2.ensures.value ∙ c.in_ok-members.ensures ∙ ap (flat_map member_names) parts in
    checks-err _ _ _ _ _ c.from_residual-in_err-check_repetitions.ensures.0
    (members_checked refused definitions _ _ d _ c.type_name-name.result c.type_kind-kind.ensures c.type_name-name.ensures _ members c.in_err-check_repetitions.ensures)

pub returns-in_err-interfaces : goal.returns-in_err-interfaces
returns-in_err-interfaces c = λ definitions named.
    let d = c.args.definition.now in
    let parts : nows c.deref.result.now ≡ parts_of definitions d = ap nows c.deref.ensures.value ∙ c.in_ok-parts.ensures ∙ parts_are definitions d (nows c.args.extensions.now) named in
    let members : nows c.deref-2.result.now ≡ all_member_names definitions d =
    ap nows c.deref-2.ensures.value ∙ c.in_ok-members.ensures ∙ ap (flat_map member_names) parts in
    checks-err _ _ _ _ _ c.from_residual-in_err-interfaces.ensures.0
    (kept_by (members_checked answered definitions _ _ d _ c.type_name-name.result c.type_kind-kind.ensures c.type_name-name.ensures _ members c.in_ok-check_repetitions.ensures))

pub returns : goal.returns
returns c = λ definitions named.
    let d = c.args.definition.now in
    let parts : nows c.deref.result.now ≡ parts_of definitions d = ap nows c.deref.ensures.value ∙ c.in_ok-parts.ensures ∙ parts_are definitions d (nows c.args.extensions.now) named in
    let members : nows c.deref-2.result.now ≡ all_member_names definitions d =
    ap nows c.deref-2.ensures.value ∙ c.in_ok-members.ensures ∙ ap (flat_map member_names) parts in
    let interfaces : nows c.deref-4.result.now ≡ all_interface_names definitions d =
    ap nows c.deref-4.ensures.value ∙ c.in_ok-interfaces.ensures ∙
    ap (flat_map interface_names) (ap nows c.deref-3.ensures.value ∙ c.in_ok-parts.ensures ∙ parts_are definitions d (nows c.args.extensions.now) named) in
    checks_words c.check_repetitions-2.result _ _ _ _ _ _ (parts_words definitions d) (λ e q. q)
    (checks_after _ _ _ _ _ _ _
    (members_checked answered definitions _ _ d _ c.type_name-name.result c.type_kind-kind.ensures c.type_name-name.ensures _ members c.in_ok-check_repetitions.ensures)
    (interfaces_checked c.check_repetitions-2.result definitions _ _ d _ c.type_name-name.result c.type_kind-kind.ensures c.type_name-name.ensures _ interfaces c.check_repetitions-2.ensures))
