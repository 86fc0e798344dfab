use Rattle.std.proofs.Common.{◌≡◌, Some, ap, ◌∙◌}
use Rattle.std.specs.Option.{option_copied}
use Rattle.graphql_diagnostics.proofs.ReportLemmas.{holds}
use Rattle.graphql_documents.specs.declared.documents.executables.Fragment.{Fragment}
use Rattle.graphql_rules.proofs.FragmentLemmas.{target_checked, target_unasked}
use Rattle.graphql_rules.proofs.operations.fragments.check_target.Goals as goal

pub returns-in_default : goal.returns-in_default
returns-in_default c = λ fragments.
    holds _ _ _ (target_unasked (option_copied c.args.schema) c.args.fragment.now.value.value.selection_set.ty (ap option_copied c.in_default.is))

pub returns : goal.returns
returns c = λ fragments.
    let schema = option_copied c.args.schema in
    let has : schema ≡ Some c.in-Some.schema.now = ap option_copied c.in-Some.is in
    let same_name = c.in_ok-name.ensures.cases ∙ ap (λ (d : Fragment). d.name) c.deref.ensures in
    let same = ap (λ (d : Fragment). d.selection_set.ty) c.deref-2.ensures in
    target_checked schema fragments c.args.fragment.now c.in-Some.schema.now c.in_ok-name.name c.deref-2.result.now.selection_set.ty has same_name same
    c.validate_fragment_type_condition.result _ _ c.validate_fragment_type_condition.ensures
