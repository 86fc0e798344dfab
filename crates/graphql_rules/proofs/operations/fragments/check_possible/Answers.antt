use Rattle.std.proofs.Common.{ap}
use Rattle.graphql_diagnostics.proofs.ReportLemmas.{holds}
use Rattle.graphql_documents.specs.declared.documents.executables.Fragment.{Fragment}
use Rattle.graphql_operations.specs.Contexts.{parent_of, schema_of}
use Rattle.graphql_rules.proofs.FieldLemmas.{parent_against, schema_against}
use Rattle.graphql_rules.proofs.FragmentLemmas.{possible_anywhere, use_checked}
use Rattle.graphql_rules.proofs.operations.fragments.check_possible.Goals as goal

pub returns-in-Some-clause-checks : goal.returns-in-Some-clause-checks
returns-in-Some-clause-checks c = λ fragments found.
    let schema = schema_of c.args.context.now in
    let parent = parent_of c.args.against_type in
    let has = schema_against schema c.args.against_type c.in-Some.schema c.in-Some.parent c.requires c.in-Some.is in
    let is = parent_against schema c.args.against_type c.in-Some.schema c.in-Some.parent c.requires c.in-Some.is in
    let same = ap (λ (d : Fragment). d.selection_set.ty) c.deref.ensures in
    use_checked schema fragments parent c.args.spread.now c.args.fragment.now found c.in-Some.schema.now c.in-Some.parent.now
    c.deref.result.now.selection_set.ty has is same c.validate_fragment_spread_type.result _ _ c.validate_fragment_spread_type.ensures.checks

pub returns-in-None-clause-checks : goal.returns-in-None-clause-checks
returns-in-None-clause-checks c = λ fragments found.
    holds _ _ _
    (possible_anywhere (schema_of c.args.context.now) c.args.fragment.now.value.value.selection_set.ty (parent_of c.args.against_type) (ap parent_of c.in-None.is))
