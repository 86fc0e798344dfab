use Rattle.std.proofs.Common.{[], ◌∙◌, refl, ap, subst, sym}
use Rattle.std.specs.Borrow.{Bor}
use Rattle.std.proofs.lemmas.List.{append-nil}
use Rattle.graphql_documents.specs.Executables.{operations_of}
use Rattle.graphql_specification.specs.FragmentsUsed.{no_fragment, unused_fragment, used_fragment}
use Rattle.graphql_nodes.specs.Names.{NameText}
use Rattle.graphql_diagnostics.specs.declared.data.DiagnosticData.TheVariants as report
use Rattle.graphql_diagnostics.specs.declared.details.Details.TheVariants as details
use Rattle.graphql_documents.specs.declared.documents.executables.Fragment.{Fragment}
use Rattle.graphql_diagnostics.proofs.ReportLemmas.{appends_on_ok}
use Rattle.graphql_operations.specs.UsedFragments.{IsSpreadByAny}
use Rattle.graphql_variables.proofs.NameSetLemmas.{has_name, has_no_name}
use Rattle.graphql_operations.proofs.fragments_used.check_use.Goals as goal

pub returns-then-contains : goal.returns-then-contains
returns-then-contains c = λ document used.
    let key : Bor NameText = record { ref_ptr = c.deref.result.ref_ptr; now = c.deref.result.now.name } in
    let known = has_name c.args.used.now.keys key (sym (c.if-contains.ensures)) in
    let uses = subst (λ (d : Fragment). IsSpreadByAny document (operations_of document) d.name) c.deref.ensures ((used key.now).0 known) in
    record { added = []; appended = sym (append-nil _); are = used_fragment uses no_fragment }

pub returns : goal.returns
returns c = λ document used.
    let key : Bor NameText = record { ref_ptr = c.deref.result.ref_ptr; now = c.deref.result.now.name } in
    let unknown = has_no_name c.args.used.now.keys key (sym (c.if-contains.ensures)) in
    let unused = subst (λ (d : Fragment). ¬ IsSpreadByAny document (operations_of document) d.name) c.deref.ensures (λ u. unknown ((used key.now).1 u)) in
    let named = c.in_ok-name.ensures.cases ∙ ap (λ (d : Fragment). d.name) c.deref.ensures in
    appends_on_ok _ _ _ _ c.push.ensures.ok c.push.ensures.err
    (unused_fragment (record { unused = unused; details_are = ap (λ n. details.Diagnostic (report.UnusedFragment n)) named; at_is = refl }) no_fragment)
