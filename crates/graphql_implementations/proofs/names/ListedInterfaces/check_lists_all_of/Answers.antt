use Rattle.std.proofs.Common.{◌≡◌, Some, All, sym, ap, ◌∙◌}
use Rattle.graphql_diagnostics.specs.Diagnostics.{IsDiagnostic}
use Rattle.graphql_documents.specs.Schemas.{IsListed, interface_named}
use Rattle.graphql_documents.specs.declared.documents.components.ComponentName.{ComponentName}
use Rattle.graphql_nodes.specs.declared.nodes.Node.{Node}
use Rattle.graphql_documents.specs.declared.documents.schemas.InterfaceType.{InterfaceType}
use Rattle.graphql_diagnostics.proofs.ReportLemmas.{checks-err, in_words, kept_by, kept_then, walked_all, walked_more, walked_none}
use Rattle.graphql_implementations.specs.ImplementationSteps.{ListingReport}
use Rattle.graphql_implementations.proofs.ImplementationLemmas.{interface_is, of_found, stands_at}
use Rattle.graphql_implementations.proofs.names.ListedInterfaces.check_lists_all_of.Goals as goal

pub loop-further-init : goal.loop-further-init
loop-further-init c = walked_none _ _ c.as_slice-further-items.result.now _

pub check_is_listed-requires : goal.check_is_listed-requires
check_is_listed-requires c =
    let d = c.in-Some.interface.now in (
      d,
      record { is_listed = c.requires; is_interface = interface_is c.args.self.now.schema.now c.args.listed.now.name d (sym c.in-Some.ensures) },
      stands_at c.as_slice-further-items.result.now d.value.value.implements_interfaces.keys c.loop-further.further-index c.further-item.result
          (c.as_slice-further-items.ensures.keys ∙ ap (λ (t : InterfaceType). t.implements_interfaces.keys) c.deref.ensures)
          c.loop-further-test.true c.further-item.is,
    )

pub returns-in_err-check_is_listed : goal.returns-in_err-check_is_listed
returns-in_err-check_is_listed c =
    checks-err _ _ _ _ _ c.from_residual.ensures.0 (kept_then (kept_by c.loop-further.invariant) (c.in_err-check_is_listed.ensures))

pub loop-further-preserved : goal.loop-further-preserved
loop-further-preserved c =
    walked_more (λ (further : ComponentName). IsListed further.name c.args.self.now.names.now.keys) (IsDiagnostic (ListingReport c.args.self.now))
    c.as_slice-further-items.result.now c.loop-further.further-index c.further-item.result _ _ _
    c.loop-further-test.true c.further-item.is c.loop-further.invariant (c.in_ok-check_is_listed.ensures)

pub returns : goal.returns
returns c =
    let keys = c.args.self.now.names.now.keys in
    let found : interface_named c.args.self.now.schema.now c.args.listed.now.name ≡ Some c.in-Some.interface.now = sym c.in-Some.ensures in
    in_words
    (of_found c.args.self.now.schema.now c.args.listed.now.name c.in-Some.interface.now
    (λ (d : Node InterfaceType). All (λ (further : ComponentName). IsListed further.name keys) d.value.value.implements_interfaces.keys) found)
    (walked_all (λ (further : ComponentName). IsListed further.name keys) (IsDiagnostic (ListingReport c.args.self.now))
    c.as_slice-further-items.result.now c.loop-further.further-index _ _ _
    (c.as_slice-further-items.ensures.keys ∙ ap (λ (t : InterfaceType). t.implements_interfaces.keys) c.deref.ensures)
    c.loop-further-test.false c.loop-further.invariant)
