use Rattle.std.proofs.Common.{◌≡◌, None, sym, ◌∙◌, subst}
use Rattle.graphql_specification.specs.Implementations.{of_undefined_interface}
use Rattle.graphql_nodes.specs.Names.{NameText}
use Rattle.graphql_documents.specs.Schemas.{interface_named}
use Rattle.graphql_diagnostics.specs.declared.data.DiagnosticData.TheVariants as report
use Rattle.graphql_diagnostics.proofs.ReportLemmas.{checks-push, holds}
use Rattle.graphql_implementations.specs.ImplementationSteps.{ListingReport}
use Rattle.graphql_implementations.proofs.ImplementationLemmas.{interface_named_is, interface_not_named, no_interface}
use Rattle.graphql_implementations.proofs.names.ListedInterfaces.check_is_interface.Goals as goal

pub returns-then-is_some : goal.returns-then-is_some
returns-then-is_some c =
    holds _ _ _ (interface_named_is c.args.self.now.schema.now c.args.listed.now.name c.get_interface.result c.get_interface.ensures
    (sym c.is_some.ensures ∙ c.if-is_some.true))

pub returns : goal.returns
returns c =
    let none : interface_named c.args.self.now.schema.now c.args.listed.now.name ≡ None =
    interface_not_named c.args.self.now.schema.now c.args.listed.now.name c.get_interface.result c.get_interface.ensures (sym c.is_some.ensures ∙ c.if-is_some.false) in
    checks-push _ _ _ _ _ _ c.push.ensures.ok c.push.ensures.err
    (λ (d, is). no_interface c.args.self.now.schema.now c.args.listed.now.name none d is)
    (subst (λ (n : NameText). ListingReport c.args.self.now (report.UndefinedDefinition n) c.location.result) (sym c.in_ok-name.ensures.cases)
    (of_undefined_interface c.requires none c.location.ensures))
