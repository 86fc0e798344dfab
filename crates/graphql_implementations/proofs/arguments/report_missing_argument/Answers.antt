use Rattle.std.proofs.Common.{◌∙◌, ap, refl, subst, sym}
use Rattle.graphql_specification.specs.Implementations.{of_lacked_argument}
use Rattle.graphql_nodes.specs.Names.{NameText}
use Rattle.graphql_diagnostics.specs.declared.data.DiagnosticData.TheVariants as report
use Rattle.graphql_documents.specs.declared.documents.definitions.InputValueDefinition.{InputValueDefinition}
use Rattle.graphql_diagnostics.proofs.ReportLemmas.{checks-push}
use Rattle.graphql_implementations.specs.ImplementationSteps.{ImplementedArgumentsReport, IsArgumentImplemented, arguments_of}
use Rattle.graphql_implementations.proofs.arguments.report_missing_argument.Goals as goal

pub returns : goal.returns
returns c =
    let f = c.args.field.now in
    let a = c.args.argument.now in
    let lacks : ¬ IsArgumentImplemented (arguments_of f.own.now) a = λ (b, found, same). let clash = sym c.requires.missing ∙ found in let no : ⊥ = cc in no in
    checks-push _ _ _ _ _ _ c.push.ensures.ok c.push.ensures.err lacks
    (subst (λ (n : NameText). ImplementedArgumentsReport f.implementer.now
    (report.MissingInterfaceFieldArgument c.in_ok-name.name c.in_ok-interface.interface n c.in_ok-argument_name.argument_name f.own.now.node.location a.location)
    f.own.now.node.location)
    (sym c.in_ok-field_name.ensures.cases)
    (of_lacked_argument (record {
      listed = f.listed.now;
      wanted = f.wanted.now;
      own = f.own.now;
      wanted_argument = a;
      implements = c.requires.implementing;
      stands = c.requires.stands;
      missing = c.requires.missing;
      name_is = c.in_ok-name.ensures.cases;
      interface_is = c.in_ok-interface.ensures.cases;
      argument_is = c.in_ok-argument_name.ensures.cases ∙ ap (λ (d : InputValueDefinition). d.name) c.deref.ensures;
      field_location_is = refl;
      interface_argument_location_is = refl;
      at_is = refl;
    })))
