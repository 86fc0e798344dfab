use Rattle.std.proofs.Common.{◌≡◌, ◌∙◌, ap, refl, subst, sym, true, true≢false}
use Rattle.std.specs.Prelude.{is_some}
use Rattle.graphql_specification.specs.Implementations.{of_extra_argument}
use Rattle.graphql_nodes.specs.Names.{NameText}
use Rattle.graphql_documents.specs.Schemas.{is_required}
use Rattle.graphql_diagnostics.specs.declared.data.DiagnosticData.TheVariants as report
use Rattle.graphql_documents.specs.declared.documents.definitions.InputValueDefinition.{InputValueDefinition}
use Rattle.graphql_diagnostics.proofs.ReportLemmas.{checks-err, checks-push, holds, kept}
use Rattle.graphql_implementations.specs.ImplementationSteps.{ImplementedArgumentsReport, IsNoExtra, arguments_of}
use Rattle.graphql_implementations.proofs.arguments.check_not_required.Goals as goal

pub returns-then-not-is_required : goal.returns-then-not-is_required
returns-then-not-is_required c =
    let asked = c.is_required.ensures ∙ ap is_required c.deref.ensures in
    holds _ _ _ (λ required. absurd (true≢false (sym required ∙ sym asked ∙ c.if-not-is_required.true)))

pub returns-in_err-name : goal.returns-in_err-name
returns-in_err-name c = checks-err _ _ _ _ _ c.from_residual.ensures.0 (kept _ _)

pub returns : goal.returns
returns c =
    let f = c.args.field.now in
    let a = c.args.argument.now in
    let required : is_required a.value.value ≡ true = sym (c.is_required.ensures ∙ ap is_required c.deref.ensures) ∙ c.if-not-is_required.false in
    let wrong : ¬ IsNoExtra (arguments_of f.wanted.now) a = λ known. true≢false (sym (known required) ∙ ap is_some c.requires.extra) in
    checks-push _ _ _ _ _ _ c.push.ensures.ok c.push.ensures.err wrong
    (subst (λ (n : NameText). ImplementedArgumentsReport f.implementer.now
    (report.ExtraRequiredImplementationFieldArgument c.in_ok-name.name c.in_ok-interface.interface n c.in_ok-argument_name.argument_name a.location
    f.wanted.now.node.location)
    a.location)
    (sym c.in_ok-field_name.ensures.cases)
    (of_extra_argument (record {
      listed = f.listed.now;
      wanted = f.wanted.now;
      own = f.own.now;
      own_argument = a;
      implements = c.requires.implementing;
      stands = c.requires.stands;
      required = required;
      extra = c.requires.extra;
      name_is = c.in_ok-name.ensures.cases;
      interface_is = c.in_ok-interface.ensures.cases;
      argument_is = c.in_ok-argument_name.ensures.cases ∙ ap (λ (d : InputValueDefinition). d.name) c.deref-2.ensures;
      argument_location_is = refl;
      interface_field_location_is = refl;
      at_is = refl;
    })))
