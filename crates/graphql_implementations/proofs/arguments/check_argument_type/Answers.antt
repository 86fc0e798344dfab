use Rattle.std.proofs.Common.{◌≡◌, ◌∙◌, ap, false, refl, subst, sym, true≢false}
use Rattle.std.specs.Prelude.{IsTrue}
use Rattle.std.proofs.lemmas.Option.{same_Some}
use Rattle.graphql_specification.specs.Implementations.{of_argument_type}
use Rattle.graphql_nodes.specs.Names.{NameText}
use Rattle.graphql_nodes.specs.Nodes.{SameNode}
use Rattle.graphql_documents.specs.TypeReferences.{same_type}
use Rattle.graphql_diagnostics.specs.declared.data.DiagnosticData.TheVariants as report
use Rattle.graphql_documents.specs.declared.documents.definitions.InputValueDefinition.{InputValueDefinition}
use Rattle.graphql_nodes.specs.declared.nodes.Node.{Node}
use Rattle.graphql_diagnostics.proofs.ReportLemmas.{checks-push, holds}
use Rattle.graphql_implementations.specs.ImplementationSteps.{ImplementedArgumentsReport, IsArgumentImplemented, arguments_of}
use Rattle.graphql_implementations.proofs.arguments.check_argument_type.Goals as goal

pub returns-then-is_same_type : goal.returns-then-is_same_type
returns-then-is_same_type c =
    let w = c.args.wanted.now in
    let o = c.args.own.now in
    let w_is = c.deref-3.ensures ∙ ap (λ (d : InputValueDefinition). d.ty.value.value) c.deref.ensures in
    let o_is = c.deref-4.ensures ∙ ap (λ (d : InputValueDefinition). d.ty.value.value) c.deref-2.ensures in
    let asked : c.is_same_type.result ≡ same_type w.value.value.ty.value.value o.value.value.ty.value.value =
    c.is_same_type.ensures ∙ ap (λ t. same_type t c.deref-4.result.now) w_is ∙ ap (same_type w.value.value.ty.value.value) o_is in
    holds _ _ _ (o, c.requires.provided, sym asked ∙ c.if-is_same_type.true)

pub returns : goal.returns
returns c =
    let f = c.args.field.now in
    let w = c.args.wanted.now in
    let o = c.args.own.now in
    let w_is = c.deref-3.ensures ∙ ap (λ (d : InputValueDefinition). d.ty.value.value) c.deref.ensures in
    let o_is = c.deref-4.ensures ∙ ap (λ (d : InputValueDefinition). d.ty.value.value) c.deref-2.ensures in
    let asked : c.is_same_type.result ≡ same_type w.value.value.ty.value.value o.value.value.ty.value.value =
    c.is_same_type.ensures ∙ ap (λ t. same_type t c.deref-4.result.now) w_is ∙ ap (same_type w.value.value.ty.value.value) o_is in
    let differ : same_type w.value.value.ty.value.value o.value.value.ty.value.value ≡ false = sym asked ∙ c.if-is_same_type.false in
    let wrong : ¬ IsArgumentImplemented (arguments_of f.own.now) w = λ (b, found, same).
    true≢false (sym (subst (λ (x : Node InputValueDefinition). IsTrue (same_type w.value.value.ty.value.value x.value.value.ty.value.value))
    (same_Some b o (sym found ∙ c.requires.provided)) same) ∙ differ) in
    checks-push _ _ _ _ _ _ c.push.ensures.ok c.push.ensures.err wrong
    (subst (λ (n : NameText). ImplementedArgumentsReport f.implementer.now
    (report.InvalidImplementationFieldArgumentType c.in_ok-name.name c.in_ok-interface.interface n c.in_ok-argument.argument
    c.in_ok-interface_type.interface_type c.in_ok-actual_type.actual_type o.location w.location)
    o.location)
    (sym c.in_ok-field_name.ensures.cases)
    (of_argument_type (record {
      listed = f.listed.now;
      wanted = f.wanted.now;
      own = f.own.now;
      wanted_argument = w;
      own_argument = o;
      implements = c.requires.implementing;
      stands = c.requires.stands;
      provided = c.requires.provided;
      differ = differ;
      name_is = c.in_ok-name.ensures.cases;
      interface_is = c.in_ok-interface.ensures.cases;
      argument_is = c.in_ok-argument.ensures.cases ∙ ap (λ (d : InputValueDefinition). d.name) c.deref-5.ensures;
      interface_type_is = subst (λ (d : InputValueDefinition). SameNode d.ty c.in_ok-interface_type.interface_type) c.deref.ensures c.in_ok-interface_type.ensures.cases;
      actual_type_is = subst (λ (d : InputValueDefinition). SameNode d.ty c.in_ok-actual_type.actual_type) c.deref-2.ensures c.in_ok-actual_type.ensures.cases;
      argument_location_is = refl;
      interface_argument_location_is = refl;
      at_is = refl;
    })))
