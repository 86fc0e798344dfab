use Rattle.std.proofs.Common.{◌≡◌, ◌∙◌, ap, sym}
use Rattle.std.specs.Prelude.{is_some}
use Rattle.graphql_documents.specs.Definitions.{definition_named}
use Rattle.graphql_documents.specs.declared.documents.definitions.InputValueDefinition.{InputValueDefinition}
use Rattle.graphql_diagnostics.proofs.ReportLemmas.{holds}
use Rattle.graphql_implementations.specs.ImplementationSteps.{arguments_of}
use Rattle.graphql_implementations.proofs.arguments.check_further_argument.Goals as goal

pub check_not_required-requires-clause-extra : goal.check_not_required-requires-clause-extra
check_not_required-requires-clause-extra c =
    let a = c.args.argument.now in
    let named : definition_named c.deref.result.now.name c.args.wanted.now ≡ definition_named a.value.value.name (arguments_of c.args.field.now.wanted.now) =
    ap (λ (d : InputValueDefinition). definition_named d.name c.args.wanted.now) c.deref.ensures ∙ ap (definition_named a.value.value.name) c.requires.wanted in
    sym named ∙ sym (c.in-None.ensures)

pub returns-in-Some : goal.returns-in-Some
returns-in-Some c =
    let a = c.args.argument.now in
    let named : definition_named c.deref.result.now.name c.args.wanted.now ≡ definition_named a.value.value.name (arguments_of c.args.field.now.wanted.now) =
    ap (λ (d : InputValueDefinition). definition_named d.name c.args.wanted.now) c.deref.ensures ∙ ap (definition_named a.value.value.name) c.requires.wanted in
    holds _ _ _ (λ required. ap is_some (sym named ∙ sym (c.in-Some.ensures)))
