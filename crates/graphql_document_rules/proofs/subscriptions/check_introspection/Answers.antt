use Rattle.std.proofs.Common.{◌≡◌, sym, ap, ◌∙◌, true}
use Rattle.graphql_specification.specs.Subscriptions.{is_introspection}
use Rattle.graphql_documents.specs.declared.documents.executables.Field.{Field}
use Rattle.graphql_diagnostics.proofs.ReportLemmas.{checks-push}
use Rattle.graphql_operations.proofs.SubscriptionLemmas.{introspects}
use Rattle.graphql_document_rules.proofs.RootLemmas.{says_introspection}
use Rattle.graphql_document_rules.proofs.subscriptions.check_introspection.Goals as goal

pub returns : goal.returns
returns c = λ schema fragments is_one inside.
    let f = c.in-Field.field in
    let s = c.args.selection.now in
    let yes : is_introspection f.value.value.name ≡ true =
    ap (λ (g : Field). is_introspection g.name) (sym c.deref.ensures) ∙ sym c.is_introspection.ensures ∙ c.if-not-is_introspection.false in
    checks-push _ _ _ _ _ _ c.push.ensures.ok c.push.ensures.err (introspects s f c.in-Field.is yes)
    (says_introspection schema fragments c.args.operation.now s is_one inside f c.in_ok-name.name c.in_ok-introspected.introspected c.in-Field.is yes
    c.in_ok-name.ensures (c.in_ok-introspected.ensures.cases ∙ ap (λ (g : Field). g.name) c.deref-2.ensures))
