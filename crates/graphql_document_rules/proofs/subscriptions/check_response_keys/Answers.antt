use Rattle.std.proofs.Common.{◌<◌, ◌∷◌, [], length, refl, arith, subst}
use Rattle.graphql_documents.specs.Selections.{fragments_of}
use Rattle.graphql_documents.specs.declared.documents.executables.Operation.{Operation}
use Rattle.graphql_specification.specs.CollectFields.{CollectsFrom}
use Rattle.graphql_diagnostics.proofs.ReportLemmas.{checks-push, holds}
use Rattle.graphql_document_rules.proofs.RootLemmas.{few_keys, says_several, several_keys}
use Rattle.graphql_document_rules.proofs.subscriptions.check_response_keys.Goals as goal

pub returns-then-len-le1 : goal.returns-then-len-le1
returns-then-len-le1 c = λ is_one.
    let S = c.args.schema.now in
    let D = c.args.document.now in
    let found = c.in_ok-fields.ensures in
    let fields = c.in_ok-fields.fields in
    let walk = subst (λ (p : Operation). CollectsFrom S (fragments_of D) p.selection_set.ty [] (p.selection_set ∷ []) found.0) c.deref.ensures found.1 in
    holds _ _ _ (few_keys S D c.args.operation.now found.0 walk fields.items found.2 (omega (arith, c.if-len-le1.true, c.len.ensures, fields.ok)))

pub returns : goal.returns
returns c = λ is_one.
    let S = c.args.schema.now in
    let D = c.args.document.now in
    let o = c.args.operation.now in
    let found = c.in_ok-fields.ensures in
    let fields = c.in_ok-fields.fields in
    let walk = subst (λ (p : Operation). CollectsFrom S (fragments_of D) p.selection_set.ty [] (p.selection_set ∷ []) found.0) c.deref.ensures found.1 in
    let many : 1 < length fields.items = omega (arith, c.if-len-le1.false, c.len.ensures, fields.ok) in
    checks-push _ _ _ _ _ _ c.push.ensures.ok c.push.ensures.err (several_keys S D o found.0 walk fields.items found.2 many)
    (says_several S D o found.0 walk fields.items found.2 fields c.in_ok-name.name refl is_one many c.in_ok-name.ensures)
