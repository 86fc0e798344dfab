use Rattle.std.proofs.Common.{◌≡◌, [], ◌∷◌, None, Some, subst, sym, false, true}
use Rattle.json.specs.Print.{print}
use Rattle.graphql_answers.specs.declared.answers.Found.TheVariants.{Nothing, InDocuments}
use Rattle.graphql_answers.specs.Answers.{AreFirstErrorsOf, no_errors, unnamed}
use Rattle.graphql_answers.specs.Sessions.{FindsAgainst, by_checking}
use Rattle.graphql_answers.proofs.AnswerLemmas.{told}
use Rattle.graphql_answers.proofs.DocumentLemmas.{nothing_found, something_found}
use Rattle.graphql_answers.proofs.sessions.answer.Goals as goal

pub returns-then-is_empty-clause-found : goal.returns-then-is_empty-clause-found
returns-then-is_empty-clause-found c =
    let limits = c.args.limits in
    let schema = c.args.schema.now in
    let text = c.args.text.now in
    told (FindsAgainst limits schema text) c.nothing.result Nothing (λ object. object ≡ no_errors) c.nothing.ensures.found
    (λ object is. subst (λ o. FindsAgainst limits schema text Nothing (print o)) (sym is)
    (by_checking false no_errors (nothing_found limits schema text c.document_source-document.result c.in_ok-lists.lists c.is_empty.result
    c.document_source-document.ensures c.in_ok-lists.ensures c.is_empty.ensures c.if-is_empty.true)))

pub returns-clause-found : goal.returns-clause-found
returns-clause-found c =
    let limits = c.args.limits in
    let schema = c.args.schema.now in
    let text = c.args.text.now in
    let source = c.document_source-document.result in
    let AreErrors = AreFirstErrorsOf limits (Some schema) (unnamed source ∷ []) None (source ∷ []) in
    told (FindsAgainst limits schema text) c.reports_of_document.result InDocuments (AreErrors c.deref.result.now) c.reports_of_document.ensures.found
    (λ object is. by_checking true object (something_found limits schema text source c.in_ok-lists.lists c.is_empty.result c.document_source-document.ensures
    c.in_ok-lists.ensures c.is_empty.ensures c.if-is_empty.false object (subst (λ l. AreErrors l object) c.deref.ensures.value is)))
