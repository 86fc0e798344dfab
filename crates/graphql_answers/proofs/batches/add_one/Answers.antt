use Rattle.std.proofs.Common.{[], ◌∷◌, None, Some, subst}
use Rattle.graphql_answers.specs.Answers.{AreFirstErrorsOf, default_limits, no_errors, unnamed}
use Rattle.graphql_answers.proofs.DocumentLemmas.{nothing_found, something_found}
use Rattle.graphql_answers.proofs.batches.add_one.Goals as goal

pub returns-then-is_empty-clause-checks : goal.returns-then-is_empty-clause-checks
returns-then-is_empty-clause-checks c = (
  no_errors,
  nothing_found default_limits c.args.schema.now c.args.text.now c.document_source-document.result c.in_ok-lists.lists c.is_empty.result
      c.document_source-document.ensures c.in_ok-lists.ensures c.is_empty.ensures c.if-is_empty.true,
  c.in_ok-add_nothing.ensures.added.appended,
)

pub returns-clause-checks : goal.returns-clause-checks
returns-clause-checks c =
    let added = c.in_ok-add_document.ensures.added.appended in
    let schema = c.args.schema.now in
    let source = c.document_source-document.result in (
      added.0,
      something_found default_limits schema c.args.text.now source c.in_ok-lists.lists c.is_empty.result c.document_source-document.ensures
          c.in_ok-lists.ensures c.is_empty.ensures c.if-is_empty.false added.0
          (subst (λ l. AreFirstErrorsOf default_limits (Some schema) (unnamed source ∷ []) None (source ∷ []) l added.0) c.deref.ensures.value added.1),
      added.2,
    )
