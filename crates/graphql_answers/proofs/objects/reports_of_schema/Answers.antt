use Rattle.std.proofs.Common.{◌∙◌, None, IfOk, ap, map, subst}
use Rattle.graphql_answers.specs.declared.answers.Found.TheVariants.{InSchema}
use Rattle.graphql_answers.specs.Answers.{IsObjectOfRejected, default_limits, schema_texts}
use Rattle.graphql_answers.specs.Objects.{IsAnswer}
use Rattle.graphql_report_formats.specs.NamedTexts.{named_text}
use Rattle.graphql_answers.proofs.objects.reports_of_schema.Goals as goal

pub returns-clause-found : goal.returns-clause-found
returns-clause-found c =
    let r = c.reports_of_subject.result in
    let reports = c.args.reports in
    subst (λ s. IfOk r (IsAnswer InSchema (IsObjectOfRejected default_limits (schema_texts c.args.sources) None s reports))) c.as_slice-2.ensures
    (subst (λ t. IfOk r (IsAnswer InSchema (IsObjectOfRejected default_limits t None c.as_slice-2.result.now reports))) (ap (map named_text) c.as_slice.ensures ∙ c.schema_texts-texts.ensures)
    c.reports_of_subject.ensures.found)
