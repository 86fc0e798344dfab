use Rattle.std.proofs.Common.{◌≡◌, ◌++◌, map, refl, rules, subst}
use Rattle.std.specs.Prelude.{OnOk}
use Rattle.std.proofs.lemmas.Result.{on_ok_weaker}
use Rattle.graphql_report_formats.specs.JsonReports.{errors_object}
use Rattle.graphql_report_formats.specs.NamedTexts.{named_text, path_of}
use Rattle.graphql_answers.proofs.objects.add_reports.Goals as goal

pub returns-clause-added : goal.returns-clause-added
returns-clause-added c =
    let subject = c.args.subject in
    let findings = c.in_ok-findings.findings in
    let object_of = errors_object (map named_text subject.texts.now) (path_of subject.path) in
    let object = object_of findings.shown.items in
    let added = c.add_shown.ensures.added in
    let appended = subst (λ l. OnOk c.add_shown.result (c.add_shown.new.json.tokens ≡ c.args.json.now.tokens ++ object_of l)) c.deref.ensures.value added.appended in
    record {
      before = search rules;
      appended = on_ok_weaker {P = c.add_shown.new.json.tokens ≡ c.args.json.now.tokens ++ object} c.add_shown.result
          (λ e. (
            object,
            record {
              found = findings;
              are_shown = c.in_ok-findings.ensures;
              object_is = refl;
            },
            e,
          ))
          appended;
    }
