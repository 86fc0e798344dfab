use Rattle.std.proofs.Common.{◌≡◌, ◌++◌, take}
use Rattle.graphql_report_formats.specs.JsonReports.{errors}
use Rattle.graphql_report_formats.specs.NamedTexts.{all_texts, path_of}
use Rattle.graphql_report_formats.proofs.json_format.add_findings.Given as goal

abbrev pub invariant-loop-finding : goal.invariant-loop-finding
invariant-loop-finding l = record {
  before : l.json.before ≡ l.fn.json.before;
  appended : l.json.tokens ≡ l.fn.json.tokens ++ errors (all_texts l.texts) (path_of l.texts.subject.now.path) (take l.finding-index l.findings);
}
