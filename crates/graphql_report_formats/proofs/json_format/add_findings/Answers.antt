use Rattle.std.proofs.Common.{rules}
use Rattle.graphql_report_formats.specs.JsonReports.{error}
use Rattle.graphql_report_formats.specs.NamedTexts.{all_texts, path_of}
use Rattle.graphql_report_formats.proofs.JsonLemmas.{one_more}
use Rattle.graphql_report_formats.proofs.json_format.add_findings.Goals as goal

pub loop-finding-preserved : goal.loop-finding-preserved
loop-finding-preserved c = record {
  before = search rules;
  appended = one_more (error (all_texts c.args.texts) (path_of c.args.texts.subject.now.path)) c.args.findings.now c.loop-finding.finding-index c.finding-item.result _ _ _
      c.loop-finding-test.true c.finding-item.is c.loop-finding.invariant.appended c.in_ok-add_finding.ensures.appended;
}
