use Rattle.std.proofs.Common.{◌∙◌, subst, sym}
use Rattle.std.specs.Prelude.{OnOk}
use Rattle.graphql_kept_reports.specs.Reports.{KeepsReports}
use Rattle.graphql_kept_projects.specs.Left.{AreKnownOfList}
use Rattle.graphql_kept_projects.proofs.LeftLemmas.{rules_in}
use Rattle.graphql_kept_projects.proofs.unreached.add_known.Goals as goal

pub returns-in-Some : goal.returns-in-Some
returns-in-Some c =
    subst (λ all. OnOk c.add_known_rules.result (KeepsReports (AreKnownOfList c.args.doubts.now c.args.added all) c.args.found.now.lists.items c.add_known_rules.new.found.lists.items))
    (sym (rules_in c.args.reports c.in-Some.reports (sym c.in-Some.is ∙ c.into_document_rules.ensures))) c.add_known_rules.ensures
