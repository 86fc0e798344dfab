-- Lists of reports, and what a call that checks a rule has done to one.
use Rattle.std.specs.Prelude.{◌≡◌, Bool, List, Option, Result, MatchResult}
use Rattle.std.specs.Vec.{vec_allocator}
use Rattle.std.specs.declared.alloc.Global.{Global}
use Rattle.graphql_nodes.specs.declared.spans.SourceSpan.{SourceSpan}
use Rattle.graphql_diagnostics.specs.Reports.{KeepsReports, Reports}
use Rattle.graphql_diagnostics.specs.declared.bounds.ReportBound.{ReportBound}
use Rattle.graphql_hash_seeds.specs.declared.seeds.HashSeed.{HashSeed}
use Rattle.graphql_building_reports.specs.declared.lists.BuildingReport.{BuildingReport}
use Rattle.graphql_building_reports.specs.declared.lists.BuildingReportList.{BuildingReportList}
use Rattle.graphql_building_reports.specs.declared.rules.BuildingRule.{BuildingRule}

-- the reports of a list, in the order in which they were pushed
abbrev pub reports_of : BuildingReportList → List BuildingReport
reports_of list = list.reports.items

-- what a list grows by
abbrev pub allocator_of : BuildingReportList → Global
allocator_of list = vec_allocator list.reports

-- the seed by which names are hashed
abbrev pub hash_seed_of : BuildingReportList → HashSeed
hash_seed_of list = list.hash_seed

-- what a list may still keep, if it has a bound
abbrev pub room_of : BuildingReportList → Option ReportBound
room_of list = list.room

-- the list refused a report that its bound does not admit
abbrev pub has_more_of : BuildingReportList → Bool
has_more_of list = list.has_more

-- a call that checks a rule: where it answers, it reports nothing exactly where the rule holds; in
-- any case the old reports stay, and each further one is true
abbrev pub Checks : {T E : Type 0} → Result T E → Type 0 → (BuildingReport → Type 0) → BuildingReportList → BuildingReportList → Type 0
Checks result Holds IsTrueReport old new =
    MatchResult result
    (λ _. Reports Holds IsTrueReport (reports_of old) (reports_of new))
    (λ _. KeepsReports IsTrueReport (reports_of old) (reports_of new))

-- the report says this, there
pub record Says (broken : BuildingRule) (at : Option SourceSpan) (report : BuildingReport) : Type 0 where
  pub rule_is : report.rule ≡ broken
  pub location_is : report.location ≡ at
