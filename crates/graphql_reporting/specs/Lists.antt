-- Lists of reports, and what a call that checks a rule has done to one.
use Rattle.std.specs.Prelude.{Bool, List, MatchResult, Option, Result}
use Rattle.std.specs.Vec.{vec_allocator}
use Rattle.std.specs.declared.alloc.Global.{Global}
use Rattle.graphql_diagnostics.specs.Reports.{KeepsReports, Reports}
use Rattle.graphql_diagnostics.specs.declared.bounds.ReportBound.{ReportBound}
use Rattle.graphql_reporting.specs.declared.lists.ReportList.{ReportList}

-- the reports of a list, in the order in which they were pushed
abbrev pub reports_of : {Report : Type 0} → ReportList Report → List Report
reports_of list = list.kept.items

-- what a list grows by
abbrev pub allocator_of : {Report : Type 0} → ReportList Report → Global
allocator_of list = vec_allocator list.kept

-- what a list may still keep, if it has a bound
abbrev pub room_of : {Report : Type 0} → ReportList Report → Option ReportBound
room_of list = list.room

-- the list refused a report for which its bound has no room
abbrev pub has_more_of : {Report : Type 0} → ReportList Report → Bool
has_more_of list = list.has_more

-- a call that checks a rule: if it answers, it reports nothing exactly if the rule holds; in any case the old reports stay, and each further one is true
abbrev pub Checks : {T E Report : Type 0} → Result T E → Type 0 → (Report → Type 0) → ReportList Report → ReportList Report → Type 0
Checks result Holds IsTrueReport old new =
    MatchResult result
    (λ _. Reports Holds IsTrueReport (reports_of old) (reports_of new))
    (λ _. KeepsReports IsTrueReport (reports_of old) (reports_of new))
