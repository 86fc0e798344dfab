-- Reports one by one.
use Rattle.graphql_findings.specs.declared.singles.Single.{Single}
use Rattle.graphql_findings.specs.declared.singles.Single.TheVariants as single
use Rattle.graphql_shown_reports.specs.Shown.{Report, building, input_field, more, nesting, reach, syntax, usage, validation, work}

-- the report that a reference is to
abbrev pub report_of : Single → Report
report_of (single.Syntax report) = syntax report.now
report_of (single.Building report) = building report.now
report_of (single.Nesting report) = nesting report.now
report_of (single.Reach report) = reach report.now
report_of (single.Work report) = work report.now
report_of (single.Validation entry) = validation entry.now
report_of (single.InputField repetition) = input_field repetition.now
report_of (single.Usage misuse) = usage misuse.now
report_of single.More = more
