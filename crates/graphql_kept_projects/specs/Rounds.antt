-- Lists of reports on what is left of texts. Specification: 5 Validation
use Rattle.std.specs.Prelude.{◌≡◌, ◌++◌, Bool, List, false, filter, not, true}
use Rattle.graphql_frontend.specs.declared.reports.Reports.TheVariants.{Building, DocumentRules, FirstBuilding, FirstDocumentRules, Syntax}
use Rattle.graphql_frontend.specs.declared.reports.Reports.{Reports}
use Rattle.graphql_kept_reports.specs.Doubtful.{has_doubtful}
use Rattle.graphql_kept_reports.specs.Unreached.{has_unreached}
use Rattle.graphql_kept_reports.specs.declared.doubts.Doubts.{Doubts}

-- one of the reports could be false of the whole texts. Errors of syntax are: those of the whole texts were found in them
abbrev pub is_doubtful_list : Doubts → Reports → Bool
is_doubtful_list doubts (Syntax errors) = true
is_doubtful_list doubts (DocumentRules reports) = has_doubtful doubts reports.rules
is_doubtful_list doubts (FirstDocumentRules list) = has_doubtful doubts list
is_doubtful_list doubts _ = false

-- the new lists are the old ones, and behind them, in order, those of the further ones that have no such report
abbrev pub AddsKnown : Doubts → List Reports → List Reports → List Reports → Type 0
AddsKnown doubts further old new = new ≡ old ++ filter (λ reports. not (is_doubtful_list doubts reports)) further

-- texts of which this is reported may have other faults: some are no documents, cannot be built, or have fragments that no operation reaches
abbrev pub may_hide_faults : Reports → Bool
may_hide_faults (Syntax errors) = true
may_hide_faults (Building list) = true
may_hide_faults (FirstBuilding list) = true
may_hide_faults (DocumentRules reports) = has_unreached reports.rules
may_hide_faults (FirstDocumentRules list) = has_unreached list
may_hide_faults _ = false
