-- What is reported of a document whose operations reach too much, in words.
use Rattle.std.specs.Prelude.{ℕ, List, ◌++◌, codes, decimal}
use Rattle.graphql_reach.specs.declared.reports.ReachReport.{ReachReport}

-- the message of a report
abbrev pub reach_message : ReachReport → List ℕ
reach_message report =
    codes "reaches too much: " ++ (decimal report.bytes ++ (codes " bytes with the operations before it, at most " ++ decimal report.most))
