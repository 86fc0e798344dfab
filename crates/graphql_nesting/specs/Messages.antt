-- What is reported of a document that nests too deep, in words.
use Rattle.std.specs.Prelude.{ℕ, List, ◌++◌, codes, decimal}
use Rattle.graphql_nesting.specs.declared.reports.NestedPart.{NestedPart}
use Rattle.graphql_nesting.specs.declared.reports.NestedPart.TheVariants.{Definition, EndlessFragments}
use Rattle.graphql_nesting.specs.declared.reports.NestingReport.{NestingReport}

-- what nests too deep
abbrev pub nested_part_words : NestedPart → ℕ → ℕ → List ℕ
nested_part_words Definition levels most =
    codes "nests too deep: " ++ (decimal levels ++ (codes " levels, at most " ++ decimal most))
nested_part_words EndlessFragments levels most =
    codes "fragments that lead back to themselves nest too deep: " ++ (decimal levels ++ (codes " levels together, at most " ++ decimal most))

-- the message of a report
abbrev pub nesting_message : NestingReport → List ℕ
nesting_message report = nested_part_words report.part report.levels report.most
