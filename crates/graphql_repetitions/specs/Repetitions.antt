-- Names that are there again, and what a report says of one. Specification: 3.3 Schema, 3.6 Objects to 3.10 Input Objects,
-- 5.2.1.1 Operation Name Uniqueness, 5.5.1.1 Fragment Name Uniqueness.
use Rattle.std.specs.Prelude.{◌≡◌, List, ◌∷◌, ◌++◌, Option, Some, find}
use Rattle.graphql_nodes.specs.Names.{NameText, same_name}
use Rattle.graphql_nodes.specs.declared.spans.SourceSpan.{SourceSpan}
use Rattle.graphql_building_reports.specs.Checks.{Says}
use Rattle.graphql_building_reports.specs.declared.lists.BuildingReport.{BuildingReport}
use Rattle.graphql_building_reports.specs.declared.rules.BuildingRule.TheVariants as rule
use Rattle.graphql_building_reports.specs.declared.rules.BuildingRule.{BuildingRule}
use Rattle.graphql_repetitions.specs.declared.repetitions.Repeated.TheVariants as repeated
use Rattle.graphql_repetitions.specs.declared.repetitions.Repeated.{Repeated}

-- `again` has the name of some that are before it, of which `first` is the first
pub record Repeats (names : List NameText) (first again : NameText) : Type 0 where
  pub before : List NameText
  pub after : List NameText
  pub split : names ≡ before ++ again ∷ after
  pub first_is : find (λ n. same_name n again) before ≡ Some first

-- the report says that one of the names is there again
pub record RepetitionReport (names : List NameText) (broken : NameText → Option SourceSpan → BuildingRule) (report : BuildingReport) : Type 0 where
  pub first : NameText
  pub again : NameText
  pub repeats : Repeats names first again
  pub says : Says (broken again first.location) again.location report

-- the rule that is broken where such a name is there again
abbrev pub repetition_rule : Repeated → NameText → Option SourceSpan → BuildingRule
repetition_rule repeated.Operation name original = rule.OperationNameCollision name original
repetition_rule repeated.Fragment name original = rule.FragmentNameCollision name original
repetition_rule repeated.Type name original = rule.TypeDefinitionCollision name original
repetition_rule repeated.Directive name original = rule.DirectiveDefinitionCollision name original
repetition_rule (repeated.Member kind type_name) name original = rule.MemberNameCollision kind type_name.now name original
repetition_rule (repeated.Interface kind type_name) name original = rule.DuplicateImplementsInterface kind type_name.now name original

-- a name, with where it is
abbrev pub met_name : NameText → NameText × Option SourceSpan
met_name name = (name, name.location)
