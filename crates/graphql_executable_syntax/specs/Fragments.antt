-- Fragments: `IsFragmentDefinition depth i tree j` where the tokens from i up to j are the fragment, and brackets and braces are nested at most so
-- deep in one another. Specification: 2.8 Fragments, and Appendix B.3 Document Syntax.
use Rattle.std.specs.Prelude.{◌≡◌, ℕ, false}
use Rattle.graphql_trees.specs.declared.executable.FragmentDefinition.{FragmentDefinition}
use Rattle.graphql_syntax.specs.declared.keywords.Keyword.TheVariants as keyword
use Rattle.graphql_syntax.specs.Inputs.{Input, TakesKeyword, between}
use Rattle.graphql_syntax.specs.Directives.{AreDirectives}
use Rattle.graphql_executable_syntax.specs.Selections.{IsFragmentName, IsTypeCondition, IsSelectionSet}

-- FragmentDefinition : fragment FragmentName TypeCondition Directives? SelectionSet
pub record IsFragmentDefinition (depth : ℕ) (i : Input) (x : FragmentDefinition) (j : Input) : Type 0 where
  pub behind_fragment : Input
  pub behind_name : Input
  pub behind_condition : Input
  pub behind_directives : Input
  pub fragment : TakesKeyword keyword.Fragment i behind_fragment
  pub name : IsFragmentName behind_fragment x.name behind_name
  pub type_condition : IsTypeCondition behind_name x.type_condition behind_condition
  pub directives : AreDirectives false depth behind_condition x.directives behind_directives
  pub selection_set : IsSelectionSet depth behind_directives x.selection_set j
  pub span : x.span ≡ between i j
