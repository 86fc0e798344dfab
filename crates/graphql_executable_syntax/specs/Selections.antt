-- Selection sets: `IsSelectionSet depth i tree j` where the tokens from i up to j are the selection set, and brackets and braces are nested at most
-- so deep in one another, those of values among them. Specification: 2.4 Selection Sets, 2.5 Fields, 2.8 Fragments, and Appendix B.3 Document Syntax.
use Rattle.std.specs.Prelude.{◌≡◌, ℕ, suc, false, List, [], ◌∷◌, Option, None, Some, IsFalse}
use Rattle.graphql_nodes.specs.Names.{NameText}
use Rattle.graphql_tokens.specs.declared.token.TokenKind.TheVariants.{Colon, LeftBrace, RightBrace, Spread}
use Rattle.graphql_trees.specs.declared.directives.Argument.{Argument}
use Rattle.graphql_trees.specs.declared.directives.Directive.{Directive}
use Rattle.graphql_trees.specs.declared.executable.Field.{roll-Field}
use Rattle.graphql_trees.specs.declared.executable.FragmentSpread.{FragmentSpread}
use Rattle.graphql_trees.specs.declared.executable.Selection.{Selection}
use Rattle.graphql_trees.specs.declared.executable.Selection.TheVariants as tree
use Rattle.graphql_trees.specs.declared.executable.SelectionSet.{SelectionSet}
use Rattle.graphql_syntax.specs.declared.keywords.Keyword.TheVariants as keyword
use Rattle.graphql_syntax.specs.Inputs.{Input, Takes, TakesKeyword, IsName, sees_keyword, between}
use Rattle.graphql_syntax.specs.Directives.{AreArguments, AreDirectives}
use Rattle.graphql_syntax.specs.Many.{Perhaps, PerhapsList}

-- Alias : Name :
pub record IsAlias (i : Input) (alias : NameText) (j : Input) : Type 0 where
  pub behind_name : Input
  pub name : IsName i alias behind_name
  pub colon : Takes Colon behind_name j

-- FragmentName : Name, but not `on`
pub record IsFragmentName (i : Input) (name : NameText) (j : Input) : Type 0 where
  pub is_name : IsName i name j
  pub not_on : IsFalse (sees_keyword keyword.On i)

-- TypeCondition : on NamedType, where NamedType : Name
pub record IsTypeCondition (i : Input) (name : NameText) (j : Input) : Type 0 where
  pub behind_on : Input
  pub on : TakesKeyword keyword.On i behind_on
  pub named_type : IsName behind_on name j

-- FragmentSpread : ... FragmentName Directives?
pub record IsFragmentSpread (depth : ℕ) (i : Input) (x : FragmentSpread) (j : Input) : Type 0 where
  pub behind_dots : Input
  pub behind_name : Input
  pub dots : Takes Spread i behind_dots
  pub name : IsFragmentName behind_dots x.name behind_name
  pub directives : AreDirectives false depth behind_name x.directives j
  pub span : x.span ≡ between i j

mutual
  -- SelectionSet : { Selection+ }
  pub data IsSelectionSet : ℕ → Input → SelectionSet → Input → Type 0 where
    in_braces : {depth : ℕ} (i m n k j : Input) (x : Selection) (xs : List Selection) →
        Takes LeftBrace i m → IsSelection depth m x n → AreSelections depth n xs k → Takes RightBrace k j →
        IsSelectionSet (suc depth) i (record { selections = x ∷ xs; span = between i j }) j

  -- Selection*
  pub data AreSelections : ℕ → Input → List Selection → Input → Type 0 where
    no_selections : {depth : ℕ} (i : Input) → AreSelections depth i [] i
    more_selections : {depth : ℕ} (i m j : Input) (x : Selection) (xs : List Selection) →
        IsSelection depth i x m → AreSelections depth m xs j → AreSelections depth i (x ∷ xs) j

  -- SelectionSet?
  pub data PerhapsSelectionSet : ℕ → Input → Option SelectionSet → Input → Type 0 where
    no_selection_set : {depth : ℕ} (i : Input) → PerhapsSelectionSet depth i None i
    some_selection_set : {depth : ℕ} (i j : Input) (x : SelectionSet) →
        IsSelectionSet depth i x j → PerhapsSelectionSet depth i (Some x) j

  -- Selection : Field | FragmentSpread | InlineFragment
  pub data IsSelection : ℕ → Input → Selection → Input → Type 0 where
    -- Field : Alias? Name Arguments? Directives? SelectionSet?
    field : {depth : ℕ} (i m n k l j : Input) (alias : Option NameText) (name : NameText)
        (arguments : List Argument) (directives : List Directive) (selection_set : Option SelectionSet) →
        Perhaps IsAlias i alias m → IsName m name n → PerhapsList (AreArguments false depth) n arguments k →
        AreDirectives false depth k directives l → PerhapsSelectionSet depth l selection_set j →
        IsSelection depth i (tree.Field (roll-Field (record {
          alias = alias;
          name = name;
          arguments = arguments;
          directives = directives;
          selection_set = selection_set;
          span = between i j;
        }))) j
    -- FragmentSpread : ... FragmentName Directives?
    fragment_spread : {depth : ℕ} (i j : Input) (x : FragmentSpread) →
        IsFragmentSpread depth i x j → IsSelection depth i (tree.FragmentSpread x) j
    -- InlineFragment : ... TypeCondition? Directives? SelectionSet
    inline_fragment : {depth : ℕ} (i m n k j : Input) (type_condition : Option NameText)
        (directives : List Directive) (selection_set : SelectionSet) →
        Takes Spread i m → Perhaps IsTypeCondition m type_condition n → AreDirectives false depth n directives k →
        IsSelectionSet depth k selection_set j →
        IsSelection depth i (tree.InlineFragment (record {
          type_condition = type_condition;
          directives = directives;
          selection_set = selection_set;
          span = between i j;
        })) j
