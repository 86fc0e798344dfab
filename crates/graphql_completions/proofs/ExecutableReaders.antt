-- Readers whose refused tokens can be completed: selections, operations and fragments.
use Rattle.std.proofs.Common.{ℕ, zero, suc, Bool, true, false, List, [], ◌∷◌, ◌++◌, Option, refl, codes}
use Rattle.graphql_nodes.specs.Names.{NameText}
use Rattle.graphql_tokens.specs.declared.token.TokenKind.TheVariants.{Dollar, LeftParenthesis, RightParenthesis, Spread, Colon, Equals, At, LeftBrace, RightBrace, Name}
use Rattle.graphql_trees.specs.declared.executable.Selection.{Selection}
use Rattle.graphql_trees.specs.declared.executable.SelectionSet.{SelectionSet}
use Rattle.graphql_syntax.specs.declared.keywords.Keyword.TheVariants as keyword
use Rattle.graphql_syntax.specs.declared.refusals.Expected.TheVariants as expected
use Rattle.graphql_syntax.specs.Inputs.{same_kind, is_kind}
use Rattle.graphql_syntax.specs.Reading.{Reader, refuse, too_deep, choose}
use Rattle.graphql_executable_syntax.specs.FragmentReaders.{fragment_definition_at}
use Rattle.graphql_executable_syntax.specs.OperationReaders.{variable_definition_at, variable_definitions_in, variable_definitions_at, operation_name_at, shorthand_at, full_operation_at, operation_definition_at}
use Rattle.graphql_executable_syntax.specs.SelectionReaders.{fragment_name_at, type_condition_at, fragment_spread_behind, inline_fragment_behind, spread_with, perhaps_set_with, field_behind, field_with, selection_with, selection_set_with, selection_set_at}
use Rattle.graphql_completions.proofs.Likeness.{View, Word}
use Rattle.graphql_completions.proofs.Completions.{Inner, Goes, moving, goes_answer, goes_place, goes_sequence, inner_sequence, inner_refuse, inner_too_deep}
use Rattle.graphql_completions.proofs.Choices.{goes_first, goes_second, goes_optional, goes_starting}
use Rattle.graphql_completions.proofs.Repetitions.{goes_some}
use Rattle.graphql_completions.proofs.TokenReaders.{kind_view, kind_shown, keyword_shown, until_shown, sign, keyword_word, name_word, goes_sign, goes_keyword, goes_take, goes_name, inner_from_nothing_starting}
use Rattle.graphql_completions.proofs.SyntaxReaders.{levels, type_views, type_goes, variable_goes, default_value_goes, arguments_goes, directives_views, directives_goes, operation_type_goes}

-- selections
abbrev spread_word : Word
spread_word = (Spread, codes "...")

abbrev pub set_words : List Word
set_words = sign LeftBrace 123 ∷ name_word ∷ sign RightBrace 125 ∷ []

fragment_name_goes : Goes [] (name_word ∷ []) fragment_name_at fragment_name_at
unfolding fragment_name_at same_kind
fragment_name_goes = goes_second (keyword_shown keyword.On) refl refl (inner_refuse [] true expected.FragmentName) goes_name

type_condition_goes : Goes [] (keyword_word keyword.On ∷ name_word ∷ []) type_condition_at type_condition_at
unfolding type_condition_at same_kind
type_condition_goes = goes_sequence (goes_keyword keyword.On refl) refl (λ on. goes_sequence goes_name refl (λ name. goes_answer _))

fragment_spread_goes : (more : Bool) (depth start : ℕ) → Goes directives_views (name_word ∷ []) (fragment_spread_behind depth start) (fragment_spread_behind (levels more depth) start)
unfolding fragment_spread_behind same_kind
fragment_spread_goes more depth start =
    goes_sequence fragment_name_goes refl (λ name. goes_sequence (directives_goes false more depth) refl (λ directives.
    goes_sequence (goes_place start) refl (λ span. goes_answer _)))

inline_fragment_goes : (more : Bool) (depth : ℕ) (set set2 : Reader SelectionSet) (start : ℕ) (type_condition : Option NameText) → Goes [] set_words set set2 →
    Goes [] set_words (inline_fragment_behind depth set start type_condition) (inline_fragment_behind (levels more depth) set2 start type_condition)
unfolding inline_fragment_behind same_kind
inline_fragment_goes more depth set set2 start type_condition one =
    goes_sequence (directives_goes false more depth) refl (λ directives. goes_sequence one refl (λ selection_set.
    goes_sequence (goes_place start) refl (λ span. goes_answer _)))

spread_inner : (more : Bool) (depth : ℕ) (set set2 : Reader SelectionSet) → Goes [] set_words set set2 →
    Inner directives_views true (spread_with depth set) (spread_with (levels more depth) set2)
unfolding spread_with same_kind
spread_inner more depth set set2 one =
    moving refl (goes_starting refl (λ start. goes_sequence (goes_take spread_word (expected.Token Spread) (kind_shown Spread) refl) refl (λ dots.
    goes_second (keyword_shown keyword.On) refl refl
    (moving refl (goes_sequence type_condition_goes refl (λ type_condition. inline_fragment_goes more depth set set2 start _ one)))
    (goes_first (kind_shown Name) refl refl (fragment_spread_goes more depth start) (moving refl (inline_fragment_goes more depth set set2 start _ one))))))

perhaps_set_goes : (set set2 : Reader SelectionSet) → Inner [] true set set2 → Goes (kind_view LeftBrace ∷ []) [] (perhaps_set_with set) (perhaps_set_with set2)
unfolding perhaps_set_with
perhaps_set_goes set set2 one = goes_optional (kind_shown LeftBrace) (inner_sequence [] set_words [] [] _ _ _ _ refl one (λ x. goes_answer _)) (goes_answer _)

abbrev behind_field : List View
behind_field = kind_view LeftParenthesis ∷ kind_view At ∷ kind_view LeftParenthesis ∷ kind_view LeftBrace ∷ []

field_behind_goes : (more : Bool) (depth : ℕ) (set set2 : Reader SelectionSet) (start : ℕ) (alias : Option NameText) (name : NameText) → Inner [] true set set2 →
    Goes behind_field [] (field_behind depth set start alias name) (field_behind (levels more depth) set2 start alias name)
unfolding field_behind
field_behind_goes more depth set set2 start alias name one =
    goes_sequence (arguments_goes false more depth) refl (λ arguments. goes_sequence (directives_goes false more depth) refl (λ directives.
    goes_sequence (perhaps_set_goes set set2 one) refl (λ selection_set. goes_sequence (goes_place start) refl (λ span. goes_answer _))))

abbrev field_views : List View
field_views = kind_view Colon ∷ behind_field ++ behind_field

field_goes : (more : Bool) (depth : ℕ) (set set2 : Reader SelectionSet) → Inner [] true set set2 →
    Goes field_views (name_word ∷ []) (field_with depth set) (field_with (levels more depth) set2)
unfolding field_with same_kind
field_goes more depth set set2 one =
    goes_starting refl (λ start. goes_sequence goes_name refl (λ first.
    goes_optional (kind_shown Colon)
    (moving refl (goes_sequence (goes_sign Colon 58 refl) refl (λ colon. goes_sequence goes_name refl (λ name. field_behind_goes more depth set set2 start _ name one))))
    (field_behind_goes more depth set set2 start _ first one)))

abbrev selection_views : List View
selection_views = directives_views ++ field_views

selection_goes : (more : Bool) (depth : ℕ) (set set2 : Reader SelectionSet) → Goes [] set_words set set2 →
    Goes selection_views (name_word ∷ []) (selection_with depth set) (selection_with (levels more depth) set2)
unfolding selection_with same_kind
selection_goes more depth set set2 one =
    goes_second (kind_shown Spread) refl refl (spread_inner more depth set set2 one)
    (goes_first (kind_shown Name) refl refl (field_goes more depth set set2 (moving refl one)) (inner_refuse [] true expected.Selection))

set_goes : (selection selection2 : Reader Selection) → Goes selection_views (name_word ∷ []) selection selection2 → Goes [] set_words (selection_set_with selection) (selection_set_with selection2)
unfolding selection_set_with same_kind
set_goes selection selection2 one =
    goes_starting refl (λ start. goes_sequence (goes_sign LeftBrace 123 refl) refl (λ opening.
    goes_sequence (goes_some refl (until_shown RightBrace) one) refl (λ selections.
    goes_sequence (goes_sign RightBrace 125 refl) refl (λ closing. goes_sequence (goes_place start) refl (λ span. goes_answer _)))))

-- a field alone is read whatever selection sets are
set_starts : (depth : ℕ) (set : Reader SelectionSet) → Goes [] set_words (selection_set_with too_deep) (selection_set_with (selection_with depth set))
unfolding selection_with same_kind
set_starts depth set = set_goes too_deep (selection_with depth set) (record { inner = inner_too_deep selection_views true _; starts = field_alone.starts }) where
  field_alone : Goes selection_views (name_word ∷ []) (choose (is_kind Spread) too_deep (choose (is_kind Name) (field_with depth too_deep) (refuse expected.Selection))) (selection_with depth set)
  field_alone =
      goes_second (kind_shown Spread) refl refl (inner_too_deep directives_views true _)
      (goes_first (kind_shown Name) refl refl (field_goes false depth too_deep set (inner_too_deep [] true set)) (inner_refuse [] true expected.Selection))

nothing_inner : (selection : Reader Selection) → Inner [] true (choose (is_kind LeftBrace) too_deep (refuse (expected.Token LeftBrace))) (selection_set_with selection)
unfolding selection_set_with
nothing_inner selection = inner_from_nothing_starting [] LeftBrace _

pub selection_set_goes : (depth : ℕ) → Goes [] set_words (selection_set_at depth) (selection_set_at (suc depth))
unfolding selection_set_at
selection_set_goes zero = record { inner = nothing_inner _; starts = (set_starts zero (selection_set_at zero)).starts }
selection_set_goes (suc depth) = set_goes _ _ (selection_goes true depth (selection_set_at depth) (selection_set_at (suc depth)) (selection_set_goes depth))

-- operations
abbrev variable_definition_views : List View
variable_definition_views = type_views ++ kind_view Equals ∷ directives_views

variable_definition_goes : (depth : ℕ) →
    Goes variable_definition_views (sign Dollar 36 ∷ name_word ∷ sign Colon 58 ∷ name_word ∷ []) (variable_definition_at depth) (variable_definition_at (suc depth))
unfolding variable_definition_at same_kind
variable_definition_goes depth =
    goes_starting refl (λ start. goes_sequence variable_goes refl (λ variable. goes_sequence (goes_sign Colon 58 refl) refl (λ colon.
    goes_sequence (type_goes true depth) refl (λ type_reference. goes_sequence (default_value_goes true depth) refl (λ default_value.
    goes_sequence (directives_goes true true depth) refl (λ directives. goes_sequence (goes_place start) refl (λ span. goes_answer _)))))))

variable_definitions_goes : (depth : ℕ) → Goes (kind_view LeftParenthesis ∷ []) [] (variable_definitions_at depth) (variable_definitions_at (suc depth))
unfolding variable_definitions_at variable_definitions_in same_kind
variable_definitions_goes depth =
    goes_optional (kind_shown LeftParenthesis) (moving refl (goes_sequence (goes_sign LeftParenthesis 40 refl) refl (λ opening.
    goes_sequence (goes_some refl (until_shown RightParenthesis) (variable_definition_goes depth)) refl (λ found.
    goes_sequence (goes_sign RightParenthesis 41 refl) refl (λ closing. goes_answer _))))) (goes_answer _)

operation_name_goes : Goes (kind_view Name ∷ []) [] operation_name_at operation_name_at
unfolding operation_name_at same_kind
operation_name_goes = goes_optional (kind_shown Name) (moving refl (goes_sequence goes_name refl (λ name. goes_answer _))) (goes_answer _)

shorthand_goes : (depth : ℕ) → Goes [] set_words (shorthand_at depth) (shorthand_at (suc depth))
unfolding shorthand_at same_kind
shorthand_goes depth = goes_starting refl (λ start. goes_sequence (selection_set_goes depth) refl (λ selection_set. goes_sequence (goes_place start) refl (λ span. goes_answer _)))

full_operation_goes : (depth : ℕ) → Goes [] (keyword_word keyword.Query ∷ set_words) (full_operation_at depth) (full_operation_at (suc depth))
unfolding full_operation_at same_kind
full_operation_goes depth =
    goes_starting refl (λ start. goes_sequence operation_type_goes refl (λ operation_type. goes_sequence operation_name_goes refl (λ name.
    goes_sequence (variable_definitions_goes depth) refl (λ variables. goes_sequence (directives_goes false true depth) refl (λ directives.
    goes_sequence (selection_set_goes depth) refl (λ selection_set. goes_sequence (goes_place start) refl (λ span. goes_answer _)))))))

pub operation_goes : (depth : ℕ) → Goes [] set_words (operation_definition_at depth) (operation_definition_at (suc depth))
unfolding operation_definition_at same_kind
operation_goes depth = goes_first (kind_shown LeftBrace) refl refl (shorthand_goes depth) (moving refl (full_operation_goes depth))

-- fragments
pub fragment_goes : (depth : ℕ) →
    Goes [] (keyword_word keyword.Fragment ∷ name_word ∷ keyword_word keyword.On ∷ name_word ∷ set_words) (fragment_definition_at depth) (fragment_definition_at (suc depth))
unfolding fragment_definition_at same_kind
fragment_goes depth =
    goes_starting refl (λ start. goes_sequence (goes_keyword keyword.Fragment refl) refl (λ word. goes_sequence fragment_name_goes refl (λ name.
    goes_sequence type_condition_goes refl (λ type_condition. goes_sequence (directives_goes false true depth) refl (λ directives.
    goes_sequence (selection_set_goes depth) refl (λ selection_set. goes_sequence (goes_place start) refl (λ span. goes_answer _)))))))
