-- Readers whose refused tokens can be completed: the parts of definitions of the type system.
use Rattle.std.proofs.Common.{◌≡◌, ℕ, zero, suc, Bool, true, false, List, [], ◌∷◌, ◌++◌, refl, codes}
use Rattle.graphql_nodes.specs.declared.directive_locations.DirectiveLocation.TheVariants as location
use Rattle.graphql_tokens.specs.declared.token.TokenKind.{TokenKind}
use Rattle.graphql_tokens.specs.declared.token.TokenKind.TheVariants.{Ampersand, LeftParenthesis, RightParenthesis, Colon, Equals, LeftBrace, VerticalBar, RightBrace, Name, StringValue}
use Rattle.graphql_syntax.specs.declared.keywords.Keyword.TheVariants as keyword
use Rattle.graphql_syntax.specs.declared.refusals.Expected.TheVariants as expected
use Rattle.graphql_syntax.specs.Inputs.{same_kind}
use Rattle.graphql_syntax.specs.Reading.{Reader}
use Rattle.graphql_type_system_syntax.specs.BodyReaders.{in_braces_with, in_braces_at, perhaps_in_braces_at, may_take, separated_with, separated_at}
use Rattle.graphql_type_system_syntax.specs.DirectiveDefinitionReaders.{location_named, directive_location_at, repeatable_at}
use Rattle.graphql_type_system_syntax.specs.FieldReaders.{field_definition_at, interfaces_in, interfaces_at}
use Rattle.graphql_type_system_syntax.specs.InputValueReaders.{described_at, description_at, input_value_definition_at, argument_definitions_in, argument_definitions_at}
use Rattle.graphql_type_system_syntax.specs.SchemaReaders.{root_operation_at}
use Rattle.graphql_type_system_syntax.specs.TypeDefinitionReaders.{members_in, members_at, enum_value_name_at, enum_value_definition_at}
use Rattle.graphql_tokens.proofs.ScanLemmas.{both_pass}
use Rattle.graphql_completions.proofs.Likeness.{View, Word, stops_at, are_words, follow_well}
use Rattle.graphql_completions.proofs.Completions.{Inner, Goes, moving, goes_answer, goes_place, goes_sequence, inner_refuse}
use Rattle.graphql_completions.proofs.Choices.{goes_second, goes_optional, goes_starting}
use Rattle.graphql_completions.proofs.Repetitions.{goes_many_behind, goes_some}
use Rattle.graphql_completions.proofs.TokenReaders.{kind_view, keyword_view, string_view, until_view, kind_shown, keyword_shown, string_shown, until_shown, sign, keyword_word, name_word, goes_sign, goes_keyword, goes_take, goes_text, goes_name, inner_from_nothing}
use Rattle.graphql_completions.proofs.SyntaxReaders.{levels, type_views, type_goes, default_value_goes, directives_views, directives_goes, operation_type_goes}

-- a description
pub description_goes : Goes (string_view ∷ []) [] description_at description_at
unfolding description_at described_at same_kind
description_goes =
    goes_optional string_shown (moving refl (goes_starting refl (λ start.
    goes_sequence (goes_take (StringValue, []) (expected.Token StringValue) string_shown refl) refl (λ string. goes_sequence (goes_place start) refl (λ span. goes_answer _)))))
    (goes_answer _)

abbrev pub input_value_words : List Word
input_value_words = name_word ∷ sign Colon 58 ∷ name_word ∷ []

abbrev pub input_value_views : List View
input_value_views = type_views ++ kind_view Equals ∷ directives_views

pub input_value_goes : (more : Bool) (depth : ℕ) → Goes input_value_views input_value_words (input_value_definition_at depth) (input_value_definition_at (levels more depth))
unfolding input_value_definition_at same_kind
input_value_goes more depth =
    goes_starting refl (λ start. goes_sequence description_goes refl (λ description. goes_sequence goes_name refl (λ name. goes_sequence (goes_sign Colon 58 refl) refl (λ colon.
    goes_sequence (type_goes more depth) refl (λ type_reference. goes_sequence (default_value_goes more depth) refl (λ default_value.
    goes_sequence (directives_goes true more depth) refl (λ directives. goes_sequence (goes_place start) refl (λ span. goes_answer _))))))))

pub argument_definitions_goes : (more : Bool) (depth : ℕ) → Goes (kind_view LeftParenthesis ∷ []) [] (argument_definitions_at depth) (argument_definitions_at (levels more depth))
unfolding argument_definitions_at argument_definitions_in same_kind
argument_definitions_goes more depth =
    goes_optional (kind_shown LeftParenthesis) (moving refl (goes_sequence (goes_sign LeftParenthesis 40 refl) refl (λ opening.
    goes_sequence (goes_some refl (until_shown RightParenthesis) (input_value_goes more depth)) refl (λ found.
    goes_sequence (goes_sign RightParenthesis 41 refl) refl (λ closing. goes_answer _))))) (goes_answer _)

-- what is in braces
abbrev pub in_braces : List Word → List Word
in_braces words = sign LeftBrace 123 ∷ (words ++ []) ++ sign RightBrace 125 ∷ []

in_braces_with_goes : {A : Type 0} (views : List View) (w : Word) (words : List Word) (p q : Reader A) → follow_well [] ((w ∷ words ++ []) ++ sign RightBrace 125 ∷ []) ≡ true →
    follow_well (views ++ until_view RightBrace ∷ views) (sign RightBrace 125 ∷ []) ≡ true → Goes views (w ∷ words) p q → Goes [] (in_braces (w ∷ words)) (in_braces_with p) (in_braces_with q)
unfolding in_braces_with same_kind
in_braces_with_goes views w words p q good ends one =
    goes_sequence (goes_sign LeftBrace 123 refl) good (λ opening. goes_sequence (goes_some refl (until_shown RightBrace) one) ends (λ found.
    goes_sequence (goes_sign RightBrace 125 refl) refl (λ closing. goes_answer _)))

nothing_inner : {A : Type 0} (p : Reader A) (item : ℕ → Reader A) → Inner [] true (in_braces_at item zero) (in_braces_with p)
unfolding in_braces_at in_braces_with
nothing_inner p item = inner_from_nothing [] LeftBrace _

pub in_braces_goes : {A : Type 0} (views : List View) (w : Word) (words : List Word) (item : ℕ → Reader A) (depth : ℕ) →
    follow_well [] ((w ∷ words ++ []) ++ sign RightBrace 125 ∷ []) ≡ true → follow_well (views ++ until_view RightBrace ∷ views) (sign RightBrace 125 ∷ []) ≡ true →
    ((more : Bool) (depth : ℕ) → Goes views (w ∷ words) (item depth) (item (levels more depth))) → Goes [] (in_braces (w ∷ words)) (in_braces_at item depth) (in_braces_at item (suc depth))
unfolding in_braces_at
in_braces_goes views w words item zero good ends one =
    record { inner = nothing_inner (item zero) item; starts = (in_braces_with_goes views w words (item zero) (item zero) good ends (one false zero)).starts }
in_braces_goes views w words item (suc depth) good ends one = in_braces_with_goes views w words (item depth) (item (suc depth)) good ends (one true depth)

pub perhaps_goes : {A : Type 0} (views : List View) (w : Word) (words : List Word) (item : ℕ → Reader A) (depth : ℕ) →
    follow_well [] ((w ∷ words ++ []) ++ sign RightBrace 125 ∷ []) ≡ true → follow_well (views ++ until_view RightBrace ∷ views) (sign RightBrace 125 ∷ []) ≡ true →
    ((more : Bool) (depth : ℕ) → Goes views (w ∷ words) (item depth) (item (levels more depth))) → Goes (kind_view LeftBrace ∷ []) [] (perhaps_in_braces_at item depth) (perhaps_in_braces_at item (suc depth))
unfolding perhaps_in_braces_at
perhaps_goes views w words item depth good ends one = goes_optional (kind_shown LeftBrace) (moving refl (in_braces_goes views w words item depth good ends one)) (goes_answer _)

-- what separators are between
separated_goes : {A : Type 0} (separator : TokenKind) (c : ℕ) (w : Word) (item : Reader A) → same_kind separator separator ≡ true → follow_well (kind_view separator ∷ []) (w ∷ []) ≡ true →
    Goes [] (w ∷ []) item item → Goes (kind_view separator ∷ []) (w ∷ []) (separated_at separator item) (separated_at separator item)
unfolding separated_at separated_with may_take
separated_goes separator c w item same good one =
    goes_sequence (goes_optional (kind_shown separator) (moving refl (goes_sign separator c same)) (goes_answer tt)) good (λ sign. goes_sequence one refl (λ first.
    goes_many_behind (first ∷ []) (kind_shown separator) (moving refl (goes_sequence (goes_sign separator c same) well (λ sign. one))))) where
      well : follow_well [] (w ∷ []) ≡ true
      well = (both_pass (stops_at (kind_view separator ∷ []) (w ∷ [])) (are_words (w ∷ [])) good).1

pub interfaces_in_goes : Goes (kind_view Ampersand ∷ []) (keyword_word keyword.Implements ∷ name_word ∷ []) interfaces_in interfaces_in
unfolding interfaces_in same_kind
interfaces_in_goes = goes_sequence (goes_keyword keyword.Implements refl) refl (λ word. separated_goes Ampersand 38 name_word _ refl refl goes_name)

abbrev pub interfaces_views : List View
interfaces_views = keyword_view keyword.Implements ∷ kind_view Ampersand ∷ []

pub interfaces_goes : Goes interfaces_views [] interfaces_at interfaces_at
unfolding interfaces_at
interfaces_goes = goes_optional (keyword_shown keyword.Implements) (moving refl interfaces_in_goes) (goes_answer _)

abbrev pub members_views : List View
members_views = kind_view Equals ∷ kind_view VerticalBar ∷ []

pub members_in_goes : Goes (kind_view VerticalBar ∷ []) (sign Equals 61 ∷ name_word ∷ []) members_in members_in
unfolding members_in same_kind
members_in_goes = goes_sequence (goes_sign Equals 61 refl) refl (λ equals. separated_goes VerticalBar 124 name_word _ refl refl goes_name)

pub members_goes : Goes members_views [] members_at members_at
unfolding members_at
members_goes = goes_optional (kind_shown Equals) (moving refl members_in_goes) (goes_answer _)

-- fields, values and root operations
pub field_definition_goes : (more : Bool) (depth : ℕ) → Goes (type_views ++ directives_views) input_value_words (field_definition_at depth) (field_definition_at (levels more depth))
unfolding field_definition_at same_kind
field_definition_goes more depth =
    goes_starting refl (λ start. goes_sequence description_goes refl (λ description. goes_sequence goes_name refl (λ name.
    goes_sequence (argument_definitions_goes more depth) refl (λ arguments. goes_sequence (goes_sign Colon 58 refl) refl (λ colon.
    goes_sequence (type_goes more depth) refl (λ type_reference. goes_sequence (directives_goes true more depth) refl (λ directives.
    goes_sequence (goes_place start) refl (λ span. goes_answer _))))))))

enum_value_name_goes : Goes [] (name_word ∷ []) enum_value_name_at enum_value_name_at
unfolding enum_value_name_at same_kind
enum_value_name_goes =
    goes_second (keyword_shown keyword.True) refl refl (inner_refuse [] true expected.EnumValue)
    (goes_second (keyword_shown keyword.False) refl refl (inner_refuse [] true expected.EnumValue)
    (goes_second (keyword_shown keyword.Null) refl refl (inner_refuse [] true expected.EnumValue) goes_name))

pub enum_value_goes : (more : Bool) (depth : ℕ) → Goes directives_views (name_word ∷ []) (enum_value_definition_at depth) (enum_value_definition_at (levels more depth))
unfolding enum_value_definition_at same_kind
enum_value_goes more depth =
    goes_starting refl (λ start. goes_sequence description_goes refl (λ description. goes_sequence enum_value_name_goes refl (λ name.
    goes_sequence (directives_goes true more depth) refl (λ directives. goes_sequence (goes_place start) refl (λ span. goes_answer _)))))

abbrev pub root_operation_words : List Word
root_operation_words = keyword_word keyword.Query ∷ sign Colon 58 ∷ name_word ∷ []

pub root_operation_goes : (more : Bool) (depth : ℕ) → Goes [] root_operation_words (root_operation_at depth) (root_operation_at (levels more depth))
unfolding root_operation_at same_kind
root_operation_goes more depth =
    goes_starting refl (λ start. goes_sequence operation_type_goes refl (λ operation_type. goes_sequence (goes_sign Colon 58 refl) refl (λ colon.
    goes_sequence goes_name refl (λ name. goes_sequence (goes_place start) refl (λ span. goes_answer _)))))

-- the parts of definitions of directives
abbrev pub location_word : Word
location_word = (Name, codes "FIELD")

directive_location_goes : Goes [] (location_word ∷ []) directive_location_at directive_location_at
unfolding directive_location_at location_named same_kind
directive_location_goes =
    goes_starting refl (λ start. goes_sequence (goes_text location_word location_named expected.DirectiveLocation location.Field (kind_shown Name) refl refl) refl (λ location.
    goes_sequence (goes_place start) refl (λ span. goes_answer _)))

pub locations_goes : Goes (kind_view VerticalBar ∷ []) (location_word ∷ []) (separated_at VerticalBar directive_location_at) (separated_at VerticalBar directive_location_at)
unfolding same_kind
locations_goes = separated_goes VerticalBar 124 location_word _ refl refl directive_location_goes

pub repeatable_goes : Goes (keyword_view keyword.Repeatable ∷ []) [] repeatable_at repeatable_at
unfolding repeatable_at same_kind
repeatable_goes = goes_optional (keyword_shown keyword.Repeatable) (moving refl (goes_sequence (goes_keyword keyword.Repeatable refl) refl (λ word. goes_answer _))) (goes_answer _)
