-- Readers whose refused tokens can be completed: definitions and extensions of the type system.
use Rattle.std.proofs.Common.{ℕ, suc, true, List, [], ◌∷◌, ◌++◌, Option, refl}
use Rattle.graphql_tokens.specs.declared.token.TokenKind.TheVariants.{At, LeftBrace, VerticalBar}
use Rattle.graphql_trees.specs.declared.type_system.Description.{Description}
use Rattle.graphql_syntax.specs.declared.keywords.Keyword.TheVariants as keyword
use Rattle.graphql_syntax.specs.declared.refusals.Expected.TheVariants as expected
use Rattle.graphql_syntax.specs.Inputs.{same_kind}
use Rattle.graphql_type_system_syntax.specs.DefinitionReaders.{definition_behind, type_system_definition_at}
use Rattle.graphql_type_system_syntax.specs.DirectiveDefinitionReaders.{directive_behind}
use Rattle.graphql_type_system_syntax.specs.SchemaReaders.{schema_behind}
use Rattle.graphql_type_system_syntax.specs.TypeDefinitionReaders.{scalar_behind, object_behind, interface_behind, union_behind, enum_behind, input_object_behind, type_definition_behind}
use Rattle.graphql_completions.proofs.Likeness.{View}
use Rattle.graphql_completions.proofs.Completions.{Goes, moving, goes_answer, goes_place, goes_sequence, inner_refuse}
use Rattle.graphql_completions.proofs.Choices.{goes_first, goes_second, inner_choose, goes_starting}
use Rattle.graphql_completions.proofs.TokenReaders.{kind_view, keyword_shown, sign, keyword_word, name_word, goes_sign, goes_keyword, goes_name}
use Rattle.graphql_completions.proofs.SyntaxReaders.{directives_views, directives_goes}
use Rattle.graphql_completions.proofs.TypeSystemReaders.{description_goes, input_value_goes, argument_definitions_goes, in_braces, in_braces_goes, perhaps_goes, interfaces_views, interfaces_goes, members_views, members_goes, field_definition_goes, enum_value_goes, root_operation_words, root_operation_goes, location_word, locations_goes, repeatable_goes}

-- definitions behind their descriptions
scalar_goes : (depth start : ℕ) (description : Option Description) →
    Goes directives_views (keyword_word keyword.Scalar ∷ name_word ∷ []) (scalar_behind depth start description) (scalar_behind (suc depth) start description)
unfolding scalar_behind same_kind
scalar_goes depth start description =
    goes_sequence (goes_keyword keyword.Scalar refl) refl (λ word. goes_sequence goes_name refl (λ name. goes_sequence (directives_goes true true depth) refl (λ directives.
    goes_sequence (goes_place start) refl (λ span. goes_answer _))))

abbrev pub fields_views : List View
fields_views = interfaces_views ++ directives_views ++ kind_view LeftBrace ∷ []

object_goes : (depth start : ℕ) (description : Option Description) →
    Goes fields_views (keyword_word keyword.«Type» ∷ name_word ∷ []) (object_behind depth start description) (object_behind (suc depth) start description)
unfolding object_behind same_kind
object_goes depth start description =
    goes_sequence (goes_keyword keyword.«Type» refl) refl (λ word. goes_sequence goes_name refl (λ name. goes_sequence interfaces_goes refl (λ interfaces.
    goes_sequence (directives_goes true true depth) refl (λ directives.
    goes_sequence (perhaps_goes _ _ _ _ depth refl refl field_definition_goes) refl (λ fields. goes_sequence (goes_place start) refl (λ span. goes_answer _))))))

interface_goes : (depth start : ℕ) (description : Option Description) →
    Goes fields_views (keyword_word keyword.Interface ∷ name_word ∷ []) (interface_behind depth start description) (interface_behind (suc depth) start description)
unfolding interface_behind same_kind
interface_goes depth start description =
    goes_sequence (goes_keyword keyword.Interface refl) refl (λ word. goes_sequence goes_name refl (λ name. goes_sequence interfaces_goes refl (λ interfaces.
    goes_sequence (directives_goes true true depth) refl (λ directives.
    goes_sequence (perhaps_goes _ _ _ _ depth refl refl field_definition_goes) refl (λ fields. goes_sequence (goes_place start) refl (λ span. goes_answer _))))))

union_goes : (depth start : ℕ) (description : Option Description) →
    Goes (directives_views ++ members_views) (keyword_word keyword.Union ∷ name_word ∷ []) (union_behind depth start description) (union_behind (suc depth) start description)
unfolding union_behind same_kind
union_goes depth start description =
    goes_sequence (goes_keyword keyword.Union refl) refl (λ word. goes_sequence goes_name refl (λ name. goes_sequence (directives_goes true true depth) refl (λ directives.
    goes_sequence members_goes refl (λ members. goes_sequence (goes_place start) refl (λ span. goes_answer _)))))

abbrev pub body_views : List View
body_views = directives_views ++ kind_view LeftBrace ∷ []

enum_goes : (depth start : ℕ) (description : Option Description) →
    Goes body_views (keyword_word keyword.Enum ∷ name_word ∷ []) (enum_behind depth start description) (enum_behind (suc depth) start description)
unfolding enum_behind same_kind
enum_goes depth start description =
    goes_sequence (goes_keyword keyword.Enum refl) refl (λ word. goes_sequence goes_name refl (λ name. goes_sequence (directives_goes true true depth) refl (λ directives.
    goes_sequence (perhaps_goes _ _ _ _ depth refl refl enum_value_goes) refl (λ values. goes_sequence (goes_place start) refl (λ span. goes_answer _)))))

input_object_goes : (depth start : ℕ) (description : Option Description) →
    Goes body_views (keyword_word keyword.Input ∷ name_word ∷ []) (input_object_behind depth start description) (input_object_behind (suc depth) start description)
unfolding input_object_behind same_kind
input_object_goes depth start description =
    goes_sequence (goes_keyword keyword.Input refl) refl (λ word. goes_sequence goes_name refl (λ name. goes_sequence (directives_goes true true depth) refl (λ directives.
    goes_sequence (perhaps_goes _ _ _ _ depth refl refl input_value_goes) refl (λ fields. goes_sequence (goes_place start) refl (λ span. goes_answer _)))))

abbrev pub type_definition_views : List View
type_definition_views = directives_views ++ fields_views ++ fields_views ++ (directives_views ++ members_views) ++ body_views ++ body_views ++ []

type_definition_goes : (depth start : ℕ) (description : Option Description) →
    Goes type_definition_views (keyword_word keyword.Scalar ∷ name_word ∷ []) (type_definition_behind depth start description) (type_definition_behind (suc depth) start description)
unfolding type_definition_behind same_kind
type_definition_goes depth start description =
    goes_first (keyword_shown keyword.Scalar) refl refl (goes_sequence (scalar_goes depth start description) refl (λ x. goes_answer _))
    (inner_choose (keyword_shown keyword.«Type») (moving refl (goes_sequence (object_goes depth start description) refl (λ x. goes_answer _)))
    (inner_choose (keyword_shown keyword.Interface) (moving refl (goes_sequence (interface_goes depth start description) refl (λ x. goes_answer _)))
    (inner_choose (keyword_shown keyword.Union) (moving refl (goes_sequence (union_goes depth start description) refl (λ x. goes_answer _)))
    (inner_choose (keyword_shown keyword.Enum) (moving refl (goes_sequence (enum_goes depth start description) refl (λ x. goes_answer _)))
    (inner_choose (keyword_shown keyword.Input) (moving refl (goes_sequence (input_object_goes depth start description) refl (λ x. goes_answer _)))
    (inner_refuse [] true expected.TypeSystemDefinition))))))

schema_goes : (depth start : ℕ) (description : Option Description) →
    Goes [] (keyword_word keyword.Schema ∷ in_braces root_operation_words) (schema_behind depth start description) (schema_behind (suc depth) start description)
unfolding schema_behind same_kind
schema_goes depth start description =
    goes_sequence (goes_keyword keyword.Schema refl) refl (λ word. goes_sequence (directives_goes true true depth) refl (λ directives.
    goes_sequence (in_braces_goes _ _ _ _ depth refl refl root_operation_goes) refl (λ root_operations. goes_sequence (goes_place start) refl (λ span. goes_answer _))))

directive_goes : (depth start : ℕ) (description : Option Description) →
    Goes (kind_view VerticalBar ∷ []) (keyword_word keyword.Directive ∷ sign At 64 ∷ name_word ∷ keyword_word keyword.On ∷ location_word ∷ [])
    (directive_behind depth start description) (directive_behind (suc depth) start description)
unfolding directive_behind same_kind
directive_goes depth start description =
    goes_sequence (goes_keyword keyword.Directive refl) refl (λ word. goes_sequence (goes_sign At 64 refl) refl (λ at. goes_sequence goes_name refl (λ name.
    goes_sequence (argument_definitions_goes true depth) refl (λ arguments. goes_sequence repeatable_goes refl (λ repeatable.
    goes_sequence (goes_keyword keyword.On refl) refl (λ on. goes_sequence locations_goes refl (λ locations. goes_sequence (goes_place start) refl (λ span. goes_answer _))))))))

abbrev pub definition_views : List View
definition_views = kind_view VerticalBar ∷ type_definition_views

definition_behind_goes : (depth start : ℕ) (description : Option Description) →
    Goes definition_views (keyword_word keyword.Scalar ∷ name_word ∷ []) (definition_behind depth start description) (definition_behind (suc depth) start description)
unfolding definition_behind same_kind
definition_behind_goes depth start description =
    goes_second (keyword_shown keyword.Schema) refl refl (moving refl (goes_sequence (schema_goes depth start description) refl (λ x. goes_answer _)))
    (goes_second (keyword_shown keyword.Directive) refl refl (moving refl (goes_sequence (directive_goes depth start description) refl (λ x. goes_answer _)))
    (goes_sequence (type_definition_goes depth start description) refl (λ x. goes_answer _)))

pub definition_goes : (depth : ℕ) → Goes definition_views (keyword_word keyword.Scalar ∷ name_word ∷ []) (type_system_definition_at depth) (type_system_definition_at (suc depth))
unfolding type_system_definition_at same_kind
definition_goes depth = goes_starting refl (λ start. goes_sequence description_goes refl (λ description. definition_behind_goes depth start description))
