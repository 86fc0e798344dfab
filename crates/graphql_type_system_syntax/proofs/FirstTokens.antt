-- With what definitions of the type system begin.
use Rattle.std.proofs.Common.{◌≡◌, true, ◌||◌}
use Rattle.graphql_syntax.specs.declared.keywords.Keyword.TheVariants as keyword
use Rattle.graphql_syntax.specs.Inputs.{Input, TokenTest, is_keyword, is_string, next_passes, sees_keyword}
use Rattle.graphql_syntax.proofs.NextLemmas.{passes_left, passes_right}
use Rattle.graphql_type_system_syntax.specs.DefinitionReaders.{begins_type_definition, begins_type_system_definition}

-- one keyword or another
abbrev scalar_or_more : TokenTest
scalar_or_more source t = is_keyword keyword.Scalar source t || (is_keyword keyword.«Type» source t || is_keyword keyword.Interface source t)

abbrev union_or_more : TokenTest
union_or_more source t = is_keyword keyword.Union source t || (is_keyword keyword.Enum source t || is_keyword keyword.Input source t)

abbrev schema_or_directive : TokenTest
schema_or_directive source t = is_keyword keyword.Schema source t || is_keyword keyword.Directive source t

-- each keyword begins a definition of a type
pub scalar_begins : (i : Input) → sees_keyword keyword.Scalar i ≡ true → next_passes begins_type_definition i ≡ true
scalar_begins i e = passes_left scalar_or_more union_or_more i (passes_left (is_keyword keyword.Scalar) _ i e)

pub object_begins : (i : Input) → sees_keyword keyword.«Type» i ≡ true → next_passes begins_type_definition i ≡ true
object_begins i e =
    passes_left scalar_or_more union_or_more i
    (passes_right (is_keyword keyword.Scalar) _ i (passes_left (is_keyword keyword.«Type») (is_keyword keyword.Interface) i e))

pub interface_begins : (i : Input) → sees_keyword keyword.Interface i ≡ true → next_passes begins_type_definition i ≡ true
interface_begins i e =
    passes_left scalar_or_more union_or_more i
    (passes_right (is_keyword keyword.Scalar) _ i (passes_right (is_keyword keyword.«Type») (is_keyword keyword.Interface) i e))

pub union_begins : (i : Input) → sees_keyword keyword.Union i ≡ true → next_passes begins_type_definition i ≡ true
union_begins i e = passes_right scalar_or_more union_or_more i (passes_left (is_keyword keyword.Union) _ i e)

pub enum_begins : (i : Input) → sees_keyword keyword.Enum i ≡ true → next_passes begins_type_definition i ≡ true
enum_begins i e =
    passes_right scalar_or_more union_or_more i
    (passes_right (is_keyword keyword.Union) _ i (passes_left (is_keyword keyword.Enum) (is_keyword keyword.Input) i e))

pub input_object_begins : (i : Input) → sees_keyword keyword.Input i ≡ true → next_passes begins_type_definition i ≡ true
input_object_begins i e =
    passes_right scalar_or_more union_or_more i
    (passes_right (is_keyword keyword.Union) _ i (passes_right (is_keyword keyword.Enum) (is_keyword keyword.Input) i e))

-- and a definition
pub string_begins : (i : Input) → next_passes is_string i ≡ true → next_passes begins_type_system_definition i ≡ true
string_begins i e = passes_left is_string _ i e

pub schema_begins : (i : Input) → sees_keyword keyword.Schema i ≡ true → next_passes begins_type_system_definition i ≡ true
schema_begins i e =
    passes_right is_string _ i
    (passes_left schema_or_directive begins_type_definition i (passes_left (is_keyword keyword.Schema) (is_keyword keyword.Directive) i e))

pub directive_begins : (i : Input) → sees_keyword keyword.Directive i ≡ true → next_passes begins_type_system_definition i ≡ true
directive_begins i e =
    passes_right is_string _ i
    (passes_left schema_or_directive begins_type_definition i (passes_right (is_keyword keyword.Schema) (is_keyword keyword.Directive) i e))

pub type_begins : (i : Input) → next_passes begins_type_definition i ≡ true → next_passes begins_type_system_definition i ≡ true
type_begins i e = passes_right is_string _ i (passes_right schema_or_directive begins_type_definition i e)
