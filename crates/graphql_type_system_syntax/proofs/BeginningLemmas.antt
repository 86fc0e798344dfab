-- What may be behind a definition of the type system, and what begins none.
use Rattle.std.proofs.Common.{◌≡◌, Bool, true, false, ◌||◌, ◌⊎◌, inl, inr, [], refl}
use Rattle.std.specs.Str.{bytes_eq}
use Rattle.graphql_tokens.specs.declared.token.TokenKind.TheVariants.{Name, LeftBrace}
use Rattle.graphql_syntax.specs.Keywords.{keyword_text}
use Rattle.graphql_syntax.specs.declared.keywords.Keyword.{Keyword}
use Rattle.graphql_syntax.specs.declared.keywords.Keyword.TheVariants as keyword
use Rattle.graphql_syntax.specs.Inputs.{same_kind, Input, is_keyword, is_string, next_passes, sees, sees_keyword}
use Rattle.graphql_syntax.proofs.NextLemmas.{passes_not, keyword_is_name, no_name_no_keyword, other_keyword, at_end, is_string_kind, goes_on, name_no_string, passes_or, fails_or, brace_ends, brace_no_name}
use Rattle.graphql_type_system_syntax.specs.DefinitionReaders.{begins_type_definition, begins_type_system_definition}
use Rattle.graphql_type_system_syntax.proofs.MemberLemmas.{DefinitionEnds}

-- a definition may be where the text ends, or before a string, a brace, or a keyword that is not `implements`
pub end_follows : (i : Input) → i.tokens ≡ [] → DefinitionEnds i
end_follows i e = record { ends = at_end _ i e; no_interfaces = at_end _ i e }

pub string_follows : (i : Input) → next_passes is_string i ≡ true → DefinitionEnds i
unfolding same_kind
string_follows i e = record {
  ends = passes_not is_string_kind goes_on refl i e;
  no_interfaces = no_name_no_keyword keyword.Implements i (passes_not is_string_kind (λ k. same_kind k Name) refl i e);
}

pub brace_follows : (i : Input) → sees LeftBrace i ≡ true → DefinitionEnds i
unfolding same_kind
brace_follows i e = record {
  ends = brace_ends i e;
  no_interfaces = no_name_no_keyword keyword.Implements i (brace_no_name i e);
}

pub keyword_follows : (kind : Keyword) (i : Input) → bytes_eq (keyword_text kind) (keyword_text keyword.Implements) ≡ false → sees_keyword kind i ≡ true → DefinitionEnds i
unfolding same_kind
keyword_follows kind i differ e = record {
  ends = passes_not (λ k. same_kind k Name) goes_on refl i (keyword_is_name kind i e);
  no_interfaces = other_keyword kind keyword.Implements i differ e;
}

-- the keywords with which a definition begins
abbrev pub begins_definition : Keyword → Bool
begins_definition keyword.Schema = true
begins_definition keyword.Directive = true
begins_definition keyword.Scalar = true
begins_definition keyword.«Type» = true
begins_definition keyword.Interface = true
begins_definition keyword.Union = true
begins_definition keyword.Enum = true
begins_definition keyword.Input = true
begins_definition _ = false

-- the keyword that begins a definition
pub record BeginsWith (i : Input) : Type 0 where
  pub kind : Keyword
  pub begins : begins_definition kind ≡ true
  pub comes : sees_keyword kind i ≡ true

with_keyword : (kind : Keyword) (i : Input) → begins_definition kind ≡ true → sees_keyword kind i ≡ true → BeginsWith i
with_keyword kind i begins e = record { kind = kind; begins = begins; comes = e }

type_keyword : (i : Input) → next_passes begins_type_definition i ≡ true → BeginsWith i
type_keyword i e =
    elim (passes_or (λ source t. is_keyword keyword.Scalar source t || (is_keyword keyword.«Type» source t || is_keyword keyword.Interface source t))
    (λ source t. is_keyword keyword.Union source t || (is_keyword keyword.Enum source t || is_keyword keyword.Input source t)) i e) [
      | inl h ↦ elim (passes_or (is_keyword keyword.Scalar) (λ source t. is_keyword keyword.«Type» source t || is_keyword keyword.Interface source t) i h) [
        | inl k ↦ with_keyword keyword.Scalar i refl k
        | inr k ↦ elim (passes_or (is_keyword keyword.«Type») (is_keyword keyword.Interface) i k) [
          | inl l ↦ with_keyword keyword.«Type» i refl l
          | inr l ↦ with_keyword keyword.Interface i refl l
        ]
      ]
      | inr h ↦ elim (passes_or (is_keyword keyword.Union) (λ source t. is_keyword keyword.Enum source t || is_keyword keyword.Input source t) i h) [
        | inl k ↦ with_keyword keyword.Union i refl k
        | inr k ↦ elim (passes_or (is_keyword keyword.Enum) (is_keyword keyword.Input) i k) [
          | inl l ↦ with_keyword keyword.Enum i refl l
          | inr l ↦ with_keyword keyword.Input i refl l
        ]
      ]
    ]

-- a string, or one of the keywords
pub beginning : (i : Input) → next_passes begins_type_system_definition i ≡ true → (next_passes is_string i ≡ true) ⊎ BeginsWith i
beginning i e =
    elim (passes_or is_string (λ source t. (is_keyword keyword.Schema source t || is_keyword keyword.Directive source t) || begins_type_definition source t) i e) [
      | inl h ↦ inl h
      | inr h ↦ elim (passes_or (λ source t. is_keyword keyword.Schema source t || is_keyword keyword.Directive source t) begins_type_definition i h) [
        | inl k ↦ elim (passes_or (is_keyword keyword.Schema) (is_keyword keyword.Directive) i k) [
          | inl l ↦ inr (with_keyword keyword.Schema i refl l)
          | inr l ↦ inr (with_keyword keyword.Directive i refl l)
        ]
        | inr k ↦ inr (type_keyword i k)
      ]
    ]

-- none of them is `implements`, and none is `extend`
no_implements : (kind : Keyword) → begins_definition kind ≡ true → bytes_eq (keyword_text kind) (keyword_text keyword.Implements) ≡ false
no_implements keyword.Schema e = refl
no_implements keyword.Directive e = refl
no_implements keyword.Scalar e = refl
no_implements keyword.«Type» e = refl
no_implements keyword.Interface e = refl
no_implements keyword.Union e = refl
no_implements keyword.Enum e = refl
no_implements keyword.Input e = refl
no_implements _ e = absurd (let h : ⊥ = cc in h)

no_extend : (kind : Keyword) → begins_definition kind ≡ true → bytes_eq (keyword_text kind) (keyword_text keyword.Extend) ≡ false
no_extend keyword.Schema e = refl
no_extend keyword.Directive e = refl
no_extend keyword.Scalar e = refl
no_extend keyword.«Type» e = refl
no_extend keyword.Interface e = refl
no_extend keyword.Union e = refl
no_extend keyword.Enum e = refl
no_extend keyword.Input e = refl
no_extend _ e = absurd (let h : ⊥ = cc in h)

-- a definition may be before another, and before an extension
pub definition_follows : (i : Input) → next_passes begins_type_system_definition i ≡ true → DefinitionEnds i
definition_follows i e = elim (beginning i e) [
  | inl h ↦ string_follows i h
  | inr h ↦ keyword_follows h.kind i (no_implements h.kind h.begins) h.comes
]

pub extension_follows : (i : Input) → sees_keyword keyword.Extend i ≡ true → DefinitionEnds i
extension_follows i e = keyword_follows keyword.Extend i refl e

-- what begins a definition is no `extend`
pub begins_no_extend : (i : Input) → next_passes begins_type_system_definition i ≡ true → sees_keyword keyword.Extend i ≡ false
unfolding same_kind
begins_no_extend i e = elim (beginning i e) [
  | inl h ↦ no_name_no_keyword keyword.Extend i (passes_not is_string_kind (λ k. same_kind k Name) refl i h)
  | inr h ↦ other_keyword h.kind keyword.Extend i (no_extend h.kind h.begins) h.comes
]

-- with a keyword that is none of the eight begins no definition; nor with a brace
pub keyword_begins_none : (kind : Keyword) (i : Input) →
    bytes_eq (keyword_text kind) (keyword_text keyword.Schema) ≡ false → bytes_eq (keyword_text kind) (keyword_text keyword.Directive) ≡ false →
    bytes_eq (keyword_text kind) (keyword_text keyword.Scalar) ≡ false → bytes_eq (keyword_text kind) (keyword_text keyword.«Type») ≡ false →
    bytes_eq (keyword_text kind) (keyword_text keyword.Interface) ≡ false → bytes_eq (keyword_text kind) (keyword_text keyword.Union) ≡ false →
    bytes_eq (keyword_text kind) (keyword_text keyword.Enum) ≡ false → bytes_eq (keyword_text kind) (keyword_text keyword.Input) ≡ false →
    sees_keyword kind i ≡ true → next_passes begins_type_system_definition i ≡ false
keyword_begins_none kind i a b c d e f g h seen =
    fails_or is_string _ i (name_no_string i (keyword_is_name kind i seen))
    (fails_or (λ source t. is_keyword keyword.Schema source t || is_keyword keyword.Directive source t) begins_type_definition i
    (fails_or (is_keyword keyword.Schema) (is_keyword keyword.Directive) i (other_keyword kind keyword.Schema i a seen) (other_keyword kind keyword.Directive i b seen))
    (fails_or (λ source t. is_keyword keyword.Scalar source t || (is_keyword keyword.«Type» source t || is_keyword keyword.Interface source t))
    (λ source t. is_keyword keyword.Union source t || (is_keyword keyword.Enum source t || is_keyword keyword.Input source t)) i
    (fails_or (is_keyword keyword.Scalar) (λ source t. is_keyword keyword.«Type» source t || is_keyword keyword.Interface source t) i (other_keyword kind keyword.Scalar i c seen)
    (fails_or (is_keyword keyword.«Type») (is_keyword keyword.Interface) i (other_keyword kind keyword.«Type» i d seen) (other_keyword kind keyword.Interface i e seen)))
    (fails_or (is_keyword keyword.Union) (λ source t. is_keyword keyword.Enum source t || is_keyword keyword.Input source t) i (other_keyword kind keyword.Union i f seen)
    (fails_or (is_keyword keyword.Enum) (is_keyword keyword.Input) i (other_keyword kind keyword.Enum i g seen) (other_keyword kind keyword.Input i h seen)))))

pub query_begins_none : (i : Input) → sees_keyword keyword.Query i ≡ true → next_passes begins_type_system_definition i ≡ false
query_begins_none i e = keyword_begins_none keyword.Query i refl refl refl refl refl refl refl refl e

pub mutation_begins_none : (i : Input) → sees_keyword keyword.Mutation i ≡ true → next_passes begins_type_system_definition i ≡ false
mutation_begins_none i e = keyword_begins_none keyword.Mutation i refl refl refl refl refl refl refl refl e

pub subscription_begins_none : (i : Input) → sees_keyword keyword.Subscription i ≡ true → next_passes begins_type_system_definition i ≡ false
subscription_begins_none i e = keyword_begins_none keyword.Subscription i refl refl refl refl refl refl refl refl e

pub fragment_begins_none : (i : Input) → sees_keyword keyword.Fragment i ≡ true → next_passes begins_type_system_definition i ≡ false
fragment_begins_none i e = keyword_begins_none keyword.Fragment i refl refl refl refl refl refl refl refl e

pub brace_begins_none : (i : Input) → sees LeftBrace i ≡ true → next_passes begins_type_system_definition i ≡ false
unfolding same_kind
brace_begins_none i e =
    let unnamed = brace_no_name i e in
    fails_or is_string _ i (passes_not (λ k. same_kind k LeftBrace) is_string_kind refl i e)
    (fails_or (λ source t. is_keyword keyword.Schema source t || is_keyword keyword.Directive source t) begins_type_definition i
    (fails_or (is_keyword keyword.Schema) (is_keyword keyword.Directive) i (no_name_no_keyword keyword.Schema i unnamed) (no_name_no_keyword keyword.Directive i unnamed))
    (fails_or (λ source t. is_keyword keyword.Scalar source t || (is_keyword keyword.«Type» source t || is_keyword keyword.Interface source t))
    (λ source t. is_keyword keyword.Union source t || (is_keyword keyword.Enum source t || is_keyword keyword.Input source t)) i
    (fails_or (is_keyword keyword.Scalar) (λ source t. is_keyword keyword.«Type» source t || is_keyword keyword.Interface source t) i (no_name_no_keyword keyword.Scalar i unnamed)
    (fails_or (is_keyword keyword.«Type») (is_keyword keyword.Interface) i (no_name_no_keyword keyword.«Type» i unnamed) (no_name_no_keyword keyword.Interface i unnamed)))
    (fails_or (is_keyword keyword.Union) (λ source t. is_keyword keyword.Enum source t || is_keyword keyword.Input source t) i (no_name_no_keyword keyword.Union i unnamed)
    (fails_or (is_keyword keyword.Enum) (is_keyword keyword.Input) i (no_name_no_keyword keyword.Enum i unnamed) (no_name_no_keyword keyword.Input i unnamed)))))
