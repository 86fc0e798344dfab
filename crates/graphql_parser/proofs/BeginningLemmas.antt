-- With which token each definition begins, and which it does not.
use Rattle.std.proofs.Common.{◌≡◌, true, false, inl, inr, List, [], ◌∷◌, refl}
use Rattle.graphql_tokens.specs.declared.token.Token.{Token}
use Rattle.graphql_tokens.specs.declared.token.TokenKind.TheVariants.{LeftBrace}
use Rattle.graphql_syntax.specs.declared.keywords.Keyword.TheVariants as keyword
use Rattle.graphql_syntax.specs.declared.production.More.TheVariants.{UntilEnd}
use Rattle.graphql_syntax.specs.Inputs.{Input, TokenTest, is_kind, is_keyword, first_passes, next_passes, sees, sees_keyword}
use Rattle.graphql_syntax.specs.Reading.{more_test}
use Rattle.graphql_syntax.proofs.NextLemmas.{brace_no_name, passes_or, no_name_no_keyword, other_keyword}
use Rattle.graphql_syntax.specs.OperationTypes.{is_operation_type}
use Rattle.graphql_executable_syntax.specs.Operations.{begins_operation}
use Rattle.graphql_type_system_syntax.specs.DefinitionReaders.{begins_type_system_definition}
use Rattle.graphql_type_system_syntax.proofs.BeginningLemmas.{brace_follows, keyword_follows, query_begins_none, mutation_begins_none, subscription_begins_none, brace_begins_none}
use Rattle.graphql_type_system_syntax.proofs.MemberLemmas.{DefinitionEnds}

-- a token comes
pub some_token : (test : TokenTest) (i : Input) → next_passes test i ≡ true → next_passes (more_test UntilEnd) i ≡ true
unfolding next_passes
some_token test i e = by i.tokens e where
  by : (tokens : List Token) → first_passes test i.source tokens ≡ true → first_passes (more_test UntilEnd) i.source tokens ≡ true
  by [] e = absurd (let h : ⊥ = cc in h)
  by (t ∷ rest) e = refl

-- an operation begins with a brace, or with one of three keywords
by_beginning : (P : Type 0) (i : Input) → next_passes begins_operation i ≡ true → (sees LeftBrace i ≡ true → P) → (sees_keyword keyword.Query i ≡ true → P) →
    (sees_keyword keyword.Mutation i ≡ true → P) → (sees_keyword keyword.Subscription i ≡ true → P) → P
by_beginning P i e brace query mutation subscription = elim (passes_or (is_kind LeftBrace) is_operation_type i e) [
  | inl h ↦ brace h
  | inr h ↦ elim (passes_or (is_keyword keyword.Query) _ i h) [
    | inl k ↦ query k
    | inr k ↦ elim (passes_or (is_keyword keyword.Mutation) (is_keyword keyword.Subscription) i k) [ inl l ↦ mutation l | inr l ↦ subscription l ]
  ]
]

pub operation_no_extension : (i : Input) → next_passes begins_operation i ≡ true → sees_keyword keyword.Extend i ≡ false
operation_no_extension i e =
    by_beginning (sees_keyword keyword.Extend i ≡ false) i e (λ h. no_name_no_keyword keyword.Extend i (brace_no_name i h))
    (λ h. other_keyword keyword.Query keyword.Extend i refl h) (λ h. other_keyword keyword.Mutation keyword.Extend i refl h)
    (λ h. other_keyword keyword.Subscription keyword.Extend i refl h)

pub operation_no_type_system : (i : Input) → next_passes begins_operation i ≡ true → next_passes begins_type_system_definition i ≡ false
operation_no_type_system i e =
    by_beginning (next_passes begins_type_system_definition i ≡ false) i e (brace_begins_none i) (query_begins_none i) (mutation_begins_none i) (subscription_begins_none i)

-- and what an operation begins with may be behind a definition
pub operation_follows : (i : Input) → next_passes begins_operation i ≡ true → DefinitionEnds i
operation_follows i e =
    by_beginning (DefinitionEnds i) i e (brace_follows i) (keyword_follows keyword.Query i refl) (keyword_follows keyword.Mutation i refl) (keyword_follows keyword.Subscription i refl)
