use Rattle.std.proofs.Common.{inl, inr, refl}
use Rattle.graphql_tokens.specs.declared.token.TokenKind.TheVariants.{StringValue, BlockString}
use Rattle.graphql_strings.proofs.TextLemmas.{token_has_value}
use Rattle.graphql_strings.proofs.laws.a_string_token_has_a_value.Goals as goal

pub returns-clause-string : goal.returns-clause-string
returns-clause-string c = λ before text rest text_is is. token_has_value StringValue before text rest is (inl refl) text_is

pub returns-clause-block_string : goal.returns-clause-block_string
returns-clause-block_string c = λ before text rest text_is is. token_has_value BlockString before text rest is (inr refl) text_is
