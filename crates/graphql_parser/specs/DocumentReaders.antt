-- Readers of documents. That they answer by the grammar is proved.
use Rattle.std.specs.Prelude.{ℕ, List, [], ◌∷◌, length, Result, Ok, Err}
use Rattle.graphql_tokens.specs.declared.token.Token.{Token}
use Rattle.graphql_trees.specs.declared.documents.Definition.{Definition}
use Rattle.graphql_trees.specs.declared.documents.Definition.TheVariants as tree
use Rattle.graphql_trees.specs.declared.documents.Document.{Document}
use Rattle.graphql_syntax.specs.declared.keywords.Keyword.TheVariants as keyword
use Rattle.graphql_syntax.specs.declared.production.More.TheVariants.{UntilEnd}
use Rattle.graphql_syntax.specs.declared.refusals.Expected.TheVariants as expected
use Rattle.graphql_syntax.specs.declared.refusals.Refusal.{Refusal}
use Rattle.graphql_syntax.specs.declared.refusals.Refusal.TheVariants.{Unexpected}
use Rattle.graphql_syntax.specs.Inputs.{Input, is_keyword}
use Rattle.graphql_syntax.specs.Reading.{Reader, ◌>>=◌, answer, refuse, and_then, choose, starting, place, more_test, some_of}
use Rattle.graphql_executable_syntax.specs.FragmentReaders.{fragment_definition_at}
use Rattle.graphql_executable_syntax.specs.OperationReaders.{operation_definition_at}
use Rattle.graphql_executable_syntax.specs.Operations.{begins_operation}
use Rattle.graphql_type_system_syntax.specs.DefinitionReaders.{begins_type_system_definition, extension_at, type_system_definition_at}

abbrev pub operation_at : ℕ → Reader Definition
operation_at depth = operation_definition_at depth >>= λ x. answer (tree.Operation x)

abbrev pub fragment_at : ℕ → Reader Definition
fragment_at depth = fragment_definition_at depth >>= λ x. answer (tree.Fragment x)

unfoldable pub executable_definition_at : ℕ → Reader Definition
executable_definition_at depth =
    choose begins_operation (operation_at depth)
    (choose (is_keyword keyword.Fragment) (fragment_at depth) (refuse expected.Definition))

unfoldable pub definition_at : ℕ → Reader Definition
definition_at depth =
    choose (is_keyword keyword.Extend) (extension_at depth)
    (choose begins_type_system_definition (type_system_definition_at depth) (executable_definition_at depth))

unfoldable pub document_at : ℕ → Reader Document
document_at depth = starting (λ start. do
  definitions ← some_of (more_test UntilEnd) (definition_at depth)
  span ← place start
  answer (record { definitions = definitions; span = span }))

-- nothing but a document
abbrev pub no_more : Document → Input → List Token → Result Document Refusal
no_more tree end [] = Ok tree
no_more tree end (t ∷ rest) = Err (Unexpected (length end.tokens) expected.Definition)

unfoldable pub whole_document_at : ℕ → Input → Result Document Refusal
whole_document_at depth i = and_then (document_at depth i) (λ found. no_more found.0 found.1 found.1.tokens)
