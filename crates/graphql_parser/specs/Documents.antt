-- Documents: `IsDocument depth i tree j` where the tokens from i up to j are the document, and brackets and braces are nested at most so deep in one
-- another. Specification: 2.2 Document, and Appendix B.3 Document Syntax.
use Rattle.std.specs.Prelude.{◌≡◌, ℕ}
use Rattle.graphql_trees.specs.declared.documents.Definition.{Definition}
use Rattle.graphql_trees.specs.declared.documents.Definition.TheVariants as tree
use Rattle.graphql_trees.specs.declared.documents.Document.{Document}
use Rattle.graphql_trees.specs.declared.executable.FragmentDefinition.{FragmentDefinition}
use Rattle.graphql_trees.specs.declared.executable.OperationDefinition.{OperationDefinition}
use Rattle.graphql_syntax.specs.Inputs.{Input, between}
use Rattle.graphql_syntax.specs.Many.{Some1}
use Rattle.graphql_executable_syntax.specs.Fragments.{IsFragmentDefinition}
use Rattle.graphql_executable_syntax.specs.Operations.{IsOperationDefinition}
use Rattle.graphql_type_system_syntax.specs.Definitions.{IsTypeSystemDefinition, IsTypeSystemExtension}

-- Definition : ExecutableDefinition | TypeSystemDefinitionOrExtension
pub data IsDefinition (depth : ℕ) : Input → Definition → Input → Type 0 where
  -- ExecutableDefinition : OperationDefinition | FragmentDefinition
  operation : (i j : Input) (x : OperationDefinition) → IsOperationDefinition depth i x j → IsDefinition depth i (tree.Operation x) j
  fragment : (i j : Input) (x : FragmentDefinition) → IsFragmentDefinition depth i x j → IsDefinition depth i (tree.Fragment x) j
  -- TypeSystemDefinitionOrExtension : TypeSystemDefinition | TypeSystemExtension
  type_system : (i j : Input) (x : Definition) → IsTypeSystemDefinition depth i x j → IsDefinition depth i x j
  extension : (i j : Input) (x : Definition) → IsTypeSystemExtension depth i x j → IsDefinition depth i x j

-- Document : Definition+
pub record IsDocument (depth : ℕ) (i : Input) (x : Document) (j : Input) : Type 0 where
  pub definitions : Some1 (IsDefinition depth) i x.definitions j
  pub span : x.span ≡ between i j
