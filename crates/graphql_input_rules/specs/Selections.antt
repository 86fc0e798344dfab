-- The values that one selection writes, and those of all operations, for the walk over a document.
use Rattle.std.specs.Prelude.{◌≡◌, ◌⊎◌, Any, option_to_list}
use Rattle.indexmap.specs.IndexMap.{values}
use Rattle.graphql_nodes.specs.declared.nodes.Node.{Node}
use Rattle.graphql_documents.specs.declared.documents.executables.Field.{Field}
use Rattle.graphql_documents.specs.declared.documents.executables.InlineFragment.{InlineFragment}
use Rattle.graphql_documents.specs.declared.documents.executables.OperationMap.{OperationMap}
use Rattle.graphql_documents.specs.declared.documents.executables.Selection.TheVariants as kind
use Rattle.graphql_documents.specs.declared.documents.executables.Selection.{Selection}
use Rattle.graphql_documents.specs.declared.documents.values.Value.{Value}
use Rattle.graphql_input_rules.specs.ValuesWritten.{InArguments, InDirectives, OperationWrites, SetWrites, WritesItself}

-- a field writes the value: in its arguments, its directives or its set
abbrev pub FieldWrites : Field → Value → Type 0
FieldWrites f value = InArguments f.arguments.items value ⊎ (InDirectives f.directives.items value ⊎ SetWrites f.selection_set value)

-- an inline fragment does: in its directives or its set
abbrev pub InlineFragmentWrites : InlineFragment → Value → Type 0
InlineFragmentWrites i value = InDirectives i.directives.items value ⊎ SetWrites i.selection_set value

-- the selection writes the value itself, or a selection below it does
pub data SelectionWrites (s : Selection) (value : Value) : Type 0 where
  writes_itself : WritesItself s value → SelectionWrites s value
  below_field : (f : Node Field) → s ≡ kind.Field f → SetWrites f.value.value.selection_set value → SelectionWrites s value
  below_inline_fragment : (i : Node InlineFragment) →
      s ≡ kind.InlineFragment i → SetWrites i.value.value.selection_set value → SelectionWrites s value

-- one of the operations writes the value
abbrev pub OperationsWrite : OperationMap → Value → Type 0
OperationsWrite operations value =
    Any (λ o. OperationWrites o.value.value value) (option_to_list operations.anonymous) ⊎
    Any (λ o. OperationWrites o.value.value value) (values operations.named)
