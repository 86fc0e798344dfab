-- The operations of a document, and the selection sets of its definitions. Specification: 2.2 Document.
use Rattle.std.specs.Prelude.{List, ◌++◌, option_to_list, map}
use Rattle.indexmap.specs.IndexMap.{values}
use Rattle.graphql_nodes.specs.declared.nodes.Node.{Node}
use Rattle.graphql_documents.specs.declared.documents.executables.Operation.{Operation}
use Rattle.graphql_documents.specs.declared.documents.executables.ExecutableDocument.{ExecutableDocument}
use Rattle.graphql_documents.specs.declared.documents.executables.SelectionSet.{SelectionSet}

-- the operations of a document: the one without a name, then the others in order
abbrev pub operations_of : ExecutableDocument → List (Node Operation)
operations_of document = option_to_list document.operations.anonymous ++ values document.operations.named

-- the sets of the operations and of the fragments of a document, in order
abbrev pub sets_of : ExecutableDocument → List SelectionSet
sets_of document =
    map (λ o. o.value.value.selection_set) (operations_of document) ++
    map (λ d. d.value.value.selection_set) (values document.fragments)
