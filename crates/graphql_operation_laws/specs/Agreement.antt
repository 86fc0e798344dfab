-- When two documents define the same fragments, as far as a selection set reaches. Specification: 2.8 Fragments.
use Rattle.graphql_nodes.specs.Names.{NameText}
use Rattle.graphql_nodes.specs.Nodes.{SameNode}
use Rattle.graphql_documents.specs.Contents.{SameIfAny}
use Rattle.graphql_documents.specs.Selections.{Fragments}
use Rattle.graphql_documents.specs.declared.documents.executables.SelectionSet.{SelectionSet}
use Rattle.graphql_reach.specs.Reached.{IsSpreadFrom}

-- each name that is spread from the set finds the same fragment among both, or none among either
abbrev pub AgreeFrom : Fragments → Fragments → SelectionSet → Type 0
AgreeFrom fragments others set = (name : NameText) → IsSpreadFrom fragments set name → SameIfAny SameNode (fragments name) (others name)
