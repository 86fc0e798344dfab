-- The numbers of what is in the fragments of a document.
use Rattle.std.specs.Prelude.{ℕ, List, Vec, map}
use Rattle.std.specs.List.{AllZip}
use Rattle.std.specs.declared.alloc.Global.{Global}
use Rattle.indexmap.specs.IndexMap.{IndexMap, values}
use Rattle.graphql_nodes.specs.Names.{NameText}
use Rattle.graphql_nodes.specs.declared.nodes.Node.{Node}
use Rattle.graphql_documents.specs.Selections.{selections_of}
use Rattle.graphql_documents.specs.declared.documents.executables.Fragment.{Fragment}
use Rattle.graphql_documents.specs.declared.documents.executables.SelectionSet.{SelectionSet}
use Rattle.graphql_contents.specs.Contents.{AreNumbered}
use Rattle.graphql_contents.specs.declared.contents.Content.{Content}

-- the sets of the fragments, in order
abbrev pub sets_among : {S : Type 0} → IndexMap NameText (Node Fragment) S → List SelectionSet
sets_among fragments = map (λ d. d.value.value.selection_set) (values fragments)

-- these are the numbers of the contents of the selections of sets, set by set
abbrev pub AreSetsNumbered : List Content → List SelectionSet → List (Vec ℕ Global) → Type 0
AreSetsNumbered contents sets numbers = AllZip (λ set ns. AreNumbered contents (selections_of set) ns.items) sets numbers
