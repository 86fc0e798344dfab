-- What contracts see of documents whose selections have the numbers of their contents.
use Rattle.std.specs.Prelude.{◌≡◌, List, length}
use Rattle.graphql_documents.specs.Selections.{selections_of}
use Rattle.graphql_documents.specs.declared.documents.executables.ExecutableDocument.{ExecutableDocument}
use Rattle.graphql_contents.specs.Contents.{AreNumbered}
use Rattle.graphql_contents.specs.Fragments.{sets_among}
use Rattle.graphql_contents.specs.Tables.{contents_of}
use Rattle.graphql_contents.specs.declared.contents.Content.{Content}
use Rattle.graphql_contents.specs.declared.documents.NumberedDocument.{NumberedDocument}
use Rattle.graphql_contents.specs.declared.documents.NumberedSet.{NumberedSet}

-- the document
abbrev pub document_in : NumberedDocument → ExecutableDocument
document_in d = d.document.now

-- the contents that have numbers, in order of these
abbrev pub contents_in : NumberedDocument → List Content
contents_in d = contents_of d.contents

-- what is in the fragments has numbers
abbrev pub HasFragments : NumberedDocument → Type 0
HasFragments d = length d.fragments.items ≡ length (sets_among d.document.now.fragments)

-- the numbers are those of the contents of the selections of the set
abbrev pub IsNumberedSet : List Content → NumberedSet → Type 0
IsNumberedSet contents s = AreNumbered contents (selections_of s.set.now) s.contents.now
