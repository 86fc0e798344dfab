-- How fields are collected step by step, for the contracts of private functions.
use Rattle.std.specs.Prelude.{◌≡◌, List, [], ◌∷◌, ◌++◌, map}
use Rattle.graphql_specification.specs.CollectFields.{CollectsAmong, CollectsIn}
use Rattle.graphql_specification.specs.Merging.{FieldSelection}
use Rattle.graphql_nodes.specs.Names.{NameText}
use Rattle.graphql_documents.specs.Selections.{fragments_of}
use Rattle.graphql_documents.specs.declared.documents.executables.Selection.{Selection}
use Rattle.graphql_documents.specs.declared.documents.executables.SelectionSet.{SelectionSet}
use Rattle.graphql_field_conflicts.specs.FieldSelections.{listed}
use Rattle.graphql_validation.specs.declared.collect.CollectedFields.{CollectedFields}
use Rattle.graphql_validation.specs.declared.collect.FieldCollection.{FieldCollection}

-- a walk that begins with these names of fragments visited, collects these fields, and ends with those names
abbrev pub CollectingWalk : Type 1
CollectingWalk = List NameText → List FieldSelection → List NameText → Type 0

-- the names of the fragments that were visited
abbrev pub visited_of : CollectedFields → List NameText
visited_of found = map (λ b. b.now) found.visited.keys

-- a walk over a set, and over selections of a set of the type
abbrev pub WalksIn : FieldCollection → SelectionSet → CollectingWalk
WalksIn of set seen fields visited = CollectsIn of.schema.now (fragments_of of.document.now) of.object_type.now seen set fields visited

abbrev pub WalksAmong : FieldCollection → NameText → List Selection → CollectingWalk
WalksAmong of parent selections seen fields visited =
    CollectsAmong of.schema.now (fragments_of of.document.now) of.object_type.now parent seen selections fields visited

-- a walk over several sets, in order
pub data WalksOver (of : FieldCollection) : List SelectionSet → List NameText → List FieldSelection → List NameText → Type 0 where
  walks_none : {seen : List NameText} → WalksOver of [] seen [] seen
  walks_next : {seen mid visited : List NameText} {set : SelectionSet} {sets : List SelectionSet} {within fields : List FieldSelection} →
      WalksIn of set seen within mid → WalksOver of sets mid fields visited → WalksOver of (set ∷ sets) seen (within ++ fields) visited

-- the fields that the walk collects are behind those that were there
pub record CollectsMore (old new : CollectedFields) (Walks : CollectingWalk) : Type 0 where
  pub fields : List FieldSelection
  pub walks : Walks (visited_of old) fields (visited_of new)
  pub appended : listed new.fields.items ≡ listed old.fields.items ++ fields
