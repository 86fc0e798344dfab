-- The variables that a walk over an operation has visited.
use Rattle.std.specs.Prelude.{◌≡◌, ◌↔◌, ◌⊎◌, List, ◌∷◌, ◌++◌, None, Some, Contains, map}
use Rattle.std.specs.Borrow.{Bor}
use Rattle.indexmap.specs.IndexSet.{IndexSet}
use Rattle.graphql_nodes.specs.Names.{NameText, SameName}
use Rattle.graphql_documents.specs.Selections.{Fragments, arguments_of, directives_of}
use Rattle.graphql_documents.specs.Definitions.{variable_named}
use Rattle.graphql_documents.specs.VariableUses.{StandsInArguments, StandsInDirectives}
use Rattle.graphql_documents.specs.declared.documents.definitions.VariableDefinition.{VariableDefinition}
use Rattle.graphql_documents.specs.declared.documents.executables.Fragment.{Fragment}
use Rattle.graphql_documents.specs.declared.documents.executables.FragmentSpread.{FragmentSpread}
use Rattle.graphql_documents.specs.declared.documents.executables.Selection.TheVariants as kind
use Rattle.graphql_documents.specs.declared.documents.executables.Selection.{Selection}
use Rattle.graphql_nodes.specs.declared.nodes.Node.{Node}
use Rattle.graphql_variables.specs.declared.unused.UsedNames.{UsedNames}
use Rattle.graphql_variables.specs.declared.unused.UsedNames.TheVariants.{Few, Many}

-- the new list is the old one with more names behind it, of which this holds
pub record AddsNames (Are : List NameText → Type 0) (old new : List (Bor NameText)) : Type 0 where
  pub added : List (Bor NameText)
  pub appended : new ≡ old ++ added
  pub are : Are (map (λ n. n.now) added)

-- a name with this text is in the list
abbrev pub IsNamedIn : List NameText → NameText → Type 0
IsNamedIn names name = (used : NameText) × Contains names used × SameName used name

-- the names that stand for these references
abbrev pub names_of : List (Bor NameText) → List NameText
names_of names = map (λ n. n.now) names

-- the new list names what the old one does, and further exactly the names of which this holds
abbrev pub NamesAlso : (NameText → Type 0) → List (Bor NameText) → List (Bor NameText) → Type 0
NamesAlso Used old new =
    (name : NameText) → IsNamedIn (names_of new) name ↔ (IsNamedIn (names_of old) name ⊎ Used name)

-- a selection uses a variable of this name: in its own directives or arguments, or in the directives
-- of the fragment that it spreads
pub data UsedAt (fragments : Fragments) (s : Selection) (name : NameText) : Type 0 where
  in_own_directives : StandsInDirectives name (directives_of s) → UsedAt fragments s name
  in_own_arguments : StandsInArguments name (arguments_of s) → UsedAt fragments s name
  in_definition : {p : Node FragmentSpread} {d : Node Fragment} →
      s ≡ kind.FragmentSpread p → fragments p.value.value.fragment_name ≡ Some d →
      StandsInDirectives name d.value.value.directives.items → UsedAt fragments s name

-- the definition of the fragment of this name uses a variable in its directives
abbrev pub UsedInDefinition : Fragments → NameText → NameText → Type 0
UsedInDefinition fragments fragment name =
    (d : Node Fragment) × (fragments fragment ≡ Some d) × StandsInDirectives name d.value.value.directives.items

-- the list names each variable that the definitions of these fragments use in their directives
abbrev pub NamesDefinitions : Fragments → List (Bor NameText) → List (Bor NameText) → Type 0
NamesDefinitions fragments entered names =
    (fragment name : NameText) → IsNamedIn (names_of entered) fragment → UsedInDefinition fragments fragment name → IsNamedIn (names_of names) name

-- the list has exactly the names of which this holds
abbrev pub AreUsed : (NameText → Type 0) → List (Bor NameText) → Type 0
AreUsed Used names = (name : NameText) → IsNamedIn (names_of names) name ↔ Used name

-- the names among which others are looked up
abbrev pub known_names : UsedNames → List (Bor NameText)
known_names (Few names) = names.items
known_names (Many set) = set.keys

-- the set holds exactly the names of which this holds
abbrev pub HasUsed : {S : Type 0} → (NameText → Type 0) → IndexSet (Bor NameText) S → Type 0
HasUsed Used set = (name : NameText) → IsNamedIn (names_of set.keys) name ↔ Used name

-- the last variable of this name
pub record IsLastDefinition (variables : List (Node VariableDefinition)) (name : NameText) (v : Node VariableDefinition) : Type 0 where
  pub before : List (Node VariableDefinition)
  pub after : List (Node VariableDefinition)
  pub split : variables ≡ before ++ v ∷ after
  pub is_last : variable_named v.value.value.name after ≡ None
  pub same : SameName name v.value.value.name
