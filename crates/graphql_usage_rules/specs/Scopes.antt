-- The variables in parts of a document, for the contracts of the walk over the scope of an operation.
use Rattle.std.specs.Prelude.{◌≡◌, ◌↔◌, ◌⊎◌, Any, Contains, List, Some, map}
use Rattle.std.specs.Borrow.{Bor}
use Rattle.graphql_nodes.specs.Names.{NameText}
use Rattle.graphql_nodes.specs.declared.nodes.Node.{Node}
use Rattle.graphql_documents.specs.Selections.{Fragments}
use Rattle.graphql_documents.specs.declared.documents.executables.Fragment.{Fragment}
use Rattle.graphql_documents.specs.declared.documents.executables.Operation.{Operation}
use Rattle.graphql_documents.specs.declared.documents.executables.Selection.{Selection}
use Rattle.graphql_documents.specs.declared.documents.executables.SelectionSet.{SelectionSet}
use Rattle.graphql_documents.specs.declared.documents.values.Value.{Value}
use Rattle.graphql_reach.specs.Written.{SelectionHas, SetHas}
use Rattle.graphql_usage_rules.specs.UndefinedVariables.{VariableAtSelection, VariableIn, VariableInDirectives, VariableInScope}

-- the values that references stand for
abbrev pub values_at : List (Bor (Node Value)) → List (Node Value)
values_at references = map (λ v. v.now) references

-- the new list has what the old one has, and further exactly the elements of which this holds
abbrev pub Adds : {X : Type 0} → (X → Type 0) → List X → List X → Type 0
Adds P old new = (x : _) → Contains new x ↔ (Contains old x ⊎ P x)

-- in one of these items, and in the value of one of these entries
abbrev pub InItems : List (Node Value) → Node Value → Type 0
InItems items variable = Any (λ item. VariableIn variable item) items

abbrev pub InEntries : List (NameText × Node Value) → Node Value → Type 0
InEntries entries variable = Any (λ entry. VariableIn variable entry.1) entries

-- at a selection of the set, at any depth, spreads not followed; at the selection itself, or at one below it
abbrev pub SetHasVariable : SelectionSet → Node Value → Type 0
SetHasVariable = SetHas VariableAtSelection

abbrev pub SelectionHasVariable : Selection → Node Value → Type 0
SelectionHasVariable = SelectionHas VariableAtSelection

-- in the definition of the fragment of this name: in its directives or its selections
abbrev pub InFragmentNamed : Fragments → NameText → Node Value → Type 0
InFragmentNamed fragments name variable =
    (d : Node Fragment) × (fragments name ≡ Some d) × (VariableInDirectives d.value.value.directives.items variable ⊎ SetHasVariable d.value.value.selection_set variable)

-- in one of those of these names
abbrev pub InFragments : Fragments → List NameText → Node Value → Type 0
InFragments fragments names variable = Any (λ name. InFragmentNamed fragments name variable) names

-- the list has exactly the variables in the scope of the operation
abbrev pub AreVariablesInScope : Fragments → Operation → List (Node Value) → Type 0
AreVariablesInScope fragments o variables = (v : Node Value) → Contains variables v ↔ VariableInScope fragments o v
