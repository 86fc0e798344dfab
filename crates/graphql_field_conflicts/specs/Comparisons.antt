-- What two values, shapes, and lists of arguments have in common, part by part, for the contracts of the
-- comparisons.
use Rattle.std.specs.Prelude.{◌≡◌, ◌∷◌, ◌++◌, ℕ, List, None, Some, All, IsSome, find, length, slice_get}
use Rattle.graphql_nodes.specs.Names.{DifferentNames, NameText, SameName, same_name}
use Rattle.graphql_documents.specs.Directives.{argument_named}
use Rattle.graphql_documents.specs.Values.{SameValue, entry_named}
use Rattle.graphql_documents.specs.declared.documents.directives.Argument.{Argument}
use Rattle.graphql_documents.specs.declared.documents.executables.Field.{Field}
use Rattle.graphql_field_conflicts.specs.declared.comparisons.arguments.FieldConflict.{FieldConflict}
use Rattle.graphql_field_conflicts.specs.declared.comparisons.arguments.FieldConflict.TheVariants.{Names, FirstAlone, SecondAlone, Both}
use Rattle.graphql_nodes.specs.declared.nodes.Node.{Node}
use Rattle.graphql_documents.specs.declared.documents.values.Value.{Value}

-- the lists are as long, and the same item by item
abbrev pub SameItems : List (Node Value) → List (Node Value) → Type 0
SameItems a b =
    (length a ≡ length b) ×
    ((i : ℕ) (x y : Node Value) → slice_get a i ≡ Some x → slice_get b i ≡ Some y → SameValue x.value.value y.value.value)

-- the first entry under the name has the same value
abbrev pub HasEntry : List (NameText × Node Value) → NameText → Node Value → Type 0
HasEntry entries name x =
    (y : Node Value) × (entry_named name entries ≡ Some y) × SameValue x.value.value y.value.value

-- under each key of the first list the first entry has the value of that in the second
abbrev pub StandIn : List (NameText × Node Value) → List (NameText × Node Value) → Type 0
StandIn entries others =
    (name : NameText) (entry : NameText × Node Value) → find (λ entry. same_name entry.0 name) entries ≡ Some entry → HasEntry others name entry.1

-- each key of the second list is in the first
abbrev pub HasKeysOf : List (NameText × Node Value) → List (NameText × Node Value) → Type 0
HasKeysOf entries others = (name : NameText) → IsSome (entry_named name others) → IsSome (entry_named name entries)

-- the same keys, and under each first entries of one value
abbrev pub SameEntries : List (NameText × Node Value) → List (NameText × Node Value) → Type 0
SameEntries a b = HasKeysOf a b × StandIn a b

-- the first argument of the name has the same value
abbrev pub HasArgument : List (Node Argument) → NameText → Node Argument → Type 0
HasArgument others name x =
    (y : Node Argument) × (argument_named name others ≡ Some y) × SameValue x.value.value.value.value.value y.value.value.value.value.value

-- under each name the first of the arguments has the value of that among the others
abbrev pub StandAmong : List (Node Argument) → List (Node Argument) → Type 0
StandAmong arguments others = (name : NameText) (x : Node Argument) → argument_named name arguments ≡ Some x → HasArgument others name x

-- each of the arguments has its name among the others
abbrev pub AreNamedAmong : List (Node Argument) → List (Node Argument) → Type 0
AreNamedAmong arguments others = All (λ x. IsSome (argument_named x.value.value.name others)) arguments

-- the argument is the first of its name, and this holds of those before it
pub record IsReachable (Holds : List (Node Argument) → Type 0) (arguments : List (Node Argument)) (x : Node Argument) : Type 0 where
  pub before : List (Node Argument)
  pub after : List (Node Argument)
  pub stands : arguments ≡ before ++ x ∷ after
  pub holds : Holds before
  pub first : argument_named x.value.value.name arguments ≡ Some x

-- the conflict names this argument, and the others lack it or have another value
abbrev pub ArgumentConflicts : List (Node Argument) → Node Argument → FieldConflict → Type 0
ArgumentConflicts others x (FirstAlone y) = (y.now ≡ x) × (argument_named x.value.value.name others ≡ None)
ArgumentConflicts others x (Both y z) =
    (y.now ≡ x) × (argument_named x.value.value.name others ≡ Some z.now) ×
    ¬ SameValue x.value.value.value.value.value z.now.value.value.value.value.value
ArgumentConflicts others x _ = ⊥

-- the same of the first argument of which it is true
pub record ArgumentsConflict (arguments others : List (Node Argument)) (conflict : FieldConflict) : Type 0 where
  pub argument : Node Argument
  pub reachable : IsReachable (λ before. StandAmong before others) arguments argument
  pub conflicts : ArgumentConflicts others argument conflict

-- the two fields disagree on what the conflict names, and on nothing before that
abbrev pub Conflicts : Field → Field → FieldConflict → Type 0
Conflicts a b Names = DifferentNames a.name b.name
Conflicts a b (SecondAlone y) =
    SameName a.name b.name × StandAmong a.arguments.items b.arguments.items ×
    IsReachable (λ before. AreNamedAmong before a.arguments.items) b.arguments.items y.now × (argument_named y.now.value.value.name a.arguments.items ≡ None)
Conflicts a b conflict = SameName a.name b.name × ArgumentsConflict a.arguments.items b.arguments.items conflict
