-- What was read of the arguments of a field with which others are compared.
use Rattle.std.specs.Prelude.{◌≡◌, List, [], ◌∷◌, ◌++◌, cond, is_some, map}
use Rattle.std.specs.Borrow.{Bor}
use Rattle.graphql_documents.specs.Directives.{argument_named}
use Rattle.graphql_documents.specs.declared.documents.directives.Argument.{Argument}
use Rattle.graphql_nodes.specs.declared.nodes.Node.{Node}
use Rattle.graphql_field_conflicts.specs.declared.comparisons.first_field.FirstField.{FirstField}

-- those of the arguments behind these that are the first of their name
abbrev pub firsts_behind : List (Node Argument) → List (Node Argument) → List (Node Argument)
firsts_behind before [] = []
firsts_behind before (x ∷ xs) = cond (is_some (argument_named x.value.value.name before)) [] (x ∷ []) ++ firsts_behind (before ++ x ∷ []) xs

-- these are the arguments that are the first of their name, in order
abbrev pub AreFirst : List (Bor (Node Argument)) → List (Node Argument) → Type 0
AreFirst firsts arguments = map (λ x. x.now) firsts ≡ firsts_behind [] arguments

-- the arguments of the field
abbrev pub arguments_of : FirstField → List (Node Argument)
arguments_of first = first.selection.field.now.value.value.arguments.items

-- the arguments that were read are the beginning of its arguments, and the first ones among them are known
pub record HasRead (first : FirstField) : Type 0 where
  pub further : List (Node Argument)
  pub begins : arguments_of first ≡ first.seen ++ further
  pub distinct : AreFirst first.distinct.items first.seen
