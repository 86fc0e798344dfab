-- A reader of executable definitions that may go deeper answers the same, but where the other went too deep.
use Rattle.std.proofs.Common.{ℕ, zero, suc, true, false, Option, None, Some}
use Rattle.graphql_nodes.specs.Names.{NameText}
use Rattle.graphql_tokens.specs.declared.token.TokenKind.TheVariants.{LeftBrace}
use Rattle.graphql_trees.specs.declared.executable.SelectionSet.{SelectionSet}
use Rattle.graphql_syntax.specs.Reading.{Reader}
use Rattle.graphql_syntax.proofs.Deepening.{Grows, grows_itself, grows_sequence, grows_choose, grows_starting, grows_some, grows_from_nothing_starting, type_grows, default_value_grows, arguments_grow, directives_grow}
use Rattle.graphql_executable_syntax.specs.SelectionReaders.{fragment_spread_behind, inline_fragment_behind, spread_with, perhaps_set_with, field_behind, field_with, selection_with, selection_set_with, selection_set_at}
use Rattle.graphql_executable_syntax.specs.OperationReaders.{variable_definition_at, variable_definitions_in, variable_definitions_at, shorthand_at, full_operation_at, operation_definition_at}
use Rattle.graphql_executable_syntax.specs.FragmentReaders.{fragment_definition_at}

inline_fragment_grows : (depth : ℕ) (set more : Reader SelectionSet) → Grows set more → (start : ℕ) (type_condition : Option NameText) →
    Grows (inline_fragment_behind depth set start type_condition) (inline_fragment_behind (suc depth) more start type_condition)
unfolding inline_fragment_behind
inline_fragment_grows depth set more f start type_condition =
    grows_sequence _ _ _ _ (directives_grow false depth) (λ directives. grows_sequence _ _ _ _ f (λ selection_set. grows_itself _))

spread_grows : (depth : ℕ) (set more : Reader SelectionSet) → Grows set more → Grows (spread_with depth set) (spread_with (suc depth) more)
unfolding spread_with fragment_spread_behind
spread_grows depth set more f =
    grows_starting _ _ (λ start. grows_sequence _ _ _ _ (grows_itself _) (λ dots.
    grows_choose _ _ _ _ _
    (grows_sequence _ _ _ _ (grows_itself _) (λ type_condition. inline_fragment_grows depth set more f start (Some type_condition)))
    (grows_choose _ _ _ _ _
    (grows_sequence _ _ _ _ (grows_itself _) (λ name. grows_sequence _ _ _ _ (directives_grow false depth) (λ directives. grows_itself _)))
    (inline_fragment_grows depth set more f start None))))

perhaps_set_grows : (set more : Reader SelectionSet) → Grows set more → Grows (perhaps_set_with set) (perhaps_set_with more)
unfolding perhaps_set_with
perhaps_set_grows set more f = grows_choose _ _ _ _ _ (grows_sequence _ _ _ _ f (λ x. grows_itself _)) (grows_itself _)

field_behind_grows : (depth : ℕ) (set more : Reader SelectionSet) → Grows set more → (start : ℕ) (alias : Option NameText) (name : NameText) →
    Grows (field_behind depth set start alias name) (field_behind (suc depth) more start alias name)
unfolding field_behind
field_behind_grows depth set more f start alias name =
    grows_sequence _ _ _ _ (arguments_grow false depth) (λ arguments. grows_sequence _ _ _ _ (directives_grow false depth) (λ directives.
    grows_sequence _ _ _ _ (perhaps_set_grows set more f) (λ selection_set. grows_itself _)))

field_grows : (depth : ℕ) (set more : Reader SelectionSet) → Grows set more → Grows (field_with depth set) (field_with (suc depth) more)
unfolding field_with
field_grows depth set more f =
    grows_starting _ _ (λ start. grows_sequence _ _ _ _ (grows_itself _) (λ first.
    grows_choose _ _ _ _ _
    (grows_sequence _ _ _ _ (grows_itself _) (λ colon. grows_sequence _ _ _ _ (grows_itself _) (λ name. field_behind_grows depth set more f start (Some first) name)))
    (field_behind_grows depth set more f start None first)))

selection_grows : (depth : ℕ) (set more : Reader SelectionSet) → Grows set more → Grows (selection_with depth set) (selection_with (suc depth) more)
unfolding selection_with
selection_grows depth set more f =
    grows_choose _ _ _ _ _ (spread_grows depth set more f) (grows_choose _ _ _ _ _ (field_grows depth set more f) (grows_itself _))

pub selection_set_grows : (depth : ℕ) → Grows (selection_set_at depth) (selection_set_at (suc depth))
unfolding selection_set_at selection_set_with
selection_set_grows zero = grows_from_nothing_starting LeftBrace _
selection_set_grows (suc depth) =
    grows_starting _ _ (λ start. grows_sequence _ _ _ _ (grows_itself _) (λ opening.
    grows_sequence _ _ _ _ (grows_some _ _ _ (selection_grows depth _ _ (selection_set_grows depth))) (λ selections. grows_itself _)))

-- variables and operations
variable_definition_grows : (depth : ℕ) → Grows (variable_definition_at depth) (variable_definition_at (suc depth))
unfolding variable_definition_at
variable_definition_grows depth =
    grows_starting _ _ (λ start. grows_sequence _ _ _ _ (grows_itself _) (λ variable. grows_sequence _ _ _ _ (grows_itself _) (λ colon.
    grows_sequence _ _ _ _ (type_grows depth) (λ type_reference. grows_sequence _ _ _ _ (default_value_grows depth) (λ default_value.
    grows_sequence _ _ _ _ (directives_grow true depth) (λ directives. grows_itself _))))))

variable_definitions_grow : (depth : ℕ) → Grows (variable_definitions_at depth) (variable_definitions_at (suc depth))
unfolding variable_definitions_at variable_definitions_in
variable_definitions_grow depth =
    grows_choose _ _ _ _ _
    (grows_sequence _ _ _ _ (grows_itself _) (λ opening. grows_sequence _ _ _ _ (grows_some _ _ _ (variable_definition_grows depth)) (λ found. grows_itself _)))
    (grows_itself _)

pub operation_grows : (depth : ℕ) → Grows (operation_definition_at depth) (operation_definition_at (suc depth))
unfolding operation_definition_at shorthand_at full_operation_at
operation_grows depth =
    grows_choose _ _ _ _ _
    (grows_starting _ _ (λ start. grows_sequence _ _ _ _ (selection_set_grows depth) (λ selection_set. grows_itself _)))
    (grows_starting _ _ (λ start. grows_sequence _ _ _ _ (grows_itself _) (λ operation_type. grows_sequence _ _ _ _ (grows_itself _) (λ name.
    grows_sequence _ _ _ _ (variable_definitions_grow depth) (λ variables. grows_sequence _ _ _ _ (directives_grow false depth) (λ directives.
    grows_sequence _ _ _ _ (selection_set_grows depth) (λ selection_set. grows_itself _)))))))

pub fragment_grows : (depth : ℕ) → Grows (fragment_definition_at depth) (fragment_definition_at (suc depth))
unfolding fragment_definition_at
fragment_grows depth =
    grows_starting _ _ (λ start. grows_sequence _ _ _ _ (grows_itself _) (λ word. grows_sequence _ _ _ _ (grows_itself _) (λ name.
    grows_sequence _ _ _ _ (grows_itself _) (λ type_condition. grows_sequence _ _ _ _ (directives_grow false depth) (λ directives.
    grows_sequence _ _ _ _ (selection_set_grows depth) (λ selection_set. grows_itself _))))))
