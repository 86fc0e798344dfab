-- What `==` answers of two fields, each with the type of its set, and what is hashed of one.
use Rattle.std.specs.Prelude.{ℕ, Bool, List}
use Rattle.graphql_field_conflicts.specs.contracts.field_selections.FieldSelectionHash.TheImpl as hash_impl
use Rattle.graphql_field_conflicts.specs.contracts.field_selections.FieldSelectionPartialEq.TheImpl as equality_impl
use Rattle.graphql_field_conflicts.specs.declared.field_selections.FieldSelection.{FieldSelection}

abbrev pub selection_equality : FieldSelection → FieldSelection → Bool
selection_equality = equality_impl.ghosts.eq

-- the bytes that are written to a hasher, write by write
abbrev pub hash_input : FieldSelection → List (List ℕ)
hash_input = hash_impl.ghosts.hash_input
