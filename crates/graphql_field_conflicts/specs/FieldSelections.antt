-- Fields of the code, in the words of the definitions on merging.
use Rattle.std.specs.Prelude.{List, Vec, map}
use Rattle.std.specs.declared.alloc.Global.{Global}
use Rattle.graphql_specification.specs.Merging as merging
use Rattle.graphql_field_conflicts.specs.declared.field_selections.FieldSelection.{FieldSelection}

-- the field, with the name of the type of its set
abbrev pub selection_of : FieldSelection → merging.FieldSelection
selection_of x = record { parent = x.parent_type.now; field = x.field.now }

-- the same of each of a list
abbrev pub listed : List FieldSelection → List merging.FieldSelection
listed fields = map selection_of fields

-- the same of each list
abbrev pub lists_of : List (Vec FieldSelection Global) → List (List merging.FieldSelection)
lists_of lists = map (λ fields. listed fields.items) lists
