-- Fields with the numbers of their contents, in the words of the definitions on merging.
use Rattle.std.specs.Prelude.{List, All, Vec, map}
use Rattle.std.specs.declared.alloc.Global.{Global}
use Rattle.graphql_contents.specs.Contents.{HasNumber}
use Rattle.graphql_contents.specs.declared.contents.Content.{Content}
use Rattle.graphql_documents.specs.declared.documents.executables.Selection.TheVariants as kind
use Rattle.graphql_specification.specs.Merging as merging
use Rattle.graphql_merging.specs.declared.numbered_fields.NumberedField.{NumberedField}

-- the field, with the name of the type of its set
abbrev pub selection_of : NumberedField → merging.FieldSelection
selection_of x = record { parent = x.parent_type.now; field = x.field.now }

-- the same of each of a list
abbrev pub listed : List NumberedField → List merging.FieldSelection
listed fields = map selection_of fields

-- the same of each list
abbrev pub lists_of : List (Vec NumberedField Global) → List (List merging.FieldSelection)
lists_of lists = map (λ fields. listed fields.items) lists

-- the field has the number of its contents
abbrev pub IsNumberedIn : List Content → NumberedField → Type 0
IsNumberedIn contents x = HasNumber contents (kind.Field x.field.now) x.content

-- each of a list has
abbrev pub AreNumberedIn : List Content → List NumberedField → Type 0
AreNumberedIn contents fields = All (IsNumberedIn contents) fields

-- each of each list has
abbrev pub AreGroupsNumbered : List Content → List (Vec NumberedField Global) → Type 0
AreGroupsNumbered contents groups = All (λ group. AreNumberedIn contents group.items) groups
