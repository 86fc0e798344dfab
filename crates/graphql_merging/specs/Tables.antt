-- Which table of contents the numbers of what was examined are of.
use Rattle.std.specs.Prelude.{All, List}
use Rattle.graphql_contents.specs.Contents.{IsTable}
use Rattle.graphql_contents.specs.declared.contents.Content.{Content}
use Rattle.graphql_merging.specs.NumberedFields.{AreNumberedIn}
use Rattle.graphql_merging.specs.declared.examined.Examined.{Examined}
use Rattle.graphql_merging.specs.declared.numbered_fields.NumberedField.{NumberedField}

-- each field of each list that was examined has the number of its contents
abbrev pub IsExaminedIn : List Content → Examined → Type 0
IsExaminedIn contents examined = All (λ list. AreNumberedIn contents list.fields.items) examined.lists.keys

-- these fields and all that were examined have their numbers from one table
pub record AreInOneTable (examined : Examined) (fields : List NumberedField) : Type 0 where
  pub contents : List Content
  pub table : ∥ IsTable contents ∥₁
  pub known : IsExaminedIn contents examined
  pub fields_are : AreNumberedIn contents fields
