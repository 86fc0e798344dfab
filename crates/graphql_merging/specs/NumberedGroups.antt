-- Fields with the numbers of their contents under names, in the words of the grouping.
use Rattle.std.specs.Prelude.{All, List, Vec, map}
use Rattle.std.specs.Borrow.{Bor}
use Rattle.std.specs.declared.alloc.Global.{Global}
use Rattle.graphql_contents.specs.declared.contents.Content.{Content}
use Rattle.graphql_nodes.specs.Names.{NameText}
use Rattle.graphql_merging.specs.Groups.{NamedFields}
use Rattle.graphql_merging.specs.NumberedFields.{AreNumberedIn, listed}
use Rattle.graphql_merging.specs.declared.numbered_fields.NumberedField.{NumberedField}

-- the entries of a map of lists of fields, as names with fields
abbrev pub named_fields : List (Bor NameText × Vec NumberedField Global) → NamedFields
named_fields entries = map (λ entry. (entry.0.now, listed entry.1.items)) entries

-- each field under each name has the number of its contents
abbrev pub AreEntriesNumbered : List Content → List (Bor NameText × Vec NumberedField Global) → Type 0
AreEntriesNumbered contents entries = All (λ entry. AreNumberedIn contents entry.1.items) entries
