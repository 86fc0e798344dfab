-- The names of the entries of an object value that are null, for the contracts of the table that has them.
use Rattle.std.specs.Prelude.{◌≡◌, ◌↔◌, ℕ, List, None}
use Rattle.std.specs.Borrow.{Bor}
use Rattle.std.specs.HashMap.{HashMap}
use Rattle.graphql_documents.specs.declared.documents.values.Value.{Value}
use Rattle.graphql_name_tables.specs.Places.{place_under}
use Rattle.graphql_nodes.specs.Names.{NameText}
use Rattle.graphql_nodes.specs.declared.nodes.Node.{Node}
use Rattle.graphql_specification.specs.Values.{HasNoNullEntry}

-- the table has no place under a name exactly where no entry under it is null
pub record HasNullNames {S : Type 0} (names : HashMap (Bor NameText) ℕ S) (entries : List (NameText × Node Value)) : Type 0 where
  pub look_up : (name : NameText) → (place_under names name ≡ None) ↔ HasNoNullEntry entries name
