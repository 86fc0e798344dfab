-- What is found between two lists of changes, and that each change says what is so.
use Rattle.std.specs.Prelude.{Bool, All}
use Rattle.graphql_documents.specs.declared.documents.schemas.Schema.{Schema}
use Rattle.graphql_change_kinds.specs.Breaks.{IsHarmless}
use Rattle.graphql_change_kinds.specs.Changes.{IsTrueOf}
use Rattle.graphql_change_kinds.specs.declared.change_list.ChangeList.{ChangeList}

-- if no change of the later list breaks documents, none of the earlier one does, and what was compared in between is kept; and if each
-- change of the earlier list says what is so of the two schemas, so does each of the later one
pub record Finds (old new : Schema) (before after : ChangeList) (Keeps : Bool → Type 0) : Type 0 where
  pub keeps : (merging : Bool) → All (IsHarmless merging) after.changes.items → All (IsHarmless merging) before.changes.items × Keeps merging
  pub each : All (IsTrueOf old new) before.changes.items → All (IsTrueOf old new) after.changes.items

-- nothing is compared that could break documents
abbrev pub Adds : Schema → Schema → ChangeList → ChangeList → Type 0
Adds old new before after = Finds old new before after (λ merging. Unit {0})
