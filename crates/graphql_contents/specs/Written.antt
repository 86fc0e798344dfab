-- What is written in selections, but for the selections in their sets.
use Rattle.std.specs.Prelude.{◌≡◌}
use Rattle.graphql_documents.specs.declared.documents.executables.Field.{Field}
use Rattle.graphql_documents.specs.declared.documents.executables.InlineFragment.{InlineFragment}
use Rattle.graphql_documents.specs.declared.documents.executables.Selection.{Selection, out-Selection}
use Rattle.graphql_documents.specs.declared.documents.executables.SelectionSet.{SelectionSet}
use Rattle.graphql_documents.specs.declared.documents.executables.Selection.TheOpen as Open
use Rattle.graphql_contents.specs.declared.written.Written.{Written}
use Rattle.graphql_contents.specs.declared.written.Written.TheVariants as written
use Rattle.graphql_contents.specs.declared.written.WrittenField.{WrittenField}
use Rattle.graphql_contents.specs.declared.written.WrittenInlineFragment.{WrittenInlineFragment}

-- what is written in a field
pub record IsWrittenInField (f : Field) (w : WrittenField) : Type 0 where
  pub alias : w.alias.now ≡ f.alias
  pub name : w.name.now ≡ f.name
  pub arguments : w.arguments.now ≡ f.arguments
  pub directives : w.directives.now ≡ f.directives
  pub ty : w.ty.now ≡ f.selection_set.ty
  pub definition : w.definition.now ≡ f.definition

-- what is written in an inline fragment
pub record IsWrittenInInline (i : InlineFragment) (w : WrittenInlineFragment) : Type 0 where
  pub type_condition : w.type_condition.now ≡ i.type_condition
  pub directives : w.directives.now ≡ i.directives
  pub ty : w.ty.now ≡ i.selection_set.ty

-- what is written in a selection as it opens
abbrev pub IsWrittenInOpened : Open.Selection-F Selection Field InlineFragment SelectionSet → Written → Type 0
IsWrittenInOpened (Open.Field f) (written.Field w) = IsWrittenInField f.value.value w
IsWrittenInOpened (Open.FragmentSpread p) (written.FragmentSpread w) = w.now ≡ p
IsWrittenInOpened (Open.InlineFragment i) (written.InlineFragment w) = IsWrittenInInline i.value.value w
IsWrittenInOpened _ _ = ⊥

-- what is written in a selection
abbrev pub IsWrittenIn : Selection → Written → Type 0
IsWrittenIn s w = IsWrittenInOpened (out-Selection s) w
