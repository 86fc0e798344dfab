-- Where the numbers of what was examined are from.
use Rattle.std.proofs.Common.{◌≡◌, All, List, subst, sym}
use Rattle.std.proofs.lemmas.List.Elements.{All-weaker}
use Rattle.graphql_contents.specs.Contents.{Grows}
use Rattle.graphql_contents.specs.Documents.{contents_in}
use Rattle.graphql_contents.proofs.TableLemmas.{grown_number}
use Rattle.graphql_documents.specs.declared.documents.executables.Selection.TheVariants as kind
use Rattle.graphql_contents.specs.declared.contents.Content.{Content}
use Rattle.graphql_contents.specs.declared.documents.NumberedDocument.{NumberedDocument}
use Rattle.graphql_merging.specs.NumberedFields.{AreNumberedIn, IsNumberedIn}
use Rattle.graphql_merging.specs.Tables.{AreInOneTable, IsExaminedIn}
use Rattle.graphql_merging.specs.declared.examined.Examined.{Examined}
use Rattle.graphql_merging.specs.declared.numbered_fields.NumberedField.{NumberedField}

-- a list with numbers of a document, and what was examined
pub in_one_table : (numbered : NumberedDocument) (examined : Examined) (fields : List NumberedField) → IsExaminedIn (contents_in numbered) examined →
    AreNumberedIn (contents_in numbered) fields → AreInOneTable examined fields
in_one_table numbered examined fields known own = record { contents = contents_in numbered; table = numbered.contents.table; known = known; fields_are = own }

-- the same lists are examined with the same numbers
pub still_examined : (contents : List Content) (old new : Examined) → new.lists ≡ old.lists → IsExaminedIn contents old → IsExaminedIn contents new
still_examined contents old new same known = subst (λ lists. All (λ list. AreNumberedIn contents list.fields.items) lists.keys) (sym same) known

-- and with more contents the numbers stay
pub grown_examined : (old new : List Content) → Grows old new → (examined : Examined) → IsExaminedIn old examined → IsExaminedIn new examined
grown_examined old new grows examined known =
    All-weaker (λ list. AreNumberedIn old list.fields.items) (λ list. AreNumberedIn new list.fields.items)
    (λ list all. All-weaker (IsNumberedIn old) (IsNumberedIn new) (λ x own. grown_number old new grows (kind.Field x.field.now) x.content own) list.fields.items all) examined.lists.keys known
