-- Arguments that are the same stay the same in texts that are the same. Specification: 5.3.2 Field Selection Merging.
use Rattle.std.proofs.Common.{◌∙◌, List, refl, sym, subst}
use Rattle.graphql_nodes.specs.Names.{NameText, SameName}
use Rattle.graphql_nodes.specs.declared.nodes.Node.{Node}
use Rattle.graphql_nodes.proofs.NameLemmas.{same_name_itself}
use Rattle.graphql_documents.proofs.ValueContentLemmas.{equality_of_values}
use Rattle.graphql_documents.specs.Directives.{argument_named}
use Rattle.graphql_documents.specs.Values.{AreCopies, AreEntryCopies, IsCopy, copy_of_boolean, copy_of_enum, copy_of_float, copy_of_int, copy_of_list, copy_of_null, copy_of_object, copy_of_string, copy_of_variable, more_entry_copies, more_item_copies, no_entry_copies, no_item_copies}
use Rattle.graphql_documents.specs.Values as values
use Rattle.graphql_documents.specs.declared.documents.directives.Argument.{Argument}
use Rattle.graphql_documents.specs.declared.documents.values.Value.{Value}
use Rattle.graphql_laws.proofs.ValueContentsLaws.{equal_values_are_same}
use Rattle.graphql_laws.proofs.ValueLaws.{same_value_back, same_value_then}
use Rattle.graphql_specification.specs.Merging.{SameArguments}
use Rattle.graphql_document_building.specs.SameLeaves as same
use Rattle.graphql_document_building.specs.SameLeaves.{SameArgument, SameContents, SameFields, SameItems, next_field, next_item, no_fields, no_items, same_boolean, same_enum, same_float, same_int, same_list, same_null, same_object, same_string, same_variable}
use Rattle.graphql_sameness_laws.proofs.LeafLemmas.{argument_back}
use Rattle.graphql_sameness_laws.proofs.NamedLemmas.{argument_alike}
use Rattle.graphql_sameness_laws.proofs.ZipLemmas.{other_side, some_alike, zip_back}

-- ==== values

mutual
  copy : {v w : Value} → SameContents v w → IsCopy v w
  copy same_null = copy_of_null
  copy (same_enum {name}) = copy_of_enum (same_name_itself name)
  copy (same_variable {name}) = copy_of_variable (same_name_itself name)
  copy (same_string a b e) = copy_of_string a b e
  copy same_float = copy_of_float refl
  copy same_int = copy_of_int refl
  copy same_boolean = copy_of_boolean
  copy (same_list xs ys items) = copy_of_list xs ys (copies items)
  copy (same_object xs ys entries) = copy_of_object xs ys (entry_copies entries)

  copies : {xs ys : List (Node Value)} → SameItems xs ys → AreCopies xs ys
  copies no_items = no_item_copies
  copies (next_item first at rest) = more_item_copies (copy first) (copies rest)

  entry_copies : {xs ys : List (NameText × Node Value)} → SameFields xs ys → AreEntryCopies xs ys
  entry_copies no_fields = no_entry_copies
  entry_copies (next_field {x = x} {y = y} named first at rest) =
      more_entry_copies (subst (SameName x.0) named (same_name_itself x.0)) (copy first) (entry_copies rest)

as_compared : (v w : Value) → SameContents v w → values.SameValue v w
as_compared v w contents = equal_values_are_same v w ((equality_of_values v w).1 (copy contents))

compared_too : (v w x y : Value) → SameContents v x → SameContents w y → values.SameValue v w → values.SameValue x y
compared_too v w x y left right h =
    same_value_then x v y (same_value_back v x (as_compared v x left)) (same_value_then v w y h (as_compared w y right))

-- ==== arguments

pub arguments_too : (xs ys us vs : List (Node Argument)) → same.SameArguments xs us → same.SameArguments ys vs → SameArguments xs ys → SameArguments us vs
arguments_too xs ys us vs left right h = record {
  names = λ name. sym (some_alike SameArgument _ _ (argument_alike name xs us left)) ∙ h.names name ∙ some_alike SameArgument _ _ (argument_alike name ys vs right);
  values = λ name u v first second.
      let x = other_side SameArgument (argument_named name us) (argument_named name xs) u
      (argument_alike name us xs (zip_back SameArgument SameArgument argument_back xs us left)) first in
      let y = other_side SameArgument (argument_named name vs) (argument_named name ys) v
      (argument_alike name vs ys (zip_back SameArgument SameArgument argument_back ys vs right)) second in
      compared_too _ _ _ _ (argument_back u x.0 x.2).value.contents (argument_back v y.0 y.2).value.contents (h.values name x.0 y.0 x.1 y.1);
}
