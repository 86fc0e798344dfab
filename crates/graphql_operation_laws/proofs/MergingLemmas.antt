-- The fields of an operation merge whatever fragments there are that it does not reach. Specification: 5.3.2 Field Selection Merging.
use Rattle.std.proofs.Common.{List}
use Rattle.graphql_documents.specs.Selections.{Fragments}
use Rattle.graphql_documents.specs.declared.documents.executables.SelectionSet.{SelectionSet}
use Rattle.graphql_documents.specs.declared.documents.schemas.Schema.{Schema}
use Rattle.graphql_specification.specs.Merging.{Chain, FieldInExpandedSet, FieldSelection, FieldsCanMerge, HaveSameResponsePath, chain_of_more, chain_of_one}
use Rattle.graphql_operation_laws.specs.Agreement.{AgreeFrom}
use Rattle.graphql_operation_laws.proofs.AgreementLemmas.{agree_below, included_back}

module _ (a b : Fragments) where
  field_back : (set : SelectionSet) (x : FieldSelection) → AgreeFrom a b set → FieldInExpandedSet b set x → FieldInExpandedSet a set x
  field_back set x agree inside = record {
    inner = inside.inner;
    included = (included_back a b inside.included agree).0;
    stands = inside.stands;
    parent_is = inside.parent_is;
  }

  chain_back : {set : SelectionSet} {xs : List FieldSelection} → Chain b set xs → AgreeFrom a b set → Chain a set xs
  chain_back (chain_of_one {set = set} {x = x} inside) agree = chain_of_one (field_back set x agree inside)
  chain_back (chain_of_more {set = set} {x = x} inside rest) agree =
      let here = field_back set x agree inside in
      chain_of_more here (chain_back rest (agree_below a b x.field (here.inner, here.included, here.stands) agree))

  pub path_back : (set : SelectionSet) (xs ys : List FieldSelection) (x y : FieldSelection) → AgreeFrom a b set → HaveSameResponsePath b set xs ys x y →
      HaveSameResponsePath a set xs ys x y
  path_back set xs ys x y agree h = record { first = chain_back h.first agree; second = chain_back h.second agree; keys = h.keys }

  pub fields_can_merge : (schema : Schema) (set : SelectionSet) → AgreeFrom a b set → FieldsCanMerge schema a set → FieldsCanMerge schema b set
  fields_can_merge schema set agree h = record {
    shapes = λ xs ys x y path. h.shapes xs ys x y (path_back set xs ys x y agree path);
    fields = λ xs ys x y path overlap. h.fields xs ys x y (path_back set xs ys x y agree path) overlap;
  }
