-- The root of a subscription holds whatever fragments there are that it does not reach. Specification: 5.2.3.1 Single Root Field.
use Rattle.std.proofs.Common.{sym, subst}
use Rattle.graphql_nodes.specs.Names.{NameText}
use Rattle.graphql_documents.specs.Selections.{Fragments, Reachable, includes_inline_fragment, includes_itself, reachable_inside}
use Rattle.graphql_documents.specs.declared.documents.executables.Fragment.{Fragment}
use Rattle.graphql_documents.specs.declared.documents.executables.Selection.TheVariants as kind
use Rattle.graphql_documents.specs.declared.documents.executables.SelectionSet.{SelectionSet}
use Rattle.graphql_documents.specs.declared.documents.schemas.Schema.{Schema}
use Rattle.graphql_specification.specs.CollectFields.{CollectedFrom, collected_here, collected_in_inline_fragment, collected_in_spread}
use Rattle.graphql_specification.specs.Merging.{FieldSelection}
use Rattle.graphql_document_rules.specs.SingleRootField.{SubscriptionRootHolds}
use Rattle.graphql_operation_laws.specs.Agreement.{AgreeFrom}
use Rattle.graphql_operation_laws.proofs.AgreementLemmas.{agree_in_spread, agree_within, found_back, inside_back}

module _ (a b : Fragments) where
  pub collected_back : {schema : Schema} {object : NameText} {set : SelectionSet} {x : FieldSelection} → CollectedFrom schema b object set x → AgreeFrom a b set →
      CollectedFrom schema a object set x
  collected_back (collected_here {set = set} {x = x} applies stands is) agree = collected_here {set = set} {x = x} applies stands is
  collected_back (collected_in_inline_fragment {i = i} applies stands condition rest) agree =
      collected_in_inline_fragment {i = i} applies stands condition (collected_back rest (agree_within a b (includes_inline_fragment {i = i} stands includes_itself) agree))
  collected_back {schema} {object} (collected_in_spread {set = set} {x = x} {p = p} {d = e} applies stands defined rest) agree =
      let reached : Reachable a set (kind.FragmentSpread p) = reachable_inside (set, includes_itself, stands) in
      let found = found_back a b p e reached agree defined in
      let further = subst (λ (v : Fragment). AgreeFrom a b v.selection_set) (sym found.2.same_value) (agree_in_spread a b p found.0 reached found.1 agree) in
      collected_in_spread {p = p} {d = found.0} applies stands found.1
      (subst (λ (v : Fragment). CollectedFrom schema a object v.selection_set x) found.2.same_value (collected_back rest further))

  pub root_holds : (schema : Schema) (set : SelectionSet) → AgreeFrom a b set → SubscriptionRootHolds schema a set → SubscriptionRootHolds schema b set
  root_holds schema set agree h = record {
    no_introspection = λ f inside. h.no_introspection f (inside_back a b inside agree);
    no_condition = λ s inside. h.no_condition s (inside_back a b inside agree);
    one_response_key = λ x y first second. h.one_response_key x y (collected_back first agree) (collected_back second agree);
  }
