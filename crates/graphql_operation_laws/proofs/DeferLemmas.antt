-- `@defer` in an operation holds whatever fragments there are that it does not reach. Specification: the incremental delivery proposal.
use Rattle.std.proofs.Common.{sym, subst}
use Rattle.graphql_documents.specs.Selections.{Fragments, Reachable, includes_inline_fragment, includes_itself, reachable_inside}
use Rattle.graphql_documents.specs.declared.documents.executables.Fragment.{Fragment}
use Rattle.graphql_documents.specs.declared.documents.executables.Operation.{Operation}
use Rattle.graphql_documents.specs.declared.documents.executables.Selection.{Selection}
use Rattle.graphql_documents.specs.declared.documents.executables.Selection.TheVariants as kind
use Rattle.graphql_documents.specs.declared.documents.executables.SelectionSet.{SelectionSet}
use Rattle.graphql_specification.specs.Defer.{Open, OperationDeferHolds, open_here, open_in_field, open_in_inline_fragment, open_in_spread}
use Rattle.graphql_operation_laws.specs.Agreement.{AgreeFrom}
use Rattle.graphql_operation_laws.proofs.AgreementLemmas.{agree_below, agree_in_spread, agree_within, found_back, inside_back}

module _ (a b : Fragments) where
  pub open_back : {set : SelectionSet} {s : Selection} → Open b set s → AgreeFrom a b set → Open a set s
  open_back (open_here stands kept) agree = open_here stands kept
  open_back (open_in_field {set = set} {f = f} stands kept rest) agree =
      open_in_field {f = f} stands kept (open_back rest (agree_below a b f (set, includes_itself, stands) agree))
  open_back (open_in_inline_fragment {i = i} stands kept rest) agree =
      open_in_inline_fragment {i = i} stands kept (open_back rest (agree_within a b (includes_inline_fragment {i = i} stands includes_itself) agree))
  open_back (open_in_spread {set = set} {s = s} {p = p} {d = e} stands kept defined rest) agree =
      let reached : Reachable a set (kind.FragmentSpread p) = reachable_inside (set, includes_itself, stands) in
      let found = found_back a b p e reached agree defined in
      let further = subst (λ (v : Fragment). AgreeFrom a b v.selection_set) (sym found.2.same_value) (agree_in_spread a b p found.0 reached found.1 agree) in
      open_in_spread {p = p} {d = found.0} stands kept found.1 (subst (λ (v : Fragment). Open a v.selection_set s) found.2.same_value (open_back rest further))

  pub defer_holds : (o : Operation) → AgreeFrom a b o.selection_set → OperationDeferHolds a o → OperationDeferHolds b o
  defer_holds o agree h = record {
    root = λ not_query. (
      λ i inside. (h.root not_query).0 i (inside_back a b inside agree),
      λ p inside. (h.root not_query).1 p (inside_back a b inside agree),
    );
    conditions = λ is s kept. h.conditions is s (open_back kept agree);
  }
