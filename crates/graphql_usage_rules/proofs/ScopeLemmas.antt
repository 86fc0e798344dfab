-- The usages in the scope of an operation: in its directives, its own selections, and the fragments that it reaches.
use Rattle.std.proofs.Common.{◌≡◌, ◌↔◌, List, Some, refl, subst}
use Rattle.std.specs.Prelude.{IsSome}
use Rattle.std.proofs.lemmas.List.Elements.{All-contains}
use mathlib.Core.Logic.{inl, inr}
use Rattle.graphql_nodes.specs.Names.{NameText}
use Rattle.graphql_nodes.specs.declared.nodes.Node.{Node}
use Rattle.graphql_documents.specs.Selections.{Reachable, fragments_of}
use Rattle.graphql_documents.specs.declared.documents.executables.ExecutableDocument.{ExecutableDocument}
use Rattle.graphql_documents.specs.declared.documents.executables.Fragment.{Fragment}
use Rattle.graphql_documents.specs.declared.documents.executables.FragmentSpread.{FragmentSpread}
use Rattle.graphql_documents.specs.declared.documents.executables.Operation.{Operation}
use Rattle.graphql_documents.specs.declared.documents.executables.Selection.TheVariants as kind
use Rattle.graphql_documents.specs.declared.documents.schemas.Schema.{Schema}
use Rattle.graphql_variables.proofs.UseLemmas.{any_has, has_any}
use Rattle.graphql_usage_rules.specs.Parts.{FragmentUses, UsedInFragment, UsedInFragments, UsedInParts}
use Rattle.graphql_reach.specs.Reached.{IsReachedFrom, IsSpreadFrom, ReachesNames}
use Rattle.graphql_usage_rules.specs.Usages.{Usage, UsedInScope, at_selection, in_fragment_definition, in_operation}
use Rattle.graphql_reach.proofs.ReachedLemmas.{reach_spread, reach_written, split_reached, stands_for}

module _ (schema : Schema) (document : ExecutableDocument) (o : Operation) (names : List NameText) where
  module _ (reaches : ReachesNames (fragments_of document) o.selection_set names) where
    in_fragment : (p : Node FragmentSpread) (d : Node Fragment) (u : Usage) → Reachable (fragments_of document) o.selection_set (kind.FragmentSpread p) →
        fragments_of document p.value.value.fragment_name ≡ Some d → FragmentUses schema d.value.value u → UsedInFragments schema (fragments_of document) names u
    in_fragment p d u reached is uses =
        let defined : IsSome (fragments_of document p.value.value.fragment_name) = rw is refl in
        let there = reaches.all p.value.value.fragment_name (p, reached, refl) defined in
        let known = stands_for document names p.value.value.fragment_name d there is in
        has_any (λ name. UsedInFragment schema (fragments_of document) name u) names known.0 known.1 (d, known.2, uses)

    to_parts : (u : Usage) → UsedInScope schema (fragments_of document) o u → UsedInParts schema (fragments_of document) o names u
    to_parts u (in_operation uses) = inl uses
    to_parts u (at_selection s reached uses) = elim (split_reached (fragments_of document) reached) [
      | inl written ↦ inr (inl (s, written, uses))
      | inr far ↦ inr (inr (in_fragment far.p far.d u far.reached far.is (inr (s, far.written, uses))))
    ]
    to_parts u (in_fragment_definition p d reached is uses) = inr (inr (in_fragment p d u reached is (inl uses)))

    from_fragment : (name : NameText) (d : Node Fragment) (u : Usage) → IsSpreadFrom (fragments_of document) o.selection_set name →
        fragments_of document name ≡ Some d → FragmentUses schema d.value.value u → UsedInScope schema (fragments_of document) o u
    from_fragment name d u (p, reached, names_it) is (inl uses) =
        in_fragment_definition p d reached (subst (λ n. fragments_of document n ≡ Some d) names_it is) uses
    from_fragment name d u (p, reached, names_it) is (inr (s, (inner, written, stands), uses)) =
        at_selection s (reach_spread (fragments_of document) p d s reached (subst (λ n. fragments_of document n ≡ Some d) names_it is)
        (reach_written (fragments_of document) s written stands)) uses

    from_parts : (u : Usage) → UsedInParts schema (fragments_of document) o names u → UsedInScope schema (fragments_of document) o u
    from_parts u (inl uses) = in_operation uses
    from_parts u (inr (inl (s, (inner, written, stands), uses))) = at_selection s (reach_written (fragments_of document) s written stands) uses
    from_parts u (inr (inr any)) =
        let h = any_has (λ name. UsedInFragment schema (fragments_of document) name u) names any in
        from_fragment h.0 h.2.0 u (All-contains (IsReachedFrom (fragments_of document) o.selection_set) names h.0 reaches.each h.1).0 h.2.1 h.2.2

    pub scope_words : (u : Usage) → UsedInParts schema (fragments_of document) o names u ↔ UsedInScope schema (fragments_of document) o u
    scope_words u = (from_parts u, to_parts u)
