-- Operations that are the same reach as many bytes. Specification: 2.3 Operations, 2.8 Fragments.
use Rattle.std.proofs.Common.{◌∙◌, ◌+◌, ℕ, List, [], ◌∷◌, sym, ap, subst}
use Rattle.std.specs.List.{AllZip}
use Rattle.graphql_nodes.specs.Names.{NameText, SameName}
use Rattle.graphql_nodes.specs.declared.nodes.Node.{Node}
use Rattle.graphql_documents.specs.Executables.{operations_of}
use Rattle.graphql_documents.specs.Selections.{Fragments, Reachable, fragments_of}
use Rattle.graphql_documents.specs.declared.documents.executables.ExecutableDocument.{ExecutableDocument}
use Rattle.graphql_documents.specs.declared.documents.executables.Fragment.{Fragment}
use Rattle.graphql_documents.specs.declared.documents.executables.Operation.{Operation}
use Rattle.graphql_documents.specs.declared.documents.executables.SelectionSet.{SelectionSet}
use Rattle.graphql_document_building.specs.SameDocuments.{SameUnderName}
use Rattle.graphql_kept_rules.specs.SameTexts.{SameFragmentText, SameOperationText, SameText}
use Rattle.graphql_reach.specs.Reach.{FragmentsReached, Reaches, ReachesWithin, bytes_at, left_out, no_more, no_operation, one_more, reached_one}
use Rattle.graphql_reach.specs.Reached.{IsSpreadFrom}
use Rattle.graphql_kept_rules.proofs.TextReachLemmas.{reachable_too}
use Rattle.graphql_kept_rules.proofs.TextSelectionLemmas.{SameFragments, SameSet, as_spread, document_back, fragments_alike, operation_set, operations_alike}

module _ (before after : Fragments) (alike : SameFragments before after) where
  spread_from_too : (s t : SelectionSet) (name : NameText) → SameSet s t → IsSpreadFrom before s name → IsSpreadFrom after t name
  spread_from_too s t name same (p, reached, named) =
      let found = reachable_too before after alike reached t same in
      let q = as_spread p found.0 found.2 in
      (q.0, subst (Reachable after t) q.2 found.1, named ∙ q.1.name)

  fragments_reached_too : {s : SelectionSet} {xs : List (NameText × Node Fragment)} {n : ℕ} → FragmentsReached before s xs n → (t : SelectionSet) → SameSet s t →
      (ys : List (NameText × Node Fragment)) → AllZip (SameUnderName SameFragmentText) xs ys → FragmentsReached after t ys n
  fragments_reached_too no_more t same [] zip = no_more
  fragments_reached_too no_more t same (y ∷ ys) zip = absurd zip
  fragments_reached_too (reached_one name spread named rest) t same [] zip = absurd zip
  fragments_reached_too {s = s} (reached_one {e = x} {n = n} name spread named rest) t same (y ∷ ys) zip =
      subst (FragmentsReached after t (y ∷ ys)) (ap (λ place. bytes_at place + n) (sym zip.0.1.location))
      (reached_one name (spread_from_too s t name same spread) (subst (SameName name) zip.0.0 named) (fragments_reached_too rest t same ys zip.1))
  fragments_reached_too (left_out rest) t same [] zip = absurd zip
  fragments_reached_too (left_out rest) t same (y ∷ ys) zip = left_out (fragments_reached_too rest t same ys zip.1)

module _ (d e : ExecutableDocument) (same : SameText d e) where
  reaches_too : {xs : List (Node Operation)} {n : ℕ} → Reaches d xs n → (ys : List (Node Operation)) → AllZip SameOperationText xs ys → Reaches e ys n
  reaches_too no_operation [] zip = no_operation
  reaches_too no_operation (y ∷ ys) zip = absurd zip
  reaches_too (one_more reached rest) [] zip = absurd zip
  reaches_too (one_more {o = x} {m = m} {n = n} reached rest) (y ∷ ys) zip =
      subst (Reaches e (y ∷ ys)) (ap (λ place. (bytes_at place + m) + n) (sym zip.0.location))
      (one_more (fragments_reached_too (fragments_of d) (fragments_of e) (fragments_alike d e same) reached y.value.value.selection_set (operation_set x y zip.0)
      e.fragments.entries same.fragments) (reaches_too rest ys zip.1))

pub reaches_within_too : (most : ℕ) (d e : ExecutableDocument) → SameText d e → ReachesWithin most d → ReachesWithin most e
reaches_within_too most d e same h n reaches =
    let back = document_back d e same in
    h n (reaches_too e d back reaches (operations_of d) (operations_alike e d back))
