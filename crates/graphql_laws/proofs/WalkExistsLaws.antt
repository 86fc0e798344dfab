-- Each set of a document is walked: it has finitely many fragments, and each set finitely many selections.
use Rattle.std.proofs.Common.{◌≡◌, ℕ, zero, suc, ◌<◌, ◌≤◌, Bool, true, false, List, [], ◌∷◌, ◌++◌, Option, Some, None, refl, sym, ◌∙◌, sum_by, arith}
use Rattle.std.specs.Prelude.{IsFalse}
use Rattle.std.specs.List.{list_any}
use Rattle.std.specs.Map.{lookup}
use Rattle.std.proofs.lemmas.List.Sums.{sum_by-cons}
use Rattle.graphql_nodes.specs.Names.{NameText, same_name}
use Rattle.graphql_documents.specs.Selections.{Fragments, fragments_of, selections_of}
use Rattle.graphql_specification.specs.Subscriptions.{WalkedFields, walked_none, walked_field, walked_inline_fragment, walked_known_spread, walked_undefined_spread, walked_spread}
use Rattle.graphql_nodes.specs.declared.nodes.Node.{Node}
use Rattle.graphql_documents.specs.declared.documents.executables.ExecutableDocument.{ExecutableDocument}
use Rattle.graphql_documents.specs.declared.documents.executables.Selection.{Selection}
use Rattle.graphql_documents.specs.declared.documents.executables.Selection.TheVariants as kind
use Rattle.graphql_documents.specs.declared.documents.executables.SelectionSet.{SelectionSet}
use Rattle.graphql_documents.specs.declared.documents.executables.Field.{Field}
use Rattle.graphql_documents.specs.declared.documents.executables.Fragment.{Fragment}
use Rattle.graphql_laws.proofs.VisitedNameLemmas.{Entries, left, left_stays, left_falls}
use Rattle.graphql_laws.proofs.SizeLemmas.{size_of, size_of_set_is, size_of_field, size_of_spread, size_of_inline, Kind, is_field, is_spread, is_inline, kind_of}

module _ (fragments : Fragments) (entries : Entries) (looks_up : (name : NameText) → fragments name ≡ lookup (same_name name) entries) where
  record Walks (seen : List NameText) (selections : List Selection) : Type 0 where
    walked : List (Node Field)
    visited : List NameText
    walk : WalkedFields fragments seen selections walked visited
    fewer_left : left visited entries ≤ left seen entries

  -- walks where fewer names are left, and walks over fewer selections
  module _ (n m : ℕ) (below : (seen : List NameText) (selections : List Selection) → left seen entries < n → Walks seen selections)
      (smaller : (seen : List NameText) (selections : List Selection) → left seen entries ≤ n → sum_by size_of selections ≤ m → Walks seen selections) where
    walks_kind : {s : Selection} → Kind s → (seen : List NameText) (rest : List Selection) → left seen entries ≤ n → sum_by size_of (s ∷ rest) ≤ suc m → Walks seen (s ∷ rest)
    walks_kind (is_field f) seen rest few small =
        let w = smaller seen rest few (omega (arith, sum_by-cons size_of (kind.Field f) rest, size_of_field f)) in
        record { walked = f ∷ w.walked; visited = w.visited; walk = walked_field f rest w.walk; fewer_left = w.fewer_left }
    walks_kind (is_inline i) seen rest few small =
        let own = i.value.value.selection_set in
        let inner = smaller seen (selections_of own) few
        (omega (arith, sum_by-cons size_of (kind.InlineFragment i) rest, size_of_inline i, size_of_set_is own)) in
        let w = smaller inner.visited rest (omega (arith, inner.fewer_left)) (omega (arith, sum_by-cons size_of (kind.InlineFragment i) rest, size_of_inline i)) in
        record {
          walked = inner.walked ++ w.walked;
          visited = w.visited;
          walk = walked_inline_fragment i rest inner.walk w.walk;
          fewer_left = omega (arith, inner.fewer_left, w.fewer_left);
        }
    walks_kind (is_spread p) seen rest few small = spread (list_any (same_name p.value.value.fragment_name) seen) refl where
      light : sum_by size_of rest ≤ m
      light = omega (arith, sum_by-cons size_of (kind.FragmentSpread p) rest, size_of_spread p)

      new_name : IsFalse (list_any (same_name p.value.value.fragment_name) seen) → (o : Option (Node Fragment)) → fragments p.value.value.fragment_name ≡ o → Walks seen (kind.FragmentSpread p ∷ rest)
      new_name new None is =
          let named = p.value.value.fragment_name in
          let w = smaller (named ∷ seen) rest (omega (arith, left_stays named seen entries)) light in
          record { walked = w.walked; visited = w.visited; walk = walked_undefined_spread p rest is w.walk; fewer_left = omega (arith, w.fewer_left, left_stays named seen entries) }
      new_name new (Some d) is =
          let named = p.value.value.fragment_name in
          let fell : left (named ∷ seen) entries < left seen entries = left_falls named seen entries d (sym (looks_up named) ∙ is) new in
          let inner = below (named ∷ seen) (selections_of d.value.value.selection_set) (omega arith) in
          let w = smaller inner.visited rest (omega (arith, inner.fewer_left)) light in
          record {
            walked = inner.walked ++ w.walked;
            visited = w.visited;
            walk = walked_spread p rest new is inner.walk w.walk;
            fewer_left = omega (arith, inner.fewer_left, w.fewer_left);
          }

      spread : (b : Bool) → list_any (same_name p.value.value.fragment_name) seen ≡ b → Walks seen (kind.FragmentSpread p ∷ rest)
      spread true known =
          let w = smaller seen rest few light in
          record { walked = w.walked; visited = w.visited; walk = walked_known_spread p rest known w.walk; fewer_left = w.fewer_left }
      spread false new = new_name new (fragments p.value.value.fragment_name) refl

  positive : {s : Selection} → Kind s → 0 < size_of s
  positive (is_field f) = omega (arith, size_of_field f)
  positive (is_spread p) = omega (arith, size_of_spread p)
  positive (is_inline i) = omega (arith, size_of_inline i)

  by_size : (n : ℕ) → ((seen : List NameText) (selections : List Selection) → left seen entries < n → Walks seen selections) →
      (m : ℕ) (seen : List NameText) (selections : List Selection) → left seen entries ≤ n → sum_by size_of selections ≤ m → Walks seen selections
  by_size n below m seen [] few small = record { walked = []; visited = seen; walk = walked_none; fewer_left = omega arith }
  by_size n below zero seen (s ∷ rest) few small = absurd (let no : ⊥ = omega (arith, sum_by-cons size_of s rest, positive (kind_of s)) in no)
  by_size n below (suc m) seen (s ∷ rest) few small = walks_kind n m below (by_size n below m) (kind_of s) seen rest few small

  by_names : (n : ℕ) (seen : List NameText) (selections : List Selection) → left seen entries ≤ n → Walks seen selections
  by_names zero seen selections few = by_size 0 (λ s q less. absurd (let no : ⊥ = omega arith in no)) (sum_by size_of selections) seen selections few (omega arith)
  by_names (suc n) seen selections few = by_size (suc n) (λ s q less. by_names n s q (omega arith)) (sum_by size_of selections) seen selections few (omega arith)

pub has_walk : (document : ExecutableDocument) (set : SelectionSet) →
    (walked : List (Node Field)) × (visited : List NameText) × WalkedFields (fragments_of document) [] (selections_of set) walked visited
has_walk document set =
    let w = by_names (fragments_of document) document.fragments.entries (λ name. refl) (left [] document.fragments.entries) [] (selections_of set) (omega arith) in
    (w.walked, w.visited, w.walk)
