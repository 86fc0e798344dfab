-- Each list of sets has an expansion: a document has finitely many fragments, and a set finitely many
-- inline fragments.
use Rattle.std.proofs.Common.{◌≡◌, ℕ, zero, suc, ◌<◌, ◌≤◌, Bool, true, false, List, [], ◌∷◌, ◌++◌, Option, Some, None, ◌⊎◌, inl, inr, refl, sym, ◌∙◌, sum_by, arith}
use Rattle.std.specs.Prelude.{IsFalse}
use Rattle.std.specs.List.{list_any}
use Rattle.std.specs.Map.{lookup}
use Rattle.std.proofs.lemmas.List.Sums.{sum_by-cons, sum_by-append}
use Rattle.graphql_nodes.specs.Names.{NameText, same_name}
use Rattle.graphql_documents.specs.Selections.{Fragments, fragments_of, selections_of}
use Rattle.graphql_specification.specs.Merging.{FieldSelection}
use Rattle.graphql_specification.specs.MergedSets.{fields_standing, followed_by, FragmentSets, no_more, past_field, into_inline_fragment, past_spread, into_spread, ExpandsFrom, expanded, expand_next, Expansion}
use Rattle.graphql_nodes.specs.declared.nodes.Node.{Node}
use Rattle.graphql_documents.specs.declared.documents.executables.ExecutableDocument.{ExecutableDocument}
use Rattle.graphql_documents.specs.declared.documents.executables.Selection.{Selection}
use Rattle.graphql_documents.specs.declared.documents.executables.Selection.TheVariants as kind
use Rattle.graphql_documents.specs.declared.documents.executables.SelectionSet.{SelectionSet}
use Rattle.graphql_documents.specs.declared.documents.executables.Fragment.{Fragment}
use Rattle.graphql_laws.proofs.VisitedNameLemmas.{Entries, left, left_stays, left_falls}
use Rattle.graphql_laws.proofs.SizeLemmas.{size_of_set, size_of, size_of_set_is, size_of_inline, Kind, is_field, is_spread, is_inline, kind_of}

module _ (fragments : Fragments) (entries : Entries) (looks_up : (name : NameText) → fragments name ≡ lookup (same_name name) entries) where
  -- the sets of the fragments among the selections: fewer names are left then, or the sets are no larger
  record Gathers (seen : List NameText) (selections : List Selection) : Type 0 where
    sets : List SelectionSet
    visited : List NameText
    found : FragmentSets fragments seen selections sets visited
    fewer_left : left visited entries ≤ left seen entries
    progress : (left visited entries < left seen entries) ⊎ (sum_by size_of_set sets ≤ sum_by size_of selections)

  no_heavier : (s : Selection) (rest : List Selection) (sets : List SelectionSet) → sum_by size_of_set sets ≤ sum_by size_of rest → sum_by size_of_set sets ≤ sum_by size_of (s ∷ rest)
  no_heavier s rest sets light = omega (arith, sum_by-cons size_of s rest)

  gathers_kind : {s : Selection} → Kind s → (seen : List NameText) (rest : List Selection) → ((names : List NameText) → Gathers names rest) → Gathers seen (s ∷ rest)
  gathers_kind (is_field f) seen rest more =
      let g = more seen in
      record {
        sets = g.sets;
        visited = g.visited;
        found = past_field f rest g.found;
        fewer_left = g.fewer_left;
        progress = elim g.progress [ inl fell ↦ inl fell | inr light ↦ inr (no_heavier (kind.Field f) rest g.sets light) ];
      }
  gathers_kind (is_inline i) seen rest more =
      let own = i.value.value.selection_set in
      let g = more seen in
      record {
        sets = own ∷ g.sets;
        visited = g.visited;
        found = into_inline_fragment i rest g.found;
        fewer_left = g.fewer_left;
        progress = elim g.progress [
          | inl fell ↦ inl fell
          | inr light ↦ inr (omega (arith, sum_by-cons size_of_set own g.sets, sum_by-cons size_of (kind.InlineFragment i) rest, size_of_inline i))
        ];
      }
  gathers_kind (is_spread p) seen rest more = spread (list_any (same_name p.value.value.fragment_name) seen) refl where
    new_name : IsFalse (list_any (same_name p.value.value.fragment_name) seen) → (o : Option (Node Fragment)) → fragments p.value.value.fragment_name ≡ o → Gathers seen (kind.FragmentSpread p ∷ rest)
    new_name new None is =
        let named = p.value.value.fragment_name in
        let g = more (named ∷ seen) in
        record {
          sets = followed_by (fragments named) g.sets;
          visited = g.visited;
          found = into_spread p rest new g.found;
          fewer_left = omega (arith, g.fewer_left, left_stays named seen entries);
          progress = elim g.progress [
            | inl fell ↦ inl (omega (arith, left_stays named seen entries))
            | inr light ↦ inr (rw is (no_heavier (kind.FragmentSpread p) rest g.sets light))
          ];
        }
    new_name new (Some d) is =
        let named = p.value.value.fragment_name in
        let g = more (named ∷ seen) in
        let fell : left (named ∷ seen) entries < left seen entries = left_falls named seen entries d (sym (looks_up named) ∙ is) new in
        record {
          sets = followed_by (fragments named) g.sets;
          visited = g.visited;
          found = into_spread p rest new g.found;
          fewer_left = omega (arith, g.fewer_left);
          progress = inl (omega (arith, g.fewer_left));
        }

    spread : (b : Bool) → list_any (same_name p.value.value.fragment_name) seen ≡ b → Gathers seen (kind.FragmentSpread p ∷ rest)
    spread true known =
        let g = more seen in
        record {
          sets = g.sets;
          visited = g.visited;
          found = past_spread p rest known g.found;
          fewer_left = g.fewer_left;
          progress = elim g.progress [ inl fell ↦ inl fell | inr light ↦ inr (no_heavier (kind.FragmentSpread p) rest g.sets light) ];
        }
    spread false new = new_name new (fragments p.value.value.fragment_name) refl

  gathers : (seen : List NameText) (selections : List Selection) → Gathers seen selections
  gathers seen [] = record { sets = []; visited = seen; found = no_more; fewer_left = omega arith; progress = inr (omega arith) }
  gathers seen (s ∷ rest) = gathers_kind (kind_of s) seen rest (λ names. gathers names rest)

  abbrev Expands : List NameText → List SelectionSet → Type 0
  Expands seen queue = (fields : List FieldSelection) × ExpandsFrom fragments seen queue fields

  by_weight : (n : ℕ) → ((seen : List NameText) (queue : List SelectionSet) → left seen entries < n → Expands seen queue) →
      (m : ℕ) (seen : List NameText) (queue : List SelectionSet) → left seen entries ≤ n → sum_by size_of_set queue ≤ m → Expands seen queue
  by_weight n below m seen [] few light = ([], expanded)
  by_weight n below zero seen (set ∷ queue) few light = absurd (let no : ⊥ = omega (arith, sum_by-cons size_of_set set queue, size_of_set_is set) in no)
  by_weight n below (suc m) seen (set ∷ queue) few light =
      let g = gathers seen (selections_of set) in
      let rest : Expands g.visited (queue ++ g.sets) = elim g.progress [
        | inl fell ↦ below g.visited (queue ++ g.sets) (omega arith)
        | inr lighter ↦ by_weight n below m g.visited (queue ++ g.sets) (omega (arith, g.fewer_left))
            (omega (arith, sum_by-cons size_of_set set queue, size_of_set_is set, sum_by-append size_of_set queue g.sets))
      ] in
      (fields_standing set ++ rest.0, expand_next g.found rest.1)

  by_names : (n : ℕ) (seen : List NameText) (queue : List SelectionSet) → left seen entries ≤ n → Expands seen queue
  by_names zero seen queue few = by_weight 0 (λ s q less. absurd (let no : ⊥ = omega arith in no)) (sum_by size_of_set queue) seen queue few (omega arith)
  by_names (suc n) seen queue few = by_weight (suc n) (λ s q less. by_names n s q (omega arith)) (sum_by size_of_set queue) seen queue few (omega arith)

pub has_expansion : (document : ExecutableDocument) (sets : List SelectionSet) → (fields : List FieldSelection) × Expansion (fragments_of document) sets fields
has_expansion document sets =
    by_names (fragments_of document) document.fragments.entries (λ name. refl) (left [] document.fragments.entries) [] sets (omega arith)
