-- Notes that are added one after another.
use Rattle.std.proofs.Common.{◌≡◌, ◌∙◌, ◌<◌, ◌+◌, ℕ, List, [], ◌∷◌, ◌++◌, Bool, true, false, Option, ap, append_assoc, cond, get_or, length, map, refl, sym, drop, take}
use Rattle.std.proofs.lemmas.List.{drop_more, take_more}
use Rattle.std.proofs.lemmas.List.Elements.{filter-append}
use Rattle.graphql_nodes.specs.Names.{NameText}
use Rattle.graphql_nodes.specs.declared.spans.SourceSpan.{SourceSpan}
use Rattle.graphql_notes.specs.Cycles.{Step, cycle_labels, refers, source_of, step_of}
use Rattle.graphql_notes.specs.Labels.{Label, is_elsewhere, label, labels_beside}
use Rattle.graphql_notes.specs.declared.cycles.Reference.{Reference}

beside_end : {X : Type 0} (f : X → Label) (at : Option SourceSpan) (xs : List X) (x : X) →
    labels_beside at (map f (xs ++ x ∷ [])) ≡ labels_beside at (map f xs) ++ labels_beside at (f x ∷ [])
beside_end f at [] x = refl
beside_end f at (y ∷ ys) x =
    let same = beside_end f at ys x in
    elim (is_elsewhere at (f y).place) as (λ b. cond b (f y ∷ labels_beside at (map f (ys ++ x ∷ []))) (labels_beside at (map f (ys ++ x ∷ [])))
    ≡ cond b (f y ∷ labels_beside at (map f ys)) (labels_beside at (map f ys)) ++ labels_beside at (f x ∷ [])) [
      | true ↦ ap (λ l. f y ∷ l) same
      | false ↦ same
    ]

-- the labels of the first i, and of the next one
pub labelled_more : {X : Type 0} (f : X → Label) (at : Option SourceSpan) (xs : List X) (i : ℕ) (x : X) (old mid new : List Label) → i < length xs → x ≡ get_or xs i x →
    mid ≡ old ++ labels_beside at (map f (take i xs)) → new ≡ mid ++ labels_beside at (f x ∷ []) → new ≡ old ++ labels_beside at (map f (take (i + 1) xs))
labelled_more f at xs i x old mid new within is so more =
    rw (take_more xs i x within, ← is, beside_end f at (take i xs) x)
    (more ∙ ap (λ l. l ++ labels_beside at (f x ∷ [])) so ∙ append_assoc old (labels_beside at (map f (take i xs))) (labels_beside at (f x ∷ [])))

-- the labels of the steps behind the k-th, which were added first, and of that one
pub stepped_more : (at : Option SourceSpan) (name : NameText) (references : List Reference) (k : ℕ) (r : Reference) (mid new : List Label) → k < length references →
    r ≡ get_or references k r →
    mid ≡ labels_beside at (cycle_labels name (map step_of (drop (k + 1) references))) →
    new ≡ mid ++ labels_beside at (label r.place (refers (source_of name (map step_of (drop (k + 1) references))) r.target.now) ∷ []) →
    new ≡ labels_beside at (cycle_labels name (map step_of (drop k references)))
stepped_more at name references k r mid new within is so more =
    let behind = map step_of (drop (k + 1) references) in
    let one = label r.place (refers (source_of name behind) r.target.now) ∷ [] in
    let split : labels_beside at (cycle_labels name behind ++ one) ≡ labels_beside at (cycle_labels name behind) ++ labels_beside at one =
    filter-append (λ (l : Label). is_elsewhere at l.place) (cycle_labels name behind) one in
    rw (drop_more references k r within, ← is) (more ∙ ap (λ l. l ++ labels_beside at one) so ∙ sym split)
