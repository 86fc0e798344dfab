-- Definitions that are taken from the end of a list.
use Rattle.std.proofs.Common.{◌≡◌, ◌∙◌, Bool, true, false, List, [], ◌∷◌, ◌++◌, ap, refl, sym}
use Rattle.std.specs.Prelude.{filter, reverse}
use Rattle.std.proofs.lemmas.List.{append_assoc, append-nil, reverse-append}
use Rattle.std.proofs.lemmas.List.Elements.{filter-append}
use Rattle.graphql_trees.specs.declared.documents.Definition.{Definition}

pub one_turned : (initial turned old new : List Definition) (d : Definition) → old ≡ new ++ d ∷ [] → reverse initial ≡ turned ++ reverse old →
    reverse initial ≡ (turned ++ d ∷ []) ++ reverse new
one_turned initial turned old new d popped so =
    so ∙ ap (λ l. turned ++ reverse l) popped ∙ ap (λ l. turned ++ l) (reverse-append new (d ∷ [])) ∙ sym (append_assoc turned (d ∷ []) (reverse new))

module _ (p : Definition → Bool) where
  filtered : (old new : List Definition) (d : Definition) → old ≡ new ++ d ∷ [] → filter p old ≡ filter p new ++ filter p (d ∷ [])
  filtered old new d popped = ap (filter p) popped ∙ filter-append p new (d ∷ [])

  -- the last one passes
  pub one_taken : (initial kept before old new : List Definition) (d : Definition) → old ≡ new ++ d ∷ [] → p d ≡ true →
      before ++ reverse (filter p initial) ≡ kept ++ reverse (filter p old) → before ++ reverse (filter p initial) ≡ (kept ++ d ∷ []) ++ reverse (filter p new)
  one_taken initial kept before old new d popped is so =
      let last : filter p new ++ filter p (d ∷ []) ≡ filter p new ++ d ∷ [] = rw is refl in
      let same : filter p old ≡ filter p new ++ d ∷ [] = filtered old new d popped ∙ last in
      so ∙ ap (λ l. kept ++ reverse l) same ∙ ap (λ l. kept ++ l) (reverse-append (filter p new) (d ∷ [])) ∙ sym (append_assoc kept (d ∷ []) (reverse (filter p new)))

  -- the last one does not pass
  pub one_left : (initial kept before old new : List Definition) (d : Definition) → old ≡ new ++ d ∷ [] → p d ≡ false →
      before ++ reverse (filter p initial) ≡ kept ++ reverse (filter p old) → before ++ reverse (filter p initial) ≡ kept ++ reverse (filter p new)
  one_left initial kept before old new d popped is so =
      let none : filter p new ++ filter p (d ∷ []) ≡ filter p new = rw is (append-nil (filter p new)) in
      let same : filter p old ≡ filter p new = filtered old new d popped ∙ none in
      so ∙ ap (λ l. kept ++ reverse l) same
