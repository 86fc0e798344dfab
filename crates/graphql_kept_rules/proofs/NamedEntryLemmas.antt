-- The entry of a name among entries of different names. Specification: 5.6.3 Input Object Field Uniqueness.
use Rattle.std.proofs.Common.{◌≡◌, Bool, true, false, zero, suc, List, [], ◌∷◌, Some, map, refl, arith}
use Rattle.std.specs.Prelude.{All, Contains}
use Rattle.std.proofs.lemmas.List.Elements.{All-cons, All-contains, All-nil}
use Rattle.graphql_nodes.specs.Names.{AreDistinct, DifferentNames, NameText, SameName, same_name}
use Rattle.graphql_nodes.proofs.NameLemmas.{not_both, same_name_back, same_name_then}
use Rattle.graphql_nodes.specs.declared.nodes.Node.{Node}
use Rattle.graphql_documents.proofs.ListLemmas.{each_standing, stands_mapped}
use Rattle.graphql_documents.specs.Values.{entry_named}
use Rattle.graphql_documents.specs.declared.documents.values.Value.{Value}

abbrev Entry : Type 0
Entry = NameText × Node Value

distinct_head : (x : NameText) (xs : List NameText) → AreDistinct (x ∷ xs) → All (DifferentNames x) xs
distinct_head x xs h = λ k d within. h zero (suc k) d (omega arith) (omega arith)

distinct_tail : (x : NameText) (xs : List NameText) → AreDistinct (x ∷ xs) → AreDistinct xs
distinct_tail x xs h = λ i j d lt within. h (suc i) (suc j) d (omega arith) (omega arith)

module _ (key : NameText) where
  abbrev IsNamed : List Entry → Entry → Type 0
  IsNamed es x = SameName x.0 key → entry_named key es ≡ Some x.1

  all_named : (es : List Entry) → AreDistinct (map (λ (e : Entry). e.0) es) → All (IsNamed es) es
  all_named [] distinct = All-nil (IsNamed [])
  all_named (e ∷ es) distinct =
      let rest = all_named es (distinct_tail e.0 (map (λ (e : Entry). e.0) es) distinct) in
      All-cons (IsNamed (e ∷ es)) e es (λ same. rw same refl) (each_standing (IsNamed (e ∷ es)) es (λ x c same.
      let other = All-contains (DifferentNames e.0) (map (λ (e : Entry). e.0) es) x.0 (distinct_head e.0 (map (λ (e : Entry). e.0) es) distinct)
      (stands_mapped (λ (e : Entry). e.0) es x c) in
      by e es x (same_name e.0 key) refl same other (All-contains (IsNamed es) es x rest c same)))
    where
      by : (e : Entry) (es : List Entry) (x : Entry) (b : Bool) → same_name e.0 key ≡ b → SameName x.0 key → DifferentNames e.0 x.0 → entry_named key es ≡ Some x.1 →
          entry_named key (e ∷ es) ≡ Some x.1
      by e es x true here same other found = absurd (not_both e.0 x.0 (same_name_then e.0 key x.0 here (same_name_back x.0 key same)) other)
      by e es x false here same other found = rw here found

  pub named_among : (es : List Entry) (x : Entry) → AreDistinct (map (λ (e : Entry). e.0) es) → Contains es x → SameName x.0 key → entry_named key es ≡ Some x.1
  named_among es x distinct c same = All-contains (IsNamed es) es x (all_named es distinct) c same
