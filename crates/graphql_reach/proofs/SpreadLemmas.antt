-- How the fragments that are reached grow, and that the search for them comes to its end.
use Rattle.std.proofs.Common.{◌≡◌, ◌↔◌, ◌+◌, ◌≤◌, Bool, true, false, List, [], ◌∷◌, ◌++◌, Option, None, Some, arith, if◌then◌else◌, refl, sym, ap, ◌∙◌, subst, IsTrue}
use Rattle.std.specs.Prelude.{◌⊎◌, ◌||◌, IsFalse, IsSome, is_some, not, Result, Ok, Err, OnOk}
use Rattle.std.specs.List.{list_any}
use Rattle.std.specs.Map.{lookup}
use Rattle.std.proofs.lemmas.List.{append-nil, append_assoc, length-append}
use Rattle.std.proofs.lemmas.List.Elements.{All-append, All-cons, All-nil, All-weaker}
use Rattle.std.proofs.lemmas.List.Folds.{list_any-append}
use mathlib.Core.Logic.{inl, inr}
use Rattle.graphql_nodes.specs.Names.{NameText, SameName, same_name, stands_on, with_name}
use Rattle.graphql_nodes.proofs.NameLemmas.{same_name_itself}
use Rattle.graphql_nodes.specs.declared.nodes.Node.{Node}
use Rattle.graphql_documents.proofs.ImplementerLemmas.{stands_same}
use Rattle.graphql_documents.specs.Selections.{fragments_of}
use Rattle.graphql_documents.specs.declared.documents.executables.ExecutableDocument.{ExecutableDocument}
use Rattle.graphql_documents.specs.declared.documents.executables.Fragment.{Fragment}
use Rattle.graphql_variables.proofs.SelectionWalkLemmas.{stands_before, stands_last}
use Rattle.graphql_reach.specs.Reached.{AddsSpreads, pending_names, reached_names, unreached}
use Rattle.graphql_reach.specs.declared.reached.Reached.{Reached}

-- a name that is on a list is on a longer one
or_still : (a b : Bool) → IsTrue a → IsTrue (a || b)
or_still true b h = refl
or_still false b h = absurd (let no : ⊥ = cc in no)

pub still_stands : (names more : List NameText) (name : NameText) → IsTrue (stands_on names name) → IsTrue (stands_on (names ++ more) name)
still_stands names more name h =
    subst IsTrue (sym (list_any-append (same_name name) names more)) (or_still (list_any (same_name name) names) (list_any (same_name name) more) h)

-- with more names there are not more fragments that were not reached
one_less : (a b : Bool) → (IsTrue a → IsTrue b) → (if b then 0 else 1) ≤ (if a then 0 else 1)
one_less true true still = omega arith
one_less true false still = absurd (let there = still refl in let no : ⊥ = cc in no)
one_less false true still = omega arith
one_less false false still = omega arith

unreached_stays : (names : List NameText) (name : NameText) (es : List (NameText × Node Fragment)) → unreached (names ++ name ∷ []) es ≤ unreached names es
unreached_stays names name [] = omega arith
unreached_stays names name (e ∷ es) =
    omega (arith, one_less (stands_on names e.0) (stands_on (names ++ name ∷ []) e.0) (stands_before names name e.0), unreached_stays names name es)

-- with the name of a fragment that was not reached there are less
unreached_falls : (names : List NameText) (name : NameText) (d : Node Fragment) → IsFalse (stands_on names name) →
    (es : List (NameText × Node Fragment)) → lookup (same_name name) es ≡ Some d → unreached (names ++ name ∷ []) es + 1 ≤ unreached names es
unreached_falls names name d fresh [] found = absurd (let no : ⊥ = cc in no)
unreached_falls names name d fresh (e ∷ es) found = at_first (same_name name e.0) refl (λ later. unreached_falls names name d fresh es later) where
  at_first : (b : Bool) → same_name name e.0 ≡ b → (lookup (same_name name) es ≡ Some d → unreached (names ++ name ∷ []) es + 1 ≤ unreached names es) →
      unreached (names ++ name ∷ []) (e ∷ es) + 1 ≤ unreached names (e ∷ es)
  at_first true is later =
      let is_fresh : stands_on names e.0 ≡ false = sym (stands_same names name e.0 is) ∙ fresh in
      let is_there : stands_on (names ++ name ∷ []) e.0 ≡ true = sym (stands_same (names ++ name ∷ []) name e.0 is) ∙ stands_last names name name (same_name_itself name) in
      rw (is_fresh, is_there) (omega (arith, unreached_stays names name es))
  at_first false is later =
      let rest : unreached (names ++ name ∷ []) es + 1 ≤ unreached names es = later (rw is at found) in
      omega (arith, rest, one_less (stands_on names e.0) (stands_on (names ++ name ∷ []) e.0) (stands_before names name e.0))

-- tests turned about
pub not_true : (a b : Bool) → a ≡ not b → a ≡ true → IsFalse b
not_true a true is e = let no : ⊥ = cc in absurd no
not_true a false is e = refl

pub not_false : (a b : Bool) → a ≡ not b → a ≡ false → IsTrue b
not_false a true is e = refl
not_false a false is e = let no : ⊥ = cc in absurd no

pub is_defined : {X : Type 0} (o : Option X) → is_some o ≡ true → (x : X) × (o ≡ Some x)
is_defined None e = absurd (let no : ⊥ = cc in no)
is_defined (Some x) e = (x, refl)

module _ (document : ExecutableDocument) where
  -- this holds of the name, and its fragment is defined
  abbrev Both : (NameText → Type 0) → NameText → Type 0
  Both P name = P name × IsSome (fragments_of document name)

  -- nothing is added: what is spread was reached, or is not defined
  pub adds_none : (P : NameText → Type 0) (reached : Reached) →
      ((name : NameText) → P name → IsSome (fragments_of document name) → IsTrue (stands_on (reached_names reached) name)) → AddsSpreads document P reached reached
  adds_none P reached there = record {
    added = [];
    names = sym (append-nil (reached_names reached));
    waiting = sym (append-nil (pending_names reached));
    each = All-nil (λ name. P name × IsSome (fragments_of document name));
    there = there;
    counted = omega arith;
  }

  -- one name is, or was there
  pub adds_new : (name : NameText) (old new : Reached) (d : Node Fragment) → fragments_of document name ≡ Some d → IsFalse (stands_on (reached_names old) name) →
      reached_names new ≡ with_name (reached_names old) name → pending_names new ≡ pending_names old ++ name ∷ [] → AddsSpreads document (λ spread. spread ≡ name) old new
  adds_new name old new d defined fresh names waiting =
      let grown : reached_names new ≡ reached_names old ++ name ∷ [] = names ∙ ap (λ b. if b then reached_names old else reached_names old ++ name ∷ []) fresh in
      record {
        added = name ∷ [];
        names = grown;
        waiting = waiting;
        each = All-cons (λ spread. (spread ≡ name) × IsSome (fragments_of document spread)) name [] (refl, rw defined refl)
            (All-nil (λ spread. (spread ≡ name) × IsSome (fragments_of document spread)));
        there = λ spread is _. subst (λ l. IsTrue (stands_on l spread)) (sym grown) (stands_last (reached_names old) name spread (subst (λ n. SameName n name) (sym is) (same_name_itself name)));
        counted = subst (λ l. unreached l document.fragments.entries + 1 ≤ unreached (reached_names old) document.fragments.entries) (sym grown)
            (unreached_falls (reached_names old) name d fresh document.fragments.entries defined);
      }

  pub adds_known : (name : NameText) (old new : Reached) → IsTrue (stands_on (reached_names old) name) →
      reached_names new ≡ with_name (reached_names old) name → pending_names new ≡ pending_names old → AddsSpreads document (λ spread. spread ≡ name) old new
  adds_known name old new there names waiting =
      let same : reached_names new ≡ reached_names old = names ∙ ap (λ b. if b then reached_names old else reached_names old ++ name ∷ []) there in
      record {
        added = [];
        names = same ∙ sym (append-nil (reached_names old));
        waiting = waiting ∙ sym (append-nil (pending_names old));
        each = All-nil (λ spread. (spread ≡ name) × IsSome (fragments_of document spread));
        there = λ spread is _. subst (λ l. IsTrue (stands_on l spread)) (sym same) (subst (λ n. IsTrue (stands_on (reached_names old) n)) (sym is) there);
        counted = subst (λ l. unreached l document.fragments.entries + 0 ≤ unreached (reached_names old) document.fragments.entries) (sym same) (omega arith);
      }

  -- more are added behind others
  pub adds_then : (P Q : NameText → Type 0) (old mid new : Reached) → AddsSpreads document P old mid → AddsSpreads document Q mid new →
      AddsSpreads document (λ name. P name ⊎ Q name) old new
  adds_then P Q old mid new a b =
      let grown : reached_names new ≡ reached_names old ++ (a.added ++ b.added) =
      b.names ∙ ap (λ l. l ++ b.added) a.names ∙ append_assoc (reached_names old) a.added b.added in
      record {
        added = a.added ++ b.added;
        names = grown;
        waiting = b.waiting ∙ ap (λ l. l ++ b.added) a.waiting ∙ append_assoc (pending_names old) a.added b.added;
        each = All-append (Both (λ name. P name ⊎ Q name)) a.added b.added (All-weaker (Both P) (Both (λ name. P name ⊎ Q name)) (λ name p. (inl p.0, p.1)) a.added a.each)
            (All-weaker (Both Q) (Both (λ name. P name ⊎ Q name)) (λ name q. (inr q.0, q.1)) b.added b.each);
        there = λ name spread defined. elim spread [
          | inl p ↦ subst (λ l. IsTrue (stands_on l name)) (sym b.names) (still_stands (reached_names mid) b.added name (a.there name p defined))
          | inr q ↦ b.there name q defined
        ];
        counted = omega (arith, length-append a.added b.added, a.counted, b.counted);
      }

  -- in other words
  pub adds_words : (P Q : NameText → Type 0) (old new : Reached) → ((name : NameText) → P name ↔ Q name) → AddsSpreads document P old new → AddsSpreads document Q old new
  adds_words P Q old new w a = record {
    added = a.added;
    names = a.names;
    waiting = a.waiting;
    each = All-weaker (Both P) (Both Q) (λ name p. ((w name).0 p.0, p.1)) a.added a.each;
    there = λ name q defined. a.there name ((w name).1 q) defined;
    counted = a.counted;
  }

  pub adds_words_ok : {T E : Type 0} (r : Result T E) (P Q : NameText → Type 0) (old new : Reached) → ((name : NameText) → P name ↔ Q name) →
      OnOk r (AddsSpreads document P old new) → OnOk r (AddsSpreads document Q old new)
  adds_words_ok (Ok x) P Q old new w a = adds_words P Q old new w a
  adds_words_ok (Err x) P Q old new w a = a
