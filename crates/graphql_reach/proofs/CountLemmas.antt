-- How many bytes the fragments have that a set reaches.
use Rattle.std.proofs.Common.{Bor, ◌≡◌, ◌+◌, ◌≤◌, ℕ, Bool, true, false, List, [], ◌∷◌, All, Contains, IsTrue, arith, map, if◌then◌else◌, refl, sym, ◌∙◌, subst}
use Rattle.std.specs.Prelude.{IsSome, sum_by}
use Rattle.std.specs.List.{AllByRecursion, IsDistinct}
use Rattle.std.specs.Cmp.{IsEquivalence, on_equiv}
use Rattle.std.specs.Cmp.Lexicographic.{nat_list_eq_equiv}
use Rattle.std.specs.Map.{keys_of, lookup}
use Rattle.std.specs.Option.{option_map_or}
use Rattle.std.proofs.lemmas.List.Elements.{All-contains, All-contains_itself, All-weaker, All-head, All-tail}
use Rattle.std.proofs.lemmas.List.Folds.{Any-from_list_any}
use Rattle.std.proofs.lemmas.List.Sums.{sum_by-cons}
use Rattle.std.proofs.lemmas.Map.Keys.{IsDistinct-head, IsDistinct-tail}
use Rattle.std.proofs.lemmas.Map.Views.{IsSome-lookup_from_Contains}
use Rattle.graphql_nodes.specs.Names.{NameText, SameName, same_name, stands_on}
use Rattle.graphql_nodes.proofs.NameLemmas.{same_name_back}
use Rattle.graphql_nodes.specs.declared.nodes.Node.{Node}
use Rattle.graphql_documents.proofs.ImplementerLemmas.{stands_same}
use Rattle.graphql_documents.proofs.SelectionLemmas.{one_fragment_found}
use Rattle.graphql_documents.specs.Selections.{Fragments, fragments_of}
use Rattle.graphql_documents.specs.declared.documents.executables.ExecutableDocument.{ExecutableDocument}
use Rattle.graphql_documents.specs.declared.documents.executables.Fragment.{Fragment}
use Rattle.graphql_documents.specs.declared.documents.executables.SelectionSet.{SelectionSet}
use Rattle.graphql_reach.specs.Reach.{FragmentsReached, bytes_at, left_out, no_more, reached_one}
use Rattle.graphql_reach.specs.Reached.{IsReachedFrom, IsSpreadFrom, ReachesNames, names_at}

-- the bytes of the definition of an entry
abbrev pub entry_bytes : NameText × Node Fragment → ℕ
entry_bytes e = bytes_at e.1.location

-- the bytes of the entries whose names are among these
abbrev pub named_bytes : List NameText → List (NameText × Node Fragment) → ℕ
named_bytes names [] = 0
named_bytes names (e ∷ es) = (if stands_on names e.0 then bytes_at e.1.location else 0) + named_bytes names es

-- the values of entries have the same bytes
pub sum_of_values : (es : List (NameText × Node Fragment)) → sum_by (λ (d : Node Fragment). bytes_at d.location) (map (λ e. e.1) es) ≡ sum_by entry_bytes es
sum_of_values [] = refl
sum_of_values (e ∷ es) = omega (
  arith,
  sum_by-cons (λ (d : Node Fragment). bytes_at d.location) e.1 (map (λ e. e.1) es),
  sum_by-cons entry_bytes e es,
  sum_of_values es,
)

module _ {fragments : Fragments} {set : SelectionSet} where
  -- the fragments that are reached have at most the bytes of all
  pub reached_at_most_all : {es : List (NameText × Node Fragment)} {n : ℕ} → FragmentsReached fragments set es n → n ≤ sum_by entry_bytes es
  reached_at_most_all no_more = omega arith
  reached_at_most_all (reached_one {e = e} {rest = rest} {n = n} name spread same more) = omega (arith, sum_by-cons entry_bytes e rest, reached_at_most_all more)
  reached_at_most_all (left_out {e = e} {rest = rest} {n = n} more) = omega (arith, sum_by-cons entry_bytes e rest, reached_at_most_all more)

  -- a set may leave all of them out
  pub none_reached : (es : List (NameText × Node Fragment)) → FragmentsReached fragments set es 0
  none_reached [] = no_more
  none_reached (e ∷ es) = left_out (none_reached es)

  -- the entries whose names are among those that the set reaches are reached
  pub reaches_named : (names : List NameText) → All (IsReachedFrom fragments set) names → (es : List (NameText × Node Fragment)) →
      FragmentsReached fragments set es (named_bytes names es)
  reaches_named names each [] = no_more
  reaches_named names each (e ∷ es) = at_first (stands_on names e.0) refl (reaches_named names each es) where
    at_first : (b : Bool) → stands_on names e.0 ≡ b → FragmentsReached fragments set es (named_bytes names es) →
        FragmentsReached fragments set (e ∷ es) (named_bytes names (e ∷ es))
    at_first true is more =
        let h = Any-from_list_any (same_name e.0) names is in
        let spread : IsSpreadFrom fragments set h.1 = (All-contains (IsReachedFrom fragments set) names h.1 each (h.0, h.2, h.3)).0 in
        rw is (reached_one {e = e} {rest = es} h.1 spread (same_name_back e.0 h.1 h.4) more)
    at_first false is more =
        let zero_more : named_bytes names es ≡ 0 + named_bytes names es = omega arith in
        rw is (subst (FragmentsReached fragments set (e ∷ es)) zero_more (left_out more))

same_name_equivalence : IsEquivalence same_name
same_name_equivalence = on_equiv (λ (a : NameText). a.text) nat_list_eq_equiv

-- the fragments of a document are defined
pub entries_are_defined : (document : ExecutableDocument) → All (λ name. IsSome (fragments_of document name)) (keys_of document.fragments.entries)
entries_are_defined document =
    let es = document.fragments.entries in
    All-weaker (Contains (keys_of es)) (λ name. IsSome (lookup (same_name name) es))
    (λ name there. IsSome-lookup_from_Contains same_name_equivalence name es there) (keys_of es) (All-contains_itself (keys_of es))

module _ (document : ExecutableDocument) (set : SelectionSet) (names : List NameText) (reaches : ReachesNames (fragments_of document) set names) where
  abbrev IsDefined : NameText → Type 0
  IsDefined name = IsSome (fragments_of document name)

  -- no entry is reached whose name is not among them
  is_named : (known name : NameText) → IsSome (fragments_of document known) → IsSpreadFrom (fragments_of document) set name → SameName name known →
      IsTrue (stands_on names known)
  is_named known name defined spread same =
      subst IsTrue (stands_same names name known same) (reaches.all name spread (subst IsSome (sym (one_fragment_found document name known same)) defined))

  pub reached_are_named : {es : List (NameText × Node Fragment)} {n : ℕ} → All IsDefined (keys_of es) →
      FragmentsReached (fragments_of document) set es n → n ≤ named_bytes names es
  reached_are_named defined no_more = omega arith
  reached_are_named defined (reached_one {e = e} {rest = rest} {n = n} name spread same more) =
      let is : stands_on names e.0 ≡ true = is_named e.0 name (All-head IsDefined e.0 (keys_of rest) defined) spread same in
      rw is (omega (arith, reached_are_named (All-tail IsDefined e.0 (keys_of rest) defined) more))
  reached_are_named defined (left_out {e = e} {rest = rest} {n = n} more) = omega (arith, reached_are_named (All-tail IsDefined e.0 (keys_of rest) defined) more)

-- the bytes of the entry that a name finds
abbrev pub found_bytes : List (NameText × Node Fragment) → NameText → ℕ
found_bytes es name = option_map_or (λ d. bytes_at d.location) (lookup (same_name name) es) 0

-- a name that stands for none of them adds nothing
named_else : (name : NameText) (names : List NameText) (es : List (NameText × Node Fragment)) → AllByRecursion (λ known. same_name name known ≡ false) (keys_of es) →
    named_bytes (name ∷ names) es ≡ named_bytes names es
named_else name names [] none = refl
named_else name names (e ∷ es) none =
    let other : same_name e.0 name ≡ false = same_name_equivalence.symm e.0 name ∙ none.0 in
    rw (other, named_else name names es none.1) refl

-- what differs from a name differs from the same name
differ_alike : (a b : NameText) (names : List NameText) → same_name a b ≡ true → AllByRecursion (λ known. same_name b known ≡ false) names →
    AllByRecursion (λ known. same_name a known ≡ false) names
differ_alike a b [] same differ = tt
differ_alike a b (known ∷ names) same differ = (same_name_equivalence.congr a b known same ∙ differ.0, differ_alike a b names same differ.1)

-- one name more adds what it finds
named_one_more : (name : NameText) (names : List NameText) (es : List (NameText × Node Fragment)) → stands_on names name ≡ false → IsDistinct same_name (keys_of es) →
    named_bytes (name ∷ names) es ≡ found_bytes es name + named_bytes names es
named_one_more name names [] fresh differ = refl
named_one_more name names (e ∷ es) fresh differ =
    at_first (same_name name e.0) refl (named_one_more name names es fresh (IsDistinct-tail same_name e.0 (keys_of es) differ)) where
      at_first : (b : Bool) → same_name name e.0 ≡ b → named_bytes (name ∷ names) es ≡ found_bytes es name + named_bytes names es →
          named_bytes (name ∷ names) (e ∷ es) ≡ found_bytes (e ∷ es) name + named_bytes names (e ∷ es)
      at_first true is more =
          let is_fresh : stands_on names e.0 ≡ false = sym (stands_same names name e.0 is) ∙ fresh in
          let back : same_name e.0 name ≡ true = same_name_back name e.0 is in
          let none = differ_alike name e.0 (keys_of es) is (IsDistinct-head same_name e.0 (keys_of es) differ) in
          rw (is, back, is_fresh) (omega (arith, named_else name names es none))
      at_first false is more =
          let back : same_name e.0 name ≡ false = same_name_equivalence.symm e.0 name ∙ is in
          rw (is, back) (omega (arith, more))

-- a name that differs from all does not stand on them
none_stands_on : (name : NameText) (names : List NameText) → AllByRecursion (λ known. same_name name known ≡ false) names → stands_on names name ≡ false
none_stands_on name [] none = refl
none_stands_on name (known ∷ names) none = let here : same_name name known ≡ false = none.0 in rw here (none_stands_on name names none.1)

no_bytes : (es : List (NameText × Node Fragment)) → named_bytes [] es ≡ 0
no_bytes [] = refl
no_bytes (e ∷ es) = omega (arith, no_bytes es)

-- different names have together what each of them finds
pub each_is_found : (names : List NameText) (es : List (NameText × Node Fragment)) → IsDistinct same_name names → IsDistinct same_name (keys_of es) →
    named_bytes names es ≡ sum_by (found_bytes es) names
each_is_found [] es differ apart = no_bytes es
each_is_found (name ∷ names) es differ apart = omega (
  arith,
  sum_by-cons (found_bytes es) name names,
  named_one_more name names es (none_stands_on name names (IsDistinct-head same_name name names differ)) apart,
  each_is_found names es (IsDistinct-tail same_name name names differ) apart,
)

-- the same by references
pub found_by_references : (es : List (NameText × Node Fragment)) (references : List (Bor NameText)) →
    sum_by (λ name. found_bytes es name.now) references ≡ sum_by (found_bytes es) (names_at references)
found_by_references es [] = refl
found_by_references es (x ∷ references) = omega (
  arith,
  sum_by-cons (λ (name : Bor NameText). found_bytes es name.now) x references,
  sum_by-cons (found_bytes es) x.now (names_at references),
  found_by_references es references,
)

-- references to different names
others_differ : (name : NameText) (references : List (Bor NameText)) → AllByRecursion (λ other. same_name name other.now ≡ false) references →
    AllByRecursion (λ other. same_name name other ≡ false) (names_at references)
others_differ name [] differ = tt
others_differ name (x ∷ references) differ = (differ.0, others_differ name references differ.1)

pub names_differ : (references : List (Bor NameText)) → IsDistinct (λ (a b : Bor NameText). same_name a.now b.now) references →
    IsDistinct same_name (names_at references)
unfolding IsDistinct
names_differ [] differ = tt
names_differ (x ∷ references) differ = (others_differ x.now references differ.0, names_differ references differ.1)
