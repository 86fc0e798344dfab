-- What is found of definitions, once the levels of fragments are.
use Rattle.std.proofs.Common.{◌≡◌, ◌≤◌, ◌<◌, ◌+◌, ℕ, Bool, true, false, suc, List, [], ◌∷◌, ◌++◌, Option, None, Some, All, arith, drop, get_or, length, refl, sym, ap, ◌∙◌, subst, inl, inr, take}
use Rattle.graphql_documents.specs.Executables.{operations_of}
use Rattle.std.proofs.lemmas.List.{append_assoc, take-append-drop, take-map}
use Rattle.std.specs.Prelude.{◌⊎◌, MatchOption, SomeIff, is_some, not, slice_get, unwrap_or}
use Rattle.std.proofs.lemmas.Bool.{cases_lt}
use Rattle.std.proofs.lemmas.List.Elements.{All-append, All-cons, All-contains, All-nil, All-map}
use Rattle.std.proofs.lemmas.Option.{slice_get_past, slice_get_read}
use Rattle.indexmap.specs.IndexMap.{values}
use Rattle.graphql_nodes.specs.declared.nodes.Node.{Node}
use Rattle.graphql_nodes.specs.declared.spans.SourceSpan.{SourceSpan}
use Rattle.graphql_documents.specs.Selections.{Fragments, fragments_of, no_fragments}
use Rattle.graphql_documents.specs.declared.documents.executables.ExecutableDocument.{ExecutableDocument}
use Rattle.graphql_documents.specs.declared.documents.executables.Fragment.{Fragment}
use Rattle.graphql_documents.specs.declared.documents.executables.Operation.{Operation}
use Rattle.graphql_documents.specs.declared.documents.executables.SelectionSet.{SelectionSet}
use Rattle.graphql_nesting.specs.Nesting.{Descends, EndlessTogether, FragmentNests, HasLevels, HasSomeLevels, IsEndless, IsFirstAfter, IsNestingReportOf, IsOfDefinition, NestsWithin, OperationNests, endless_one, endless_fragments_nest_deep, endless_operation_is_deep, no_more, operation_is_deep, other_one}
use Rattle.graphql_nesting.specs.Checks.{ChecksEndless, ChecksOperations, EndlessFound}
use Rattle.graphql_nesting.specs.Search.{AreRight, AreSettled}
use Rattle.graphql_nesting.specs.Spreads.{GoesOn, StopsAt, known_at}
use Rattle.graphql_nesting.specs.Written.{AreWrittenLevels, IsPlaced}
use Rattle.graphql_nesting.specs.declared.fragments.FragmentNesting.{FragmentNesting}
use Rattle.graphql_nesting.specs.declared.fragments.FragmentNestings.{FragmentNestings}
use Rattle.graphql_nesting.specs.declared.reports.NestedPart.TheVariants.{Definition}
use Rattle.graphql_nesting.specs.declared.reports.NestingReport.{NestingReport}
use Rattle.graphql_nesting.specs.declared.spreads.PlacedSpread.{PlacedSpread}
use Rattle.graphql_nesting.specs.declared.spreads.Progress.{Progress}
use Rattle.graphql_nesting.specs.declared.written.WrittenLevels.{WrittenLevels}
use Rattle.graphql_nesting.proofs.DescentLemmas.{shorter, some_levels}
use Rattle.graphql_nesting.proofs.ProgressLemmas.{all_through, levels_found, nothing_from, something_at, stands_at, stops_unknown, begins_at}
use Rattle.graphql_nesting.proofs.SearchLemmas.{listed_at}

-- an option that is none, and one that is some
pub none_is : (o : Option ℕ) (b : Bool) → is_some o ≡ not b → b ≡ true → o ≡ None
none_is None b e is = refl
none_is (Some n) true e is = absurd (let never : ⊥ = cc in never)
none_is (Some n) false e is = absurd (let never : ⊥ = cc in never)

pub some_is : (o : Option ℕ) (b : Bool) → is_some o ≡ not b → b ≡ false → (n : ℕ) × (o ≡ Some n)
some_is (Some n) b e is = (n, refl)
some_is None true e is = absurd (let never : ⊥ = cc in never)
some_is None false e is = absurd (let never : ⊥ = cc in never)

-- what is read by a reference to a list
pub read_by : {X : Type 0} (all items : List X) (i : ℕ) (x : X) → items ≡ all → i < length items → x ≡ get_or items i x → slice_get all i ≡ Some x
read_by all items i x same within is = ap (λ l. slice_get l i) (sym same) ∙ slice_get_read items (length items) i x refl within is

-- what is true of one is true of all of one
pub one_of_one : {X : Type 0} (P : X → Type 0) (x : X) → P x → All P (x ∷ [])
one_of_one P x holds = All-cons P x [] holds (All-nil P)

-- the first of one, of a list with more behind it, and of one behind elements that all have the property
pub first_of_one : {X : Type 0} (P : X → Type 0) (x : X) → IsFirstAfter P (x ∷ []) x
first_of_one P x = record { before = []; after = []; is = refl; hold = All-nil P }

pub first_ahead : {X : Type 0} (P : X → Type 0) (xs ys : List X) (x : X) → IsFirstAfter P xs x → IsFirstAfter P (xs ++ ys) x
first_ahead P xs ys x first = record {
  before = first.before;
  after = first.after ++ ys;
  is = ap (λ l. l ++ ys) first.is ∙ append_assoc first.before (x ∷ first.after) ys;
  hold = first.hold;
}

pub first_behind : {X : Type 0} (P : X → Type 0) (xs ys : List X) (x : X) → All P xs → IsFirstAfter P ys x → IsFirstAfter P (xs ++ ys) x
first_behind P xs ys x all first = record {
  before = xs ++ first.before;
  after = first.after;
  is = ap (λ l. xs ++ l) first.is ∙ sym (append_assoc xs first.before (x ∷ first.after));
  hold = All-append P xs first.before all first.hold;
}

-- what is at a number is the first after those before it
pub first_at : {X : Type 0} (P : X → Type 0) (xs : List X) (i : ℕ) (x : X) → slice_get xs i ≡ Some x → All P (take i xs) → IsFirstAfter P xs x
first_at P xs i x at hold = record {
  before = take i xs;
  after = drop (suc i) xs;
  is = sym (take-append-drop i xs) ∙ ap (λ l. take i xs ++ l) (begins_at xs i x at);
  hold = hold;
}

not_more : (most n m : ℕ) → ¬ (most < n) → m ≤ n → m ≤ most
not_more most n m few le = by (cases_lt most n) where
  by : (most < n) ⊎ (n ≤ most) → m ≤ most
  by (inl lt) = absurd (few lt)
  by (inr within) = omega arith

module _ (document : ExecutableDocument) (found : FragmentNestings) (settled : AreSettled document found) where
  -- the levels of a fragment, where they are known
  pub known_levels_at : AreRight document found.known.items
  known_levels_at number levels d is at =
      subst (λ o. MatchOption o (IsEndless (fragments_of document) d.value.value.selection_set) (HasLevels (fragments_of document) d.value.value.selection_set)) is (settled.each number d at)

  -- where they are not it is endless
  pub endless_at : (number : ℕ) (d : Node Fragment) → known_at found.known.items number ≡ None → slice_get (values document.fragments) number ≡ Some d →
      IsEndless (fragments_of document) d.value.value.selection_set
  endless_at number d is at =
      subst (λ o. MatchOption o (IsEndless (fragments_of document) d.value.value.selection_set) (HasLevels (fragments_of document) d.value.value.selection_set)) is (settled.each number d at)

  -- a fragment by its number
  pub fragment_at : (number : ℕ) (x : FragmentNesting) → slice_get found.fragments.items number ≡ Some x →
      MatchOption (known_at found.known.items number) (IsEndless (fragments_of document) x.fragment.now.value.value.selection_set)
      (HasLevels (fragments_of document) x.fragment.now.value.value.selection_set)
  fragment_at number x is = settled.each number x.fragment.now (listed_at document found.fragments.items settled.listed number x is)

  pub fragment_first : (most number : ℕ) (x : FragmentNesting) → slice_get found.fragments.items number ≡ Some x →
      All (λ x. FragmentNests (fragments_of document) most x.fragment.now) (take number found.fragments.items) →
      IsFirstAfter (FragmentNests (fragments_of document) most) (values document.fragments) x.fragment.now
  fragment_first most number x is nest =
      let P = FragmentNests (fragments_of document) most in
      let node_of = λ (x : FragmentNesting). x.fragment.now in
      first_at P (values document.fragments) number x.fragment.now (listed_at document found.fragments.items settled.listed number x is)
      (subst (λ l. All P (take number l)) settled.listed.all
      (subst (All P) (sym (take-map node_of number found.fragments.items)) (All-map P node_of (take number found.fragments.items) nest)))

  module _ (set : SelectionSet) (x : WrittenLevels) (written : AreWrittenLevels document set x) where
    -- a set in which all spreads are of fragments with known levels
    pub all_known : (end : Progress) → GoesOn found.known.items x.spreads.items (record { next = 0; levels = x.levels }) end → length x.spreads.items ≤ end.next →
        HasLevels (fragments_of document) set end.levels
    all_known end on past =
        levels_found document set (drop end.next x.spreads.items) end.levels (nothing_from x.spreads.items end.next (slice_get_past x.spreads.items end.next past))
        (all_through document set found.known.items known_levels_at x.spreads.items written.placed (record { next = 0; levels = x.levels }) end on written.before)

    -- a set with the spread of an endless fragment is endless
    pub leads_to_endless : (next : ℕ) → next < length x.spreads.items → StopsAt found.known.items x.spreads.items next → IsEndless (fragments_of document) set
    leads_to_endless next within stops n = by (something_at x.spreads.items next within) where
      by : (s : PlacedSpread) × (slice_get x.spreads.items next ≡ Some s) → Descends (fragments_of document) set (suc n)
      by (s, stands) =
          let is = All-contains (IsPlaced document set) x.spreads.items s written.placed (stands_at x.spreads.items next s stands) in
          let none : known_at found.known.items s.fragment ≡ None = stops_unknown found.known.items x.spreads.items next s stops stands in
          let way = is.leads (suc n) (endless_at s.fragment is.d none is.is n) in
          shorter (fragments_of document) n way (omega arith)

-- the levels that endless fragments have together, one list behind another
pub together_more : (fragments : Fragments) {xs ys : List (Node Fragment)} {a b : ℕ} → EndlessTogether fragments xs a → EndlessTogether fragments ys b →
    EndlessTogether fragments (xs ++ ys) (a + b)
together_more fragments {ys = ys} {b = b} no_more more = subst (EndlessTogether fragments ys) (let e : b ≡ 0 + b = omega arith in e) more
together_more fragments {ys = ys} {b = b} (endless_one {d = d} {rest = rest} {n = n} {levels = levels} is_endless has others) more =
    subst (EndlessTogether fragments (d ∷ (rest ++ ys))) (let e : n + (levels + b) ≡ (n + levels) + b = omega arith in e)
    (endless_one is_endless has (together_more fragments others more))
together_more fragments (other_one has others) more = other_one has (together_more fragments others more)

-- with an endless fragment more
pub with_endless : (fragments : Fragments) (ds : List (Node Fragment)) (d : Node Fragment) (levels n sum : ℕ) (location place : Option SourceSpan) →
    IsEndless fragments d.value.value.selection_set → HasLevels no_fragments d.value.value.selection_set n → sum ≡ levels + n →
    (levels ≡ 0 → place ≡ d.location) → (0 < levels → place ≡ location) →
    EndlessFound fragments ds levels location → EndlessFound fragments (ds ++ d ∷ []) sum place
with_endless fragments ds d levels n sum location place is_endless has is first later f = record {
  together = subst (EndlessTogether fragments (ds ++ d ∷ [])) (let e : levels + (n + 0) ≡ sum = omega arith in e)
      (together_more fragments f.together (endless_one is_endless has no_more));
  none = λ zero. absurd (let some = some_levels no_fragments has.descends in omega arith);
  first = λ some. by (cases_lt 0 levels);
} where
  P : Node Fragment → Type 0
  P = HasSomeLevels fragments

  by : (0 < levels) ⊎ (levels ≤ 0) → (d' : Node Fragment) × IsFirstAfter P (ds ++ d ∷ []) d' × IsEndless fragments d'.value.value.selection_set × (place ≡ d'.location)
  by (inl lt) = let (d', one, ends, at) = f.first lt in (d', first_ahead P ds (d ∷ []) d' one, ends, later lt ∙ at)
  by (inr le) =
      let zero : levels ≡ 0 = omega arith in
      (d, first_behind P ds (d ∷ []) d (f.none zero) (first_of_one P d), is_endless, first zero)

-- with another fragment more
pub with_other : (fragments : Fragments) (ds : List (Node Fragment)) (d : Node Fragment) (levels n : ℕ) (location : Option SourceSpan) →
    HasLevels fragments d.value.value.selection_set n → EndlessFound fragments ds levels location → EndlessFound fragments (ds ++ d ∷ []) levels location
with_other fragments ds d levels n location has f = record {
  together = subst (EndlessTogether fragments (ds ++ d ∷ [])) (let e : levels + 0 ≡ levels = omega arith in e) (together_more fragments f.together (other_one has no_more));
  none = λ zero. All-append (HasSomeLevels fragments) ds (d ∷ []) (f.none zero) (one_of_one (HasSomeLevels fragments) d (n, has));
  first = λ some. let (d', one, ends, at) = f.first some in (d', first_ahead (HasSomeLevels fragments) ds (d ∷ []) d' one, ends, at);
}

-- the report of a definition
abbrev pub definition_report : ℕ → ℕ → Option SourceSpan → NestingReport
definition_report levels most location = record { part = Definition; levels = levels; most = most; location = location }

-- an operation was checked: it is endless where no levels were found, and then what is written in it counts
pub operation_checked : (document : ExecutableDocument) (most : ℕ) (o : Node Operation) (written : ℕ) (found : Option ℕ) (levels : ℕ) (r : Option NestingReport) →
    HasLevels no_fragments o.value.value.selection_set written →
    MatchOption found (IsEndless (fragments_of document) o.value.value.selection_set) (HasLevels (fragments_of document) o.value.value.selection_set) →
    levels ≡ unwrap_or found written → SomeIff r (most < levels) (definition_report levels most o.location) → ChecksOperations most document (o ∷ []) r
operation_checked document most o written None levels None has ends is few = one_of_one (λ o. OperationNests (fragments_of document) most o) o
    (inr (ends, λ n way. let le = has.within n way in not_more most written n (subst (λ l. ¬ (most < l)) is few) le))
operation_checked document most o written None levels (Some r) has ends is many = (
  o,
  first_of_one (OperationNests (fragments_of document) most) o,
  endless_operation_is_deep ends
      (subst (IsOfDefinition no_fragments most o.value.value.selection_set o.location) (sym many.1)
      (record { part = refl; is_at = refl; has = subst (HasLevels no_fragments o.value.value.selection_set) (sym is) has; bound = refl; passes = many.0 })),
)
operation_checked document most o written (Some n) levels None has found is few = one_of_one (λ o. OperationNests (fragments_of document) most o) o
    (inl (λ m way. let le = found.within m way in not_more most n m (subst (λ l. ¬ (most < l)) is few) le))
operation_checked document most o written (Some n) levels (Some r) has found is many = (
  o,
  first_of_one (OperationNests (fragments_of document) most) o,
  operation_is_deep
      (subst (IsOfDefinition (fragments_of document) most o.value.value.selection_set o.location) (sym many.1)
      (record { part = refl; is_at = refl; has = subst (HasLevels (fragments_of document) o.value.value.selection_set) (sym is) found; bound = refl; passes = many.0 })),
)

-- a fragment was checked: it is endless where no levels were found
pub fragment_nests : (document : ExecutableDocument) (most : ℕ) (d : Node Fragment) (found : Option ℕ) →
    MatchOption found (IsEndless (fragments_of document) d.value.value.selection_set) (HasLevels (fragments_of document) d.value.value.selection_set) →
    ¬ (most < unwrap_or found 0) → FragmentNests (fragments_of document) most d
fragment_nests document most d None ends few = inr ends
fragment_nests document most d (Some n) has few = inl (λ m way. not_more most n m few (has.within m way))

pub fragment_is_deep : (document : ExecutableDocument) (most : ℕ) (d : Node Fragment) (found : Option ℕ) (r : NestingReport) →
    MatchOption found (IsEndless (fragments_of document) d.value.value.selection_set) (HasLevels (fragments_of document) d.value.value.selection_set) →
    most < unwrap_or found 0 → r ≡ definition_report (unwrap_or found 0) most d.location →
    IsOfDefinition (fragments_of document) most d.value.value.selection_set d.location r
fragment_is_deep document most d None r ends many is = absurd (omega arith)
fragment_is_deep document most d (Some n) r has many is =
    subst (IsOfDefinition (fragments_of document) most d.value.value.selection_set d.location) (sym is)
    (record { part = refl; is_at = refl; has = has; bound = refl; passes = many })

-- operations were checked one after another
pub operations_then : (document : ExecutableDocument) (most : ℕ) (xs ys : List (Node Operation)) (r : Option NestingReport) →
    All (OperationNests (fragments_of document) most) xs → ChecksOperations most document ys r → ChecksOperations most document (xs ++ ys) r
operations_then document most xs ys None nest others = All-append (OperationNests (fragments_of document) most) xs ys nest others
operations_then document most xs ys (Some r) nest (o, first, report) = (o, first_behind (OperationNests (fragments_of document) most) xs ys o nest first, report)

-- the whole document was checked
pub document_checked : (document : ExecutableDocument) (most : ℕ) (r : Option NestingReport) →
    All (OperationNests (fragments_of document) most) (operations_of document) → All (FragmentNests (fragments_of document) most) (values document.fragments) →
    ChecksEndless most document (values document.fragments) r → MatchOption r (NestsWithin most document) (IsNestingReportOf most document)
document_checked document most None operations fragments (levels, endless, within) =
    record { operations = operations; fragments = fragments; levels = levels; endless = endless; within = within }
document_checked document most (Some r) operations fragments report = endless_fragments_nest_deep operations fragments report
