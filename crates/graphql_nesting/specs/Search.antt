-- The search of the levels of fragments.
use Rattle.std.specs.Prelude.{◌≡◌, ◌+◌, ◌*◌, ℕ, List, None, Some, All, Contains, MatchOption, drop, length, map, slice_get, sum_by}
use Rattle.indexmap.specs.IndexMap.{values}
use Rattle.graphql_nodes.specs.declared.nodes.Node.{Node}
use Rattle.graphql_documents.specs.Selections.{fragments_of}
use Rattle.graphql_documents.specs.declared.documents.executables.ExecutableDocument.{ExecutableDocument}
use Rattle.graphql_documents.specs.declared.documents.executables.Fragment.{Fragment}
use Rattle.graphql_nesting.specs.Nesting.{HasLevels, IsEndless}
use Rattle.graphql_nesting.specs.Spreads.{known_at, waiting_at, waiting_in}
use Rattle.graphql_nesting.specs.Written.{AreWrittenLevels, HasLevelsBefore}
use Rattle.graphql_nesting.specs.declared.fragments.FragmentNesting.{FragmentNesting}
use Rattle.graphql_nesting.specs.declared.fragments.FragmentNestings.{FragmentNestings}
use Rattle.graphql_nesting.specs.declared.spreads.FragmentLevels.{FragmentLevels}
use Rattle.graphql_nesting.specs.declared.spreads.PlacedSpread.{PlacedSpread}
use Rattle.graphql_nesting.specs.declared.spreads.WaitingFragment.{WaitingFragment}

-- the fragments of the document, in order, each with what is written in it
pub record AreListed (document : ExecutableDocument) (fragments : List FragmentNesting) : Type 0 where
  pub all : map (λ x. x.fragment.now) fragments ≡ values document.fragments
  pub written : All (λ x. AreWrittenLevels document x.fragment.now.value.value.selection_set x.written) fragments

-- a fragment before its first spread
abbrev pub start_of : ℕ → FragmentNesting → WaitingFragment
start_of number x = record { fragment = number; progress = record { next = 0; levels = x.written.levels } }

-- known levels of fragments are their levels
abbrev pub AreRight : ExecutableDocument → List FragmentLevels → Type 0
AreRight document known = (number levels : ℕ) (d : Node Fragment) →
    known_at known number ≡ Some levels → slice_get (values document.fragments) number ≡ Some d →
    HasLevels (fragments_of document) d.value.value.selection_set levels

-- the levels that were found are right, but for ways through the spreads that were not gone through
pub record IsWaiting (document : ExecutableDocument) (fragments : List FragmentNesting) (w : WaitingFragment) : Type 0 where
  pub x : FragmentNesting
  pub is : slice_get fragments w.fragment ≡ Some x
  pub before : HasLevelsBefore document x.fragment.now.value.value.selection_set (drop w.progress.next x.written.spreads.items) w.progress.levels

-- a fragment waits for the one of this number: its next spread is of that
pub record WaitsFor (document : ExecutableDocument) (fragments : List FragmentNesting) (number : ℕ) (w : WaitingFragment) : Type 0 where
  pub waits : IsWaiting document fragments w
  pub s : PlacedSpread
  pub stands : slice_get waits.x.written.spreads.items w.progress.next ≡ Some s
  pub is_next : s.fragment ≡ number

-- the fragment of this number is ready, or waits for another one
pub data IsLeft (known : List FragmentLevels) (ready : List WaitingFragment) (number : ℕ) : Type 0 where
  is_ready : {w : WaitingFragment} → Contains ready w → w.fragment ≡ number → IsLeft known ready number
  is_waiting : {w : WaitingFragment} (other : ℕ) → Contains (waiting_at known other) w → w.fragment ≡ number → IsLeft known ready number

-- the search as it goes on: what is known is right, and each fragment whose levels are not known is ready, or waits for another
-- one whose levels are not known
pub record Searches (document : ExecutableDocument) (fragments : List FragmentNesting) (known : List FragmentLevels) (ready : List WaitingFragment) : Type 0 where
  pub listed : AreListed document fragments
  pub as_many : length known ≡ length fragments
  pub right : AreRight document known
  pub ready_ones : All (IsWaiting document fragments) ready
  pub waiting_ones : (number : ℕ) → All (WaitsFor document fragments number) (waiting_at known number)
  pub each_left : (number : ℕ) (levels : FragmentLevels) → slice_get known number ≡ Some levels → known_at known number ≡ None → IsLeft known ready number

-- how many fragments are ready or wait
abbrev pub count_left : List FragmentLevels → List WaitingFragment → ℕ
count_left known ready = length ready + sum_by (λ levels. length (waiting_in levels)) known

-- what is still to be done
abbrev pub work : List FragmentLevels → List WaitingFragment → ℕ
work known ready = count_left known ready * (count_left known ready + 1) + length ready

-- the search is over: fragments with known levels have these, and the others are endless
pub record AreSettled (document : ExecutableDocument) (found : FragmentNestings) : Type 0 where
  pub listed : AreListed document found.fragments.items
  pub as_many : length found.known.items ≡ length found.fragments.items
  pub each : (number : ℕ) (d : Node Fragment) → slice_get (values document.fragments) number ≡ Some d →
      MatchOption (known_at found.known.items number) (IsEndless (fragments_of document) d.value.value.selection_set)
      (HasLevels (fragments_of document) d.value.value.selection_set)
