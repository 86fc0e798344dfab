-- A document that nests within the bound has no report.
use Rattle.std.proofs.Common.{◌≡◌, ◌≤◌, ◌<◌, ◌∷◌, ℕ, suc, List, Contains, Option, None, Some, arith, refl, subst, sym, inl, inr}
use Rattle.std.specs.Prelude.{IsSome, MatchOption}
use Rattle.std.proofs.lemmas.List.Elements.{All-contains, Contains-append_right}
use Rattle.indexmap.specs.IndexMap.{values}
use Rattle.graphql_nodes.specs.declared.nodes.Node.{Node}
use Rattle.graphql_documents.specs.Executables.{operations_of}
use Rattle.graphql_documents.specs.Selections.{Fragments, fragments_of, no_fragments}
use Rattle.graphql_documents.specs.declared.documents.executables.ExecutableDocument.{ExecutableDocument}
use Rattle.graphql_documents.specs.declared.documents.executables.Fragment.{Fragment}
use Rattle.graphql_documents.specs.declared.documents.executables.Operation.{Operation}
use Rattle.graphql_documents.specs.declared.documents.executables.SelectionSet.{SelectionSet}
use Rattle.graphql_documents.proofs.ListLemmas.{stands_first}
use Rattle.graphql_nesting.specs.Nesting.{EndlessTogether, FragmentNests, HasLevels, IsEndless, IsFirstAfter, IsNestingReportOf, IsWithin, NestsWithin, OperationNests, OperationReport, endless_fragments_nest_deep, endless_one, endless_operation_is_deep, fragment_nests_deep, no_more, operation_is_deep, operation_nests_deep, other_one}
use Rattle.graphql_nesting.specs.declared.reports.NestingReport.{NestingReport}

-- such an element is in the list
first_stands : {X : Type 0} (P : X → Type 0) (xs : List X) (x : X) → IsFirstAfter P xs x → Contains xs x
first_stands P xs x first = subst (λ l. Contains l x) (sym first.is) (Contains-append_right first.before (x ∷ first.after) x (stands_first x first.after))

module _ (fragments : Fragments) (set : SelectionSet) where
  -- an endless set has no greatest number of levels
  never_within : (most : ℕ) → IsEndless fragments set → ¬ IsWithin fragments most set
  never_within most ends within = let le : suc most ≤ most = within (suc most) (ends most) in omega arith

  -- a set has one number of levels
  one_number : (m n : ℕ) → HasLevels fragments set m → HasLevels fragments set n → m ≡ n
  one_number m n one other =
      let le : m ≤ n = other.within m one.descends in
      let ge : n ≤ m = one.within n other.descends in
      omega arith

  not_both : (most levels : ℕ) → HasLevels fragments set levels → most < levels → ¬ IsWithin fragments most set
  not_both most levels has passes within = let le : levels ≤ most = within levels has.descends in omega arith

-- endless fragments have one number of levels together
one_sum : (fragments : Fragments) {all : List (Node Fragment)} {m n : ℕ} → EndlessTogether fragments all m → EndlessTogether fragments all n → m ≡ n
one_sum fragments no_more no_more = refl
one_sum fragments (endless_one {d = d} {n = a} ends has rest) (endless_one {n = b} _ has_too others) =
    let same : a ≡ b = one_number no_fragments d.value.value.selection_set a b has has_too in
    let sums = one_sum fragments rest others in
    omega arith
one_sum fragments (endless_one {d = d} ends has rest) (other_one {n = n} has_levels others) = absurd (never_within fragments d.value.value.selection_set n ends has_levels.within)
one_sum fragments (other_one {d = d} {n = n} has_levels rest) (endless_one ends has others) = absurd (never_within fragments d.value.value.selection_set n ends has_levels.within)
one_sum fragments (other_one has rest) (other_one has_too others) = one_sum fragments rest others

operation_excluded : (fragments : Fragments) (most : ℕ) (o : Node Operation) (r : NestingReport) → OperationReport fragments most o r → ¬ OperationNests fragments most o
operation_excluded fragments most o r (operation_is_deep is) (inl within) = not_both fragments o.value.value.selection_set most r.levels is.has is.passes within
operation_excluded fragments most o r (operation_is_deep is) (inr (ends, _)) = never_within fragments o.value.value.selection_set r.levels ends is.has.within
operation_excluded fragments most o r (endless_operation_is_deep ends is) (inl within) = never_within fragments o.value.value.selection_set most ends within
operation_excluded fragments most o r (endless_operation_is_deep ends is) (inr (_, within)) = not_both no_fragments o.value.value.selection_set most r.levels is.has is.passes within

fragment_excluded : (fragments : Fragments) (most levels : ℕ) (d : Node Fragment) → HasLevels fragments d.value.value.selection_set levels → most < levels → ¬ FragmentNests fragments most d
fragment_excluded fragments most levels d has passes (inl within) = not_both fragments d.value.value.selection_set most levels has passes within
fragment_excluded fragments most levels d has passes (inr ends) = never_within fragments d.value.value.selection_set levels ends has.within

-- a document with a report does not nest within the bound
pub report_excludes : (most : ℕ) (document : ExecutableDocument) (r : NestingReport) → IsNestingReportOf most document r → ¬ NestsWithin most document
report_excludes most document r (operation_nests_deep {o = o} first report) nests =
    operation_excluded (fragments_of document) most o r report
    (All-contains (OperationNests (fragments_of document) most) (operations_of document) o nests.operations (first_stands (OperationNests (fragments_of document) most) (operations_of document) o first))
report_excludes most document r (fragment_nests_deep {d = d} _ first is) nests =
    fragment_excluded (fragments_of document) most r.levels d is.has is.passes
    (All-contains (FragmentNests (fragments_of document) most) (values document.fragments) d nests.fragments (first_stands (FragmentNests (fragments_of document) most) (values document.fragments) d first))
report_excludes most document r (endless_fragments_nest_deep _ _ report) nests =
    let same : r.levels ≡ nests.levels = one_sum (fragments_of document) report.has nests.endless in
    let within : nests.levels ≤ most = nests.within in
    let passes : most < r.levels = report.passes in
    omega arith

-- so where there is a report it does not
pub exactly_checked : (most : ℕ) (document : ExecutableDocument) (found : Option NestingReport) → MatchOption found (NestsWithin most document) (IsNestingReportOf most document) →
    IsSome found → ¬ NestsWithin most document
exactly_checked most document None nests some = absurd (let never : ⊥ = cc in never)
exactly_checked most document (Some r) report some = report_excludes most document r report
