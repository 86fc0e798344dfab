-- What the search from the fragment's set says of the fragment.
use Rattle.std.proofs.Common.{◌≡◌, ℕ, ◌+◌, List, [], ◌∷◌, ◌++◌, map, ap, ◌∙◌, subst}
use Rattle.graphql_diagnostics.proofs.ReportLemmas.{holds}
use Rattle.graphql_diagnostics.proofs.ReportWithinLemmas.{within}
use Rattle.graphql_diagnostics.specs.Diagnostics.{IsLimitEntry}
use Rattle.graphql_specification.specs.Fragments.{SpreadsBack, SpreadsBy, fragment_of, fragment_depth_limit}
use Rattle.graphql_nodes.specs.Names.{HasDifferentNames, NameText}
use Rattle.graphql_documents.specs.Selections.{fragments_of}
use Rattle.graphql_documents.specs.declared.documents.executables.Fragment.{Fragment}
use Rattle.graphql_documents.specs.declared.documents.executables.FragmentSpread.{FragmentSpread}
use Rattle.graphql_nodes.specs.declared.nodes.Node.{Node}
use Rattle.graphql_guards.specs.Guards.{path_limit, path_of}
use Rattle.graphql_cycles.proofs.CycleLemmas.{closed_no_way_back, cycle_of, long_path}
use Rattle.graphql_cycles.proofs.FragmentSearchLemmas.{ClosesOver, StopsOver, name_of}
use Rattle.graphql_cycles.proofs.SeenNameLemmas.{nothing_seen}
use Rattle.graphql_cycles.specs.CycleSearches.{GoesFar, LeadsBack, Traces}
use Rattle.graphql_cycles.specs.FragmentSearches.{SpreadIn}
use Rattle.graphql_cycles.proofs.fragments.validate_fragment_cycles.Goals as goal

pub returns-in-Ok : goal.returns-in-Ok
returns-in-Ok c = λ schema.
    let document = c.args.document.now in
    let d = c.args.fragment.now in
    let old = c.with_hasher-seen.result.keys in
    let new = c.search_set-searched.new.seen.keys in
    let closes : ClosesOver document d.value.value.name (SpreadsBy d) old new =
    subst (λ (f : Fragment). ClosesOver document f.name (SpreadsBy d) old new) c.deref.ensures
    (subst (λ (f : Fragment). ClosesOver document c.deref.result.now.name (SpreadIn f.selection_set) old new) c.deref-2.ensures c.in-Ok.ensures.searches) in
    within IsLimitEntry (holds _ _ _ (closed_no_way_back {IsBack = SpreadsBack} d (nothing_seen old c.with_hasher-seen.ensures.empty) closes))

pub returns-in-Err-Recursed : goal.returns-in-Err-Recursed
returns-in-Err-Recursed c = λ schema.
    let document = c.args.document.now in
    let d = c.args.fragment.now in
    let path = path_of c.with_limit-path.result in
    let limit = path_limit c.with_limit-path.result in
    let leads : LeadsBack SpreadsBy (fragment_of (fragments_of document)) (SpreadsBack d) (SpreadsBy d) (Traces c.in-Err-Recursed.trace.items) =
    subst (StopsOver document d.value.value.name (SpreadsBy d) path limit) c.in-Err-Recursed.field-0-is
    (subst (λ (f : Fragment). StopsOver document f.name (SpreadsBy d) path limit c.in-Err-Recursed.field-0) c.deref.ensures
    (subst (λ (f : Fragment). StopsOver document c.deref.result.now.name (SpreadIn f.selection_set) path limit c.in-Err-Recursed.field-0) c.deref-2.ensures c.in-Err-Recursed.ensures.searches)) in
    c.report_cycle.ensures schema (fragments_of document) (leads.before ++ leads.last ∷ []) (cycle_of {IsBack = SpreadsBack} d leads) leads.shows

pub returns-in-Err-Limit : goal.returns-in-Err-Limit
returns-in-Err-Limit c = λ schema.
    let document = c.args.document.now in
    let d = c.args.fragment.now in
    let own = d.value.value.name in
    let Stops = λ (root : NameText) (begins : Node FragmentSpread → Type 0) (path : List NameText) (limit : ℕ). StopsOver document root begins path limit c.in-Err-Limit.field-0 in
    let path = path_of c.with_limit-path.result in
    let limit = path_limit c.with_limit-path.result in
    let from_root : path ≡ own ∷ [] =
    c.with_limit-path.ensures.path ∙ c.in_ok-with_root.ensures.path ∙ ap (λ (n : NameText). n ∷ []) (c.in_ok-clone.ensures.cases ∙ ap (λ (f : Fragment). f.name) c.deref.ensures) in
    let far : GoesFar SpreadsBy (fragment_of (fragments_of document)) (SpreadsBy d) (λ way. HasDifferentNames (fragment_depth_limit + 1) (own ∷ map name_of way)) =
    subst (StopsOver document own (SpreadsBy d) (own ∷ []) 100) c.in-Err-Limit.field-0-is
    (subst (Stops own (SpreadsBy d) (own ∷ [])) c.with_limit-path.ensures.limit
    (subst (λ (names : List NameText). Stops own (SpreadsBy d) names limit) from_root
    (subst (λ (f : Fragment). Stops f.name (SpreadsBy d) path limit) c.deref.ensures
    (subst (λ (f : Fragment). Stops c.deref.result.now.name (SpreadIn f.selection_set) path limit) c.deref-2.ensures c.in-Err-Limit.ensures.searches)))) in
    c.report_nesting.ensures schema (fragments_of document) (long_path {name_of = name_of} own d far)
