use Rattle.std.proofs.Common.{◌≡◌, ◌∙◌, List, map, ap, subst}
use Rattle.std.proofs.lemmas.List.Elements.{All-contains_itself}
use Rattle.std.specs.Borrow.{Bor}
use Rattle.std.specs.Prelude.{MatchOption}
use Rattle.indexmap.specs.IndexMap.{values}
use mathlib.Core.Logic.{inr}
use Rattle.graphql_documents.specs.Executables.{operations_of}
use Rattle.graphql_diagnostics.specs.Diagnostics.{IsLimitEntry, limit_of_depth}
use Rattle.graphql_specification.specs.FragmentsUsed.{fragment_walk_passes}
use Rattle.graphql_documents.specs.declared.documents.executables.Operation.{Operation}
use Rattle.graphql_nodes.specs.declared.nodes.Node.{Node}
use Rattle.graphql_diagnostics.proofs.ReportWithinLemmas.{checks_limit}
use Rattle.graphql_operations.specs.UsedFragments.{AnyPasses, IsSpreadByAny}
use Rattle.graphql_operations.proofs.UsedFragmentLemmas.{bound_exact, fragments_checked, fragments_exact, where_none, where_some}
use Rattle.graphql_variables.specs.Uses.{HasUsed}
use Rattle.graphql_operations.proofs.fragments_used.validate_fragments_used.Goals as goal

pub returns-in-Some-clause-checks : goal.returns-in-Some-clause-checks
returns-in-Some-clause-checks c =
    let document = c.args.document.now in
    let same : map (λ (b : Bor (Node Operation)). b.now) c.deref.result.now ≡ operations_of document =
    ap (map (λ (b : Bor (Node Operation)). b.now)) c.deref.ensures.value ∙ c.in_ok-operations.ensures in
    let found = subst (λ (l : List (Node Operation)). MatchOption c.in_ok-used.field-0 (AnyPasses document l) (HasUsed (IsSpreadByAny document l))) same c.in_ok-used.ensures in
    let used = where_some c.in_ok-used.field-0 _ (HasUsed (IsSpreadByAny document (operations_of document))) c.in-Some.used c.in-Some.is found in
    fragments_checked document c.report_unused.result _ _ (All-contains_itself (values document.fragments)) (c.report_unused.ensures used)

pub returns-in-Some-clause-exact : goal.returns-in-Some-clause-exact
returns-in-Some-clause-exact c =
    let document = c.args.document.now in
    let same : map (λ (b : Bor (Node Operation)). b.now) c.deref.result.now ≡ operations_of document =
    ap (map (λ (b : Bor (Node Operation)). b.now)) c.deref.ensures.value ∙ c.in_ok-operations.ensures in
    let found = subst (λ (l : List (Node Operation)). MatchOption c.in_ok-used.field-0 (AnyPasses document l) (HasUsed (IsSpreadByAny document l))) same c.in_ok-used.ensures in
    let used = where_some c.in_ok-used.field-0 _ (HasUsed (IsSpreadByAny document (operations_of document))) c.in-Some.used c.in-Some.is found in
    fragments_exact document c.report_unused.result _ _ (c.report_unused.ensures used)

pub returns-clause-checks : goal.returns-clause-checks
returns-clause-checks c =
    let document = c.args.document.now in
    let same : map (λ (b : Bor (Node Operation)). b.now) c.deref.result.now ≡ operations_of document =
    ap (map (λ (b : Bor (Node Operation)). b.now)) c.deref.ensures.value ∙ c.in_ok-operations.ensures in
    let p = subst (AnyPasses document) same
    (where_none c.in_ok-used.field-0 (AnyPasses document (map (λ (b : Bor (Node Operation)). b.now) c.deref.result.now))
    (HasUsed (IsSpreadByAny document (map (λ (b : Bor (Node Operation)). b.now) c.deref.result.now))) c.in-None.is c.in_ok-used.ensures) in
    checks_limit IsLimitEntry _ _ _ _ _ _ c.push.ensures.ok c.push.ensures.err limit_of_depth (inr (fragment_walk_passes p.1 p.2))

pub returns-clause-exact : goal.returns-clause-exact
returns-clause-exact c =
    let document = c.args.document.now in
    let same : map (λ (b : Bor (Node Operation)). b.now) c.deref.result.now ≡ operations_of document =
    ap (map (λ (b : Bor (Node Operation)). b.now)) c.deref.ensures.value ∙ c.in_ok-operations.ensures in
    let p = subst (AnyPasses document) same
    (where_none c.in_ok-used.field-0 (AnyPasses document (map (λ (b : Bor (Node Operation)). b.now) c.deref.result.now))
    (HasUsed (IsSpreadByAny document (map (λ (b : Bor (Node Operation)). b.now) c.deref.result.now))) c.in-None.is c.in_ok-used.ensures) in
    bound_exact c.args.document.now c.push.result _ _ _ (fragment_walk_passes p.1 p.2) c.push.ensures.ok
