use Rattle.graphql_kept_projects.specs.Left.{AreKnownOf, AreRules}
use Rattle.graphql_kept_projects.proofs.LeftLemmas.{filtered, on_ok}
use Rattle.graphql_kept_reports.specs.Diagnostics.{entries}
use Rattle.graphql_project_checking.proofs.TruthLemmas.{adds_so}
use Rattle.graphql_kept_projects.proofs.unreached.add_known_rules.Goals as goal

pub returns : goal.returns
returns c =
    let all = c.args.reports in
    let list = c.add_known_of_fragments.new.known in
    let known = filtered _ (entries all.rules) c.into_entries.result.items (entries c.with_hash_seed-known.result) (entries list) c.with_hash_seed-known.ensures.empty
    c.into_entries.ensures c.in_ok-add_known_of_fragments.ensures in
    on_ok c.push_rules.result _ _
    (adds_so (AreRules list) (AreKnownOf c.args.doubts.now c.args.added all) c.args.found.now.lists.items c.push_rules.new.found.lists.items
    (λ r are. record { rules = list; are = are; known = known })) c.push_rules.ensures
