use Rattle.std.proofs.Common.{rules, subst, sym}
use Rattle.graphql_kept_projects.specs.Documents.{AddsParts}
use Rattle.graphql_kept_projects.proofs.DocumentLemmas.{parts_among}
use Rattle.graphql_project_checking.proofs.TruthLemmas.{stands_at}
use Rattle.graphql_kept_projects.proofs.parts.add_all_parts.Goals.{in-Some+in_ok-add_parts, in_default}
use Rattle.graphql_kept_projects.proofs.parts.add_all_parts.Goals as goal

pub loop-source-preserved : goal.loop-source-preserved
loop-source-preserved c =
    let sources = c.args.sources.now in
    let old = c.args.parts.now.items in
    elim c.match-get.branch [
      | in-Some+in_ok-add_parts w ↦
          subst (λ (v : _). AddsParts sources old v.items) (sym w.parts-is)
          (parts_among sources _ old c.loop-source.parts.items w.add_parts.new.parts.items
          (stands_at sources c.loop-source.source-index _ c.loop-source-test.true (search rules)) c.loop-source.invariant w.in_ok-add_parts.ensures)
      | in_default w ↦ subst (λ (v : _). AddsParts sources old v.items) (sym w.parts-is) c.loop-source.invariant
    ]
