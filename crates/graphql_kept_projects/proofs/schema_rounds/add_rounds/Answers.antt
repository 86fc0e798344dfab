use Rattle.std.proofs.Common.{subst, sym}
use Rattle.graphql_kept_reports.specs.Reports.{KeepsReports}
use Rattle.graphql_kept_projects.specs.Schemas.{AreTrueOfLeftSchema}
use Rattle.graphql_kept_projects.proofs.LeftLemmas.{zip_less}
use Rattle.graphql_kept_projects.proofs.SchemaLemmas.{adds_certain}
use Rattle.graphql_project_checking.proofs.TruthLemmas.{adds_nothing, adds_then}
use Rattle.graphql_kept_projects.proofs.schema_rounds.add_rounds.Goals.{else-loop-test, then-loop-test+in_ok-left+in_ok-reports+in_ok-faults+in_ok-add_certain+then-is_empty}
use Rattle.graphql_kept_projects.proofs.schema_rounds.add_rounds.Goals as goal

pub loop-init : goal.loop-init
loop-init c = record {
  left = c.requires;
  in_doubt = λ first in_doubt. in_doubt;
  adds = λ first in_doubt. adds_nothing (AreTrueOfLeftSchema c.args.bounds c.args.whole.now first) c.args.further.now.items;
}

pub loop-preserved : goal.loop-preserved
loop-preserved c =
    let whole = c.args.whole.now in
    let mid = c.loop.further.items in
    let new = c.add_certain.new.further.items in
    let left = zip_less whole c.loop.left.texts.items c.in_ok-left.left.texts.items c.loop.invariant.left c.in_ok-left.ensures in
    record {
      left = left;
      in_doubt = λ first in_doubt. c.in_ok-faults.ensures first (c.loop.invariant.in_doubt first in_doubt);
      adds = λ first in_doubt. adds_then (AreTrueOfLeftSchema c.args.bounds whole first) c.args.further.now.items mid new (c.loop.invariant.adds first in_doubt)
          (adds_certain c.args.bounds whole first _ c.in_ok-reports.reports mid new (c.in_ok-faults.ensures first (c.loop.invariant.in_doubt first in_doubt))
          (c.in_ok-reports.ensures whole left) c.in_ok-add_certain.ensures);
    }

pub returns : goal.returns
returns c = λ first in_doubt.
    let whole = c.args.whole.now in
    let One = AreTrueOfLeftSchema c.args.bounds whole first in
    let old = c.args.further.now.items in
    let mid = c.loop.further.items in
    elim c.loop-test.branch [
      | else-loop-test w ↦ subst (λ (v : _). KeepsReports One old v.items) (sym w.further-is) (c.loop.invariant.adds first in_doubt)
      | then-loop-test+in_ok-left+in_ok-reports+in_ok-faults+in_ok-add_certain+then-is_empty w ↦
          let new = w.add_certain.new.further.items in
          let left = zip_less whole c.loop.left.texts.items w.in_ok-left.left.texts.items c.loop.invariant.left w.in_ok-left.ensures in
          subst (λ (v : _). KeepsReports One old v.items) (sym w.further-is)
          (adds_then One old mid new (c.loop.invariant.adds first in_doubt)
          (adds_certain c.args.bounds whole first _ w.in_ok-reports.reports mid new (w.in_ok-faults.ensures first (c.loop.invariant.in_doubt first in_doubt))
          (w.in_ok-reports.ensures whole left) w.in_ok-add_certain.ensures))
    ]
