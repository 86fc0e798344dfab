use Rattle.std.proofs.Common.{subst, sym}
use Rattle.graphql_kept_reports.specs.Reports.{KeepsReports}
use Rattle.graphql_kept_projects.specs.Left.{AreFurther}
use Rattle.graphql_kept_projects.proofs.LeftLemmas.{adds_round, zip_less}
use Rattle.graphql_project_checking.proofs.TruthLemmas.{adds_nothing, adds_then}
use Rattle.graphql_kept_projects.proofs.rounds.add_rounds.Goals.{else-loop-test, then-loop-test+in_ok-left+in_ok-doubts+in_ok-further+in_ok-faults+in_ok-add_unreached_of+in_ok-add_known+then-is_empty}
use Rattle.graphql_kept_projects.proofs.rounds.add_rounds.Goals as goal

pub loop-init : goal.loop-init
loop-init c = record {
  left = c.requires.left;
  adds = adds_nothing (AreFurther c.args.bounds c.args.schema.now c.args.read.now) c.args.found.now.lists.items;
}

pub loop-preserved : goal.loop-preserved
loop-preserved c =
    let read = c.args.read.now in
    let left = zip_less read c.loop.left.texts.items c.in_ok-left.left.texts.items c.loop.invariant.left c.in_ok-left.ensures in
    record {
      left = left;
      adds = adds_then (AreFurther c.args.bounds c.args.schema.now read) c.args.found.now.lists.items c.loop.found.lists.items c.add_known.new.found.lists.items c.loop.invariant.adds
          (adds_round c.args.bounds c.args.schema.now read c.in_ok-doubts.doubts c.in_ok-further.further.lists.items c.loop.found.lists.items
          c.add_unreached_of.new.found.lists.items c.add_known.new.found.lists.items (c.in_ok-further.ensures read left) (c.in_ok-add_unreached_of.ensures read left) c.in_ok-add_known.ensures);
    }

pub returns : goal.returns
returns c =
    let read = c.args.read.now in
    let old = c.args.found.now.lists.items in
    let One = AreFurther c.args.bounds c.args.schema.now read in
    elim c.loop-test.branch [
      | else-loop-test w ↦ subst (λ (v : _). KeepsReports One old v.lists.items) (sym w.found-is) c.loop.invariant.adds
      | then-loop-test+in_ok-left+in_ok-doubts+in_ok-further+in_ok-faults+in_ok-add_unreached_of+in_ok-add_known+then-is_empty w ↦
          let left = zip_less read c.loop.left.texts.items w.in_ok-left.left.texts.items c.loop.invariant.left w.in_ok-left.ensures in
          subst (λ (v : _). KeepsReports One old v.lists.items) (sym w.found-is)
          (adds_then One old c.loop.found.lists.items w.add_known.new.found.lists.items c.loop.invariant.adds
          (adds_round c.args.bounds c.args.schema.now read w.in_ok-doubts.doubts w.in_ok-further.further.lists.items c.loop.found.lists.items
          w.add_unreached_of.new.found.lists.items w.add_known.new.found.lists.items (w.in_ok-further.ensures read left) (w.in_ok-add_unreached_of.ensures read left) w.in_ok-add_known.ensures))
    ]
