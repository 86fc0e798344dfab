use Rattle.std.proofs.Common.{rules, subst, sym}
use Rattle.graphql_kept_reports.specs.Reports.{KeepsReports}
use Rattle.graphql_kept_projects.specs.Left.{AreTrueOfOne}
use Rattle.graphql_kept_projects.proofs.LeftLemmas.{one_of_them}
use Rattle.graphql_project_checking.proofs.TruthLemmas.{adds_then}
use Rattle.graphql_kept_projects.proofs.certain.add_all_certain.Goals.{then-may_be_in+in_ok-add_certain_of, else-may_be_in}
use Rattle.graphql_kept_projects.proofs.certain.add_all_certain.Goals as goal

pub loop-source-preserved : goal.loop-source-preserved
loop-source-preserved c =
    let b = c.args.bounds in
    let read = c.args.read.now in
    let old = c.args.found.now.lists.items in
    let mid = c.loop-source.found.lists.items in
    let One = AreTrueOfOne b read in
    elim c.if-may_be_in.branch [
      | then-may_be_in+in_ok-add_certain_of w ↦
          let new = w.add_certain_of.new.found.lists.items in
          subst (λ (v : _). KeepsReports One old v.lists.items) (sym w.found-is)
          (adds_then One old mid new c.loop-source.invariant
          (one_of_them b read c.split_at.result.0.now c.split_at.result.1.now _ c.loop-source.source-index c.split_at.ensures.by_index.0 c.loop-source-test.true (search rules) mid new
          w.in_ok-add_certain_of.ensures))
      | else-may_be_in w ↦ subst (λ (v : _). KeepsReports One old v.lists.items) (sym w.found-is) c.loop-source.invariant
    ]
