-- Each step goes deeper, and the groups that were passed have been examined below.
use Rattle.std.proofs.Common.{◌≡◌, ◌+◌, ◌*◌, ◌-◌, List, take, All}
use Rattle.graphql_contents.specs.Documents.{contents_in, document_in}
use Rattle.graphql_diagnostics.specs.Diagnostics.{entries}
use Rattle.graphql_specification.specs.MergedSets.{IsGroup, MergedSet, merging_depth_limit}
use Rattle.graphql_specification.specs.Merging as merging
use Rattle.graphql_diagnostics.specs.Reports.{KeepsReports}
use Rattle.graphql_documents.specs.Selections.{fragments_of}
use Rattle.graphql_documents.specs.declared.documents.executables.Operation.{Operation}
use Rattle.graphql_nodes.specs.declared.nodes.Node.{Node}
use Rattle.graphql_guards.specs.Guards.{count_limit, count_of}
use Rattle.graphql_merging.specs.NumberedFields.{lists_of}
use Rattle.graphql_merging.specs.Groups.{pass_of}
use Rattle.graphql_merging.specs.Passes.{GoesBelow, IsConflict}
use Rattle.graphql_merging.specs.Stages.{stage_of}
use Rattle.graphql_merging.specs.Tables.{IsExaminedIn}
use Rattle.graphql_merging.specs.Works.{IsUnbounded, Pays, weight}
use Rattle.graphql_merging.proofs.passes.MergingPass.+merging.Given as goal

abbrev pub decreases-examine : goal.decreases-examine
decreases-examine g l = 2 * (merging_depth_limit - count_of l.depth.now) + 1

abbrev pub decreases-examine_below : goal.decreases-examine_below
decreases-examine_below g l = 2 * (merging_depth_limit - count_of l.depth.now)

abbrev pub invariant-examine-loop-group : goal.invariant-examine-loop-group
invariant-examine-loop-group g l = record {
  limit : count_limit l.depth ≡ count_limit l.initial.depth;
  work : IsUnbounded l.initial.work → IsUnbounded l.work;
  cost : Pays l.initial.work l.work l.initial.steps l.steps (2 * weight (lists_of (take l.group-index l.group-items)));
  known : IsExaminedIn (contents_in l.self.numbered.now) l.examined;
  below : GoesBelow l.self.schema.now (fragments_of (document_in l.self.numbered.now)) (pass_of l.self.pass) (lists_of (take l.group-index l.group-items))
      (stage_of l.initial.examined l.initial.depth l.initial.diagnostics) (stage_of l.examined l.depth l.diagnostics);
  truth : (operations : List (Node Operation)) (above : List merging.FieldSelection) →
      MergedSet l.self.schema.now (fragments_of (document_in l.self.numbered.now)) operations (pass_of l.self.pass) above →
      All (IsGroup l.self.schema.now above (pass_of l.self.pass)) (lists_of l.group-items) →
      KeepsReports (IsConflict l.self.schema.now (fragments_of (document_in l.self.numbered.now)) operations (pass_of l.self.pass)) (entries l.initial.diagnostics) (entries l.diagnostics);
}
