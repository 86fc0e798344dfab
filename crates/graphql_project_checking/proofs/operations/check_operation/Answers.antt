use Rattle.std.proofs.Common.{◌∙◌, None, Ok, Some, ap}
use Rattle.graphql_variables.specs.Uses.{names_of}
use Rattle.graphql_project_checking.specs.Silence.{HoldsWith}
use Rattle.graphql_project_checking.specs.Truth.{AreOfDocumentWith}
use Rattle.graphql_project_checking.proofs.SilenceLemmas.{quiet_one, stays_quiet}
use Rattle.graphql_project_checking.proofs.TruthLemmas.{adds_nothing, adds_one}
use Rattle.graphql_project_checking.proofs.operations.check_operation.Goals as goal

pub returns-in-None : goal.returns-in-None
returns-in-None c =
    let s = c.args.context.schema.now in
    let pool = c.args.context.pool.now in
    let o = c.args.operation.now in
    let names = names_of c.args.names.now.keys in
    record {
      silence = stays_quiet c.args.found.now.lists.items (λ off. HoldsWith off s pool o names)
          (λ off. c.reports_of.ensures.silence None (c.in_ok-reports_of.was ∙ ap Ok c.in-None.is) off tt);
      truth = adds_nothing (AreOfDocumentWith c.args.context.bounds s pool o names) c.args.found.now.lists.items;
    }

pub returns-in_ok-push-in-Some : goal.returns-in_ok-push-in-Some
returns-in_ok-push-in-Some c =
    let s = c.args.context.schema.now in
    let pool = c.args.context.pool.now in
    let o = c.args.operation.now in
    let names = names_of c.args.names.now.keys in
    record {
      silence = quiet_one c.args.found.now.lists.items c.push.new.self.lists.items _ (λ off. HoldsWith off s pool o names) c.in_ok-push-in-Some.ensures.lists
          (c.reports_of.ensures.silence (Some c.in-Some.reports) (c.in_ok-reports_of.was ∙ ap Ok c.in-Some.is));
      truth = adds_one (AreOfDocumentWith c.args.context.bounds s pool o names) c.args.found.now.lists.items c.push.new.self.lists.items _ c.in_ok-push-in-Some.ensures.lists
          (c.reports_of.ensures.truth c.in-Some.reports (c.in_ok-reports_of.was ∙ ap Ok c.in-Some.is));
    }
