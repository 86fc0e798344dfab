use Rattle.std.proofs.Common.{refl}
use Rattle.std.specs.Prelude.{All}
use Rattle.graphql_diagnostics.specs.Reports.{KeepsReports}
use Rattle.graphql_documents.specs.Executables.{operations_of}
use Rattle.graphql_documents.specs.declared.documents.executables.ExecutableDocument.{ExecutableDocument}
use Rattle.graphql_frontend.specs.InputFields.{InputFieldsAreUnique}
use Rattle.graphql_projects.specs.Defer.{LabelsHold}
use Rattle.graphql_project_checking.specs.Silence.{FilePasses, OperationPasses, QuietOnlyIf}
use Rattle.graphql_project_checking.specs.Truth.{AreOfDefinitions, AreOfFile, AreOfOneOperation, of_definitions, of_operation}
use Rattle.graphql_project_checking.proofs.SilenceLemmas.{on_ok, quiet_then}
use Rattle.graphql_project_checking.proofs.TruthLemmas.{adds_so, adds_then}
use Rattle.graphql_project_checking.proofs.whole.check_file.Goals as goal

pub returns : goal.returns
returns c =
    let s = c.args.context.schema.now in
    let b = c.args.context.bounds in
    let pool = c.args.context.pool.now in
    let file = c.args.file in
    let whole : ExecutableDocument = record { operations = file.operations; fragments = c.check_operations.new.fragments } in
    let old = c.args.found.now.lists.items in
    let mid = c.check_operations.new.found.lists.items in
    let new = c.check_file_rules.new.found.items in
    record {
      passes = on_ok (QuietOnlyIf mid new (λ off. LabelsHold whole × InputFieldsAreUnique whole)) (QuietOnlyIf old new (λ off. FilePasses off s pool file))
          (quiet_then old mid new (λ off. All (OperationPasses off s pool) (operations_of file)) (λ off. LabelsHold whole × InputFieldsAreUnique whole)
          (λ off. FilePasses off s pool file)
          (λ off operations rules. record {
            operations = operations;
            whole = whole;
            same_operations = refl;
            borrows = c.in_ok-check_operations.ensures.borrows;
            unique = c.len-count.ensures.unique;
            labels = rules.0;
            input_fields = rules.1;
          }) c.in_ok-check_operations.ensures.passes) c.check_file_rules.result c.check_file_rules.ensures.silence;
      truth = on_ok (KeepsReports (AreOfDefinitions whole) mid new) (KeepsReports (AreOfFile b s pool file) old new)
          (λ adds. adds_then (AreOfFile b s pool file) old mid new
          (adds_so (AreOfOneOperation b s pool (operations_of file)) (AreOfFile b s pool file) old mid (λ r are. of_operation are) c.in_ok-check_operations.ensures.truth)
          (adds_so (AreOfDefinitions whole) (AreOfFile b s pool file) mid new (λ r are. of_definitions whole refl c.in_ok-check_operations.ensures.borrows are) adds))
          c.check_file_rules.result c.check_file_rules.ensures.truth;
      used = on_ok _ _ (λ h. c.in_ok-check_operations.ensures.used) c.check_file_rules.result c.check_file_rules.ensures.silence;
      noted = on_ok _ _ (λ h. c.in_ok-check_operations.ensures.noted) c.check_file_rules.result c.check_file_rules.ensures.silence;
    }
