use Rattle.std.proofs.Common.{◌∷◌, [], Some, subst, sym}
use Rattle.std.proofs.lemmas.Result.{IfOk-weaker}
use Rattle.graphql_frontend.specs.Documents.{ValidatesDocuments}
use Rattle.graphql_kept_projects.specs.Documents.{AreAllReports, AreFurtherOf, are_none, are_some}
use Rattle.graphql_kept_projects.proofs.documents.all_reports_of_documents.Goals as goal

pub returns-in-None : goal.returns-in-None
returns-in-None c =
    let First = ValidatesDocuments c.args.bounds (Some c.args.schema.now) c.args.sources.now in
    let first = subst First c.in-None.is c.in_ok-validate_documents.ensures in
    subst (AreAllReports First (AreFurtherOf c.args.bounds c.args.schema.now c.args.sources.now)) (sym c.new.ensures.items) (are_none first)

pub returns-in-Some : goal.returns-in-Some
returns-in-Some c =
    let First = ValidatesDocuments c.args.bounds (Some c.args.schema.now) c.args.sources.now in
    let Further = AreFurtherOf c.args.bounds c.args.schema.now c.args.sources.now in
    let first = subst First c.in-Some.is c.in_ok-validate_documents.ensures in
    IfOk-weaker c.with_further.result _ _ (λ lists (further, are, each). subst (AreAllReports First Further) (sym are) (are_some first each)) c.with_further.ensures
