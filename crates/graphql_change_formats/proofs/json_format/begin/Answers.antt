use Rattle.std.proofs.Common.{◌≡◌, [], ◌∷◌, ◌++◌, codes, rules}
use Rattle.std.proofs.lemmas.Result.{on_ok_weaker}
use Rattle.json.specs.Token.{begin_object}
use Rattle.graphql_report_formats.specs.JsonReports.{number_member}
use Rattle.graphql_change_formats.specs.ChangeJson.{boolean_member}
use Rattle.graphql_change_formats.proofs.ChangeLemmas.{joined}
use Rattle.graphql_change_formats.proofs.json_format.begin.Goals as goal

pub returns : goal.returns
returns c =
    let old = c.args.json.now.tokens in
    let begun = c.begin_object.new.self.tokens in
    let with_version = c.add_number.new.json.tokens in
    let with_documents = c.add_boolean.new.json.tokens in
    let ended = c.add_boolean-2.new.json.tokens in
    let version = number_member (codes "version") 1 in
    let documents = boolean_member (codes "keepsDocuments") c.args.comparison.now.keeps_documents in
    let lone = boolean_member (codes "keepsLoneFields") c.args.comparison.now.keeps_lone_fields in
    record {
      before = search rules;
      appended = on_ok_weaker {P = ended ≡ with_documents ++ lone} c.add_boolean-2.result
          (λ e. joined old begun ended (begin_object ∷ []) (version ++ (documents ++ lone)) c.in_ok-begin_object.ensures.ok
          (joined begun with_version ended version (documents ++ lone) c.in_ok-add_number.ensures.appended
          (joined with_version with_documents ended documents lone c.in_ok-add_boolean.ensures.appended e)))
          c.add_boolean-2.ensures.appended;
    }
