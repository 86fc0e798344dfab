use Rattle.std.proofs.Common.{◌≡◌, ◌++◌, codes, rules}
use Rattle.std.proofs.lemmas.Result.{on_ok_weaker}
use Rattle.graphql_report_formats.specs.JsonReports.{number_member}
use Rattle.graphql_change_formats.proofs.ChangeLemmas.{joined}
use Rattle.graphql_change_formats.proofs.json_format.add_counts.Goals as goal

pub returns : goal.returns
returns c =
    let old = c.args.json.now.tokens in
    let with_documents = c.add_number.new.json.tokens in
    let ended = c.add_number-2.new.json.tokens in
    let documents = number_member (codes "documents") c.args.documents in
    let invalid = number_member (codes "invalidBefore") c.args.invalid_before in
    record {
      before = search rules;
      appended = on_ok_weaker {P = ended ≡ with_documents ++ invalid} c.add_number-2.result
          (λ e. joined old with_documents ended documents invalid c.in_ok-add_number.ensures.appended e)
          c.add_number-2.ensures.appended;
    }
