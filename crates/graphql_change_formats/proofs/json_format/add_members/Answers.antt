use Rattle.std.proofs.Common.{◌≡◌, ◌++◌, Some, codes, rules}
use Rattle.std.proofs.lemmas.Result.{on_ok_weaker}
use Rattle.graphql_report_formats.specs.JsonReports.{file, number_member, span}
use Rattle.graphql_report_formats.specs.NamedTexts.{part}
use Rattle.graphql_change_formats.proofs.ChangeLemmas.{joined}
use Rattle.graphql_change_formats.proofs.json_format.add_members.Goals as goal

pub returns : goal.returns
returns c =
    let at = part c.args.located in
    let old = c.args.json.now.tokens in
    let with_file = c.add_file.new.json.tokens in
    let with_line = c.add_number.new.json.tokens in
    let with_column = c.add_number-2.new.json.tokens in
    let with_span = c.add_span.new.json.tokens in
    let line = number_member (codes "line") at.start.line in
    let column = number_member (codes "column") at.start.column in
    record {
      before = search rules;
      appended = on_ok_weaker {P = with_span ≡ with_column ++ span (Some at)} c.add_span.result
          (λ e. joined old with_file with_span (file at.path) (line ++ (column ++ span (Some at))) c.in_ok-add_file.ensures.appended
          (joined with_file with_line with_span line (column ++ span (Some at)) c.in_ok-add_number.ensures.appended
          (joined with_line with_column with_span column (span (Some at)) c.in_ok-add_number-2.ensures.appended e)))
          c.add_span.ensures.appended;
    }
