use Rattle.std.proofs.Common.{◌≡◌, [], ◌∷◌, ◌++◌, ap, sym, ◌∙◌, true≢false}
use Rattle.graphql_frontend.specs.Documents.{is_no_document}
use Rattle.graphql_frontend.proofs.TextLemmas.{one_error}
use Rattle.graphql_frontend.proofs.documents.report_syntax.Goals as goal

pub returns-then-is_out_of_memory : goal.returns-then-is_out_of_memory
returns-then-is_out_of_memory c = λ bounds schema source same only refused. tt

pub returns : goal.returns
returns c = λ bounds schema source same only refused.
    let items : c.push.new.self.items ≡ record { file_id = c.args.file_id; error = c.args.error } ∷ [] =
    c.in_ok-push.ensures.items ∙ ap (λ l. l ++ record { file_id = c.args.file_id; error = c.args.error } ∷ []) c.new-errors.ensures.items in
    is_no_document (record { file_id = source.file_id; error = c.args.error })
    (one_error bounds source c.args.error (λ tree is. true≢false (sym (c.is_out_of_memory.ensures.1 (only tree is)) ∙ c.if-is_out_of_memory.false)) (rw same refused))
    (rw same items)
