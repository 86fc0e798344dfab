use Rattle.std.proofs.Common.{refl, sym, ◌∙◌, true≢false}
use Rattle.graphql_frontend.specs.Texts.{is_document}
use Rattle.graphql_frontend.proofs.TextLemmas.{error_added}
use Rattle.graphql_frontend.proofs.texts.parse_text.Goals as goal

pub returns-in_ok-push-in-Ok : goal.returns-in_ok-push-in-Ok
returns-in_ok-push-in-Ok c = is_document c.in-Ok.document c.in-Ok.ensures.found c.in_ok-push-in-Ok.ensures.items refl

pub returns-else-is_out_of_memory : goal.returns-else-is_out_of_memory
returns-else-is_out_of_memory c =
    error_added c.args.bounds (record { file_id = c.args.file_id; text = c.args.text }) c.in-Err.error _ _ _ c.add_error.result
    (λ tree is. true≢false (sym (c.is_out_of_memory.ensures.1 (c.in-Err.ensures.only tree is)) ∙ c.if-is_out_of_memory.false))
    c.in-Err.ensures.refused c.add_error.ensures
