use Rattle.std.proofs.Common.{◌≡◌, Ok, ap, sym, subst, ◌∙◌}
use Rattle.graphql_syntax.specs.Inputs.{Input}
use Rattle.graphql_syntax.specs.Reading.{Fails, input}
use Rattle.graphql_parser.specs.DocumentReaders.{whole_document_at}
use Rattle.graphql_parser.specs.Parses.{whole_input}
use Rattle.graphql_parser.specs.Refusals.{IsRefusal, refusal_error}
use Rattle.graphql_parser.proofs.ParseLemmas.{parsed, only, refused, failed_only, no_stop, end_no_error, same_input, stopped}
use Rattle.graphql_parser.proofs.parse.document_of_tokens.Goals as goal

pub returns-in-Err-clause-only : goal.returns-in-Err-clause-only
returns-in-Err-clause-only c = λ tree is.
    let e = c.new-cursor.ensures in
    let same = same_input (input c.new-cursor.result) c.args.file_id c.args.text.now c.args.scanned.now.tokens.items e.file_id (e.source ∙ c.as_bytes.ensures.value) (e.tokens ∙ c.deref.ensures.value) e.ended in
    let failed = subst (λ (i : Input). Fails c.in-Err.refusal (whole_document_at c.args.bounds.depth i)) same c.in-Err.ensures in
    let (end, read) = only c.args.bounds c.args.file_id c.args.text.now c.args.scanned.now.tokens.items c.args.scanned.now.stop tree c.requires is in
    c.refusal_error.ensures ∙
    ap (λ (i : Input). refusal_error c.in-Err.refusal i.tokens c.args.scanned.now.stop) same ∙
    failed_only c.args.scanned.now.tokens.items c.args.scanned.now.stop tree (whole_document_at c.args.bounds.depth (whole_input c.args.file_id c.args.text.now c.args.scanned.now.tokens.items)) c.in-Err.refusal failed read

pub returns-in-Err-clause-refused : goal.returns-in-Err-clause-refused
returns-in-Err-clause-refused c =
    let e = c.new-cursor.ensures in
    let same = same_input (input c.new-cursor.result) c.args.file_id c.args.text.now c.args.scanned.now.tokens.items e.file_id (e.source ∙ c.as_bytes.ensures.value) (e.tokens ∙ c.deref.ensures.value) e.ended in
    let failed = subst (λ (i : Input). Fails c.in-Err.refusal (whole_document_at c.args.bounds.depth i)) same c.in-Err.ensures in
    rw c.refusal_error.ensures
    (subst (λ (i : Input). IsRefusal c.args.bounds c.args.file_id c.args.text.now (refusal_error c.in-Err.refusal i.tokens c.args.scanned.now.stop)) (sym same)
    (refused c.args.bounds c.args.file_id c.args.text.now c.args.scanned.now.tokens.items c.args.scanned.now.stop c.in-Err.refusal c.requires failed))

pub returns-in-Some-clause-only : goal.returns-in-Some-clause-only
returns-in-Some-clause-only c = λ tree is.
    let (end, read) = only c.args.bounds c.args.file_id c.args.text.now c.args.scanned.now.tokens.items c.args.scanned.now.stop tree c.requires is in
    absurd (end_no_error c.args.scanned.now.stop c.in-Some.error end (sym c.stop_error.ensures ∙ c.in-Some.is))

pub returns-in-Some-clause-refused : goal.returns-in-Some-clause-refused
returns-in-Some-clause-refused c =
    let e = c.new-cursor.ensures in
    let same = same_input (input c.new-cursor.result) c.args.file_id c.args.text.now c.args.scanned.now.tokens.items e.file_id (e.source ∙ c.as_bytes.ensures.value) (e.tokens ∙ c.deref.ensures.value) e.ended in
    let read = subst (λ (i : Input). whole_document_at c.args.bounds.depth i ≡ Ok c.in-Ok.document) same c.in-Ok.ensures in
    stopped c.args.bounds c.args.file_id c.args.text.now c.args.scanned.now.tokens.items c.args.scanned.now.stop c.in-Some.error c.in-Ok.document
    c.requires (sym c.stop_error.ensures ∙ c.in-Some.is) read

pub returns-in-None-clause-found : goal.returns-in-None-clause-found
returns-in-None-clause-found c =
    let e = c.new-cursor.ensures in
    let same = same_input (input c.new-cursor.result) c.args.file_id c.args.text.now c.args.scanned.now.tokens.items e.file_id (e.source ∙ c.as_bytes.ensures.value) (e.tokens ∙ c.deref.ensures.value) e.ended in
    let read = subst (λ (i : Input). whole_document_at c.args.bounds.depth i ≡ Ok c.in-Ok.document) same c.in-Ok.ensures in
    let end = no_stop c.args.scanned.now.stop (sym c.stop_error.ensures ∙ c.in-None.is) in
    parsed c.args.bounds c.args.file_id c.args.text.now c.args.scanned.now.tokens.items c.in-Ok.document (rw end at c.requires) read

pub returns-in-None-clause-only : goal.returns-in-None-clause-only
returns-in-None-clause-only c = λ tree is.
    let e = c.new-cursor.ensures in
    let same = same_input (input c.new-cursor.result) c.args.file_id c.args.text.now c.args.scanned.now.tokens.items e.file_id (e.source ∙ c.as_bytes.ensures.value) (e.tokens ∙ c.deref.ensures.value) e.ended in
    let here = subst (λ (i : Input). whole_document_at c.args.bounds.depth i ≡ Ok c.in-Ok.document) same c.in-Ok.ensures in
    let (end, read) = only c.args.bounds c.args.file_id c.args.text.now c.args.scanned.now.tokens.items c.args.scanned.now.stop tree c.requires is in
    let found : c.in-Ok.document ≡ tree = cc in found
