use Rattle.std.proofs.Common.{◌≡◌, ◌∙◌, ap, sym, subst, slice_index, slice_range, IsUtf8, arith}
use Rattle.std.proofs.lemmas.Result.{MatchResult-weaker}
use Rattle.graphql_answers.specs.Batches.{IsNoText, document_at, is_beyond, is_no_utf8}
use Rattle.graphql_answers.proofs.batches.Batch.text.Goals.{then-end-start-via-then-end-start, then-end-start-via-else-end-start+then-self-end}
use Rattle.graphql_answers.proofs.batches.Batch.text.Goals as goal

pub returns : goal.returns
returns c =
    let bytes = c.args.self.bytes.now in
    let end = slice_index c.args.self.ends.now c.args.k in
    let same : slice_range bytes c.start-start.result end ≡ document_at bytes c.args.self.ends.now c.args.k =
    ap (λ s. slice_range bytes s end) c.start-start.ensures in
    MatchResult-weaker c.text_of.result c.text_of.ensures
    (λ text is. is ∙ same)
    (λ refusal is. subst (IsNoText bytes c.args.self.ends.now c.args.k) (sym is.0) (is_no_utf8 (λ u. is.1 (subst IsUtf8 (sym same) u))))

pub returns-then-end-start : goal.returns-then-end-start
returns-then-end-start c = is_beyond (λ within. elim c.then-end-start.branch [
  | then-end-start-via-then-end-start w ↦ grind (arith, c.start-start.ensures, within.ordered, w.if-end-start.true)
  | then-end-start-via-else-end-start+then-self-end w ↦ grind (arith, within.within, w.if-self-end.true)
])
