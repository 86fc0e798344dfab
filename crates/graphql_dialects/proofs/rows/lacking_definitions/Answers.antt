use Rattle.std.proofs.Common.{◌≡◌, ◌∙◌, ◌++◌, true, false, ap, get_or, sym, string_bytes, rules}
use Rattle.graphql_repetitions.specs.References.{nows}
use Rattle.graphql_dialects.specs.Rows.{words_of}
use Rattle.graphql_dialects.proofs.RowLemmas.{no_row, row_lacking, row_taken, taken_now}
use Rattle.graphql_dialects.proofs.rows.lacking_definitions.Goals.{then-not-is_taken+in_ok-push_words, else-not-is_taken}
use Rattle.graphql_dialects.proofs.rows.lacking_definitions.Goals as goal

pub loop-row-preserved : goal.loop-row-preserved
loop-row-preserved c =
    let taken = c.args.taken.now in
    let rows = c.args.rows.now in
    let i = c.loop-row.row-index in
    elim c.if-not-is_taken.branch [
      | then-not-is_taken+in_ok-push_words w ↦
          let no : c.is_taken.result ≡ false = search rules in
          ap string_bytes w.text-is ∙ w.in_ok-push_words.ensures ∙ ap (λ t. t ++ words_of (get_or rows i no_row)) c.loop-row.invariant
          ∙ sym (row_lacking (nows taken) rows i no_row c.loop-row-test.true (taken_now _ taken ∙ sym c.is_taken.ensures ∙ no))
      | else-not-is_taken w ↦
          let yes : c.is_taken.result ≡ true = search rules in
          ap string_bytes w.text-is ∙ c.loop-row.invariant
          ∙ sym (row_taken (nows taken) rows i no_row c.loop-row-test.true (taken_now _ taken ∙ sym c.is_taken.ensures ∙ yes))
    ]
