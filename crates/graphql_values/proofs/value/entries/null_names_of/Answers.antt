use Rattle.std.proofs.Common.{◌≡◌, ◌+◌, take, true, false, sym, ◌∙◌, subst}
use Rattle.std.specs.Prelude.{◌≢◌}
use Rattle.graphql_documents.specs.declared.documents.values.Value.TheVariants as literal
use Rattle.graphql_hash_seeds.specs.declared.seeds.HashSeed.{HashSeed}
use Rattle.graphql_values.proofs.NullNameLemmas.{nulls_kept, nulls_more}
use Rattle.graphql_values.specs.EntriesByName.{HasNullNames}
use Rattle.graphql_values.proofs.value.entries.null_names_of.Goals as goal
use Rattle.graphql_values.proofs.value.entries.null_names_of.Goals.{in-Null, in_default, then-matches+in_ok-add_if_new, else-matches}

pub loop-place-preserved : goal.loop-place-preserved
loop-place-preserved c =
    let xs = c.args.entries.now in
    let i = c.loop-place.place in
    let x = c.index-entries-place.result in
    let is_null : c.match-matches.matches ≡ true → x.1.value.value ≡ literal.Null =
    λ e. elim c.match-matches.branch [
      | in-Null w ↦ sym c.deref.ensures ∙ w.in-Null.is
      | in_default w ↦ absurd (let no : ⊥ = cc in no)
    ] in
    let is_other : c.match-matches.matches ≡ false → x.1.value.value ≢ literal.Null =
    λ e null. elim c.match-matches.branch [
      | in-Null w ↦ let no : ⊥ = cc in no
      | in_default w ↦ w.in_default.not-Null (c.deref.ensures ∙ null)
    ] in
    elim c.if-matches.branch [
      | then-matches+in_ok-add_if_new w ↦
          subst (λ names. HasNullNames {S = HashSeed} names (take (i + 1) xs)) (sym w.names-is)
          (nulls_more xs i x c.loop-place-test.true c.index-entries-place.is i w.in_ok-add_if_new.ensures (is_null w.if-matches.true) c.loop-place.invariant)
      | else-matches w ↦
          subst (λ names. HasNullNames {S = HashSeed} names (take (i + 1) xs)) (sym w.names-is)
          (nulls_kept xs i x c.loop-place-test.true c.index-entries-place.is (is_other w.if-matches.false) c.loop-place.invariant)
    ]
