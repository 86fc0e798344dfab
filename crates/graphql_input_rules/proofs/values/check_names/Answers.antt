use Rattle.std.proofs.Common.{◌≡◌, ◌++◌, ◌∷◌, [], take, drop, ◌+◌, map, ap, ◌∙◌, subst, sym, rules, arith}
use Rattle.std.proofs.lemmas.List.{map-append}
use Rattle.graphql_nodes.specs.Names.{AreDistinct}
use Rattle.graphql_diagnostics.specs.Reports.{Reports}
use Rattle.graphql_diagnostics.proofs.ReportLemmas.{both, checks-err, holds, in_words, kept_by, kept_then}
use Rattle.graphql_documents.proofs.ListLemmas.{more_is}
use Rattle.graphql_variables.proofs.FirstPlaceLemmas.{distinct_more}
use Rattle.graphql_variables.proofs.SplitLemmas.{split_at}
use Rattle.graphql_variables.specs.FirstPlaces.{IsNext, Remembers}
use Rattle.graphql_repetitions.specs.Repetitions.{met_name}
use Rattle.graphql_input_rules.specs.InputFields.{RepetitionReport, entry_names}
use Rattle.graphql_input_rules.proofs.values.check_names.Goals as goal

pub loop-name-init : goal.loop-name-init
loop-name-init c = record {
  reported = holds _ _ _ (λ i j d lt h. absurd (let none : ⊥ = omega arith in none));
  remembered = c.with_hasher-seen.ensures;
}

pub returns-in_err-check_name : goal.returns-in_err-check_name
returns-in_err-check_name c =
    let xs = c.args.entries.now in
    let i = c.loop-name.name-index in
    let x = c.loop-name-item.result in
    let next : IsNext (entry_names xs) (entry_names (take i xs)) x.0 = record {
      after = entry_names (drop (i + 1) xs);
      split = ap entry_names (split_at xs i x c.loop-name-test.true c.loop-name-item.is) ∙ map-append (λ e. e.0) (take i xs) (x ∷ drop (i + 1) xs);
    } in
    checks-err _ _ _ _ _ c.from_residual.ensures.0
    (kept_then (kept_by c.loop-name.invariant.reported)
    (c.in_err-check_name.ensures.checks (entry_names xs) (entry_names (take i xs)) next c.loop-name.invariant.remembered))

pub loop-name-preserved : goal.loop-name-preserved
loop-name-preserved c =
    let xs = c.args.entries.now in
    let i = c.loop-name.name-index in
    let x = c.loop-name-item.result in
    let before = entry_names (take i xs) in
    let next : IsNext (entry_names xs) before x.0 = record {
      after = entry_names (drop (i + 1) xs);
      split = ap entry_names (split_at xs i x c.loop-name-test.true c.loop-name-item.is) ∙ map-append (λ e. e.0) (take i xs) (x ∷ drop (i + 1) xs);
    } in
    let more : before ++ x.0 ∷ [] ≡ entry_names (take (i + 1) xs) =
    sym (ap entry_names (more_is xs i x c.loop-name-test.true c.loop-name-item.is) ∙ map-append (λ e. e.0) (take i xs) (x ∷ [])) in
    record {
      reported =
          subst (λ l. Reports (AreDistinct l) (RepetitionReport (entry_names xs)) c.args.reports.now.kept.items c.check_name.new.reports.kept.items) more
          (in_words (distinct_more (λ n. n) before x.0)
          (both c.loop-name.invariant.reported (c.in_ok-check_name.ensures.checks (entry_names xs) before next c.loop-name.invariant.remembered)));
      remembered =
          subst (λ l. Remembers c.check_name.new.seen (map met_name l)) more
          (c.in_ok-check_name.ensures.remembered before c.loop-name.invariant.remembered);
    }
