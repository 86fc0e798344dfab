use Rattle.std.proofs.Common.{◌≡◌, ◌∙◌, ◌+◌, ◌-◌, ◌<◌, ◌++◌, [], ◌∷◌, ap, arith, drop, get_or, length, map, refl, rules, subst, sym}
use Rattle.std.proofs.lemmas.List.{drop_more}
use Rattle.graphql_notes.specs.Cycles.{cycle_labels, refers, source_of, step_of}
use Rattle.graphql_notes.specs.Labels.{label, label_of, labels_beside}
use Rattle.graphql_notes.proofs.NoteLemmas.{stepped_more}
use Rattle.graphql_notes.proofs.cycles.notes_of_cycle.Goals as goal

pub loop-done-preserved : goal.loop-done-preserved
loop-done-preserved c =
    let references = c.args.references.now in
    let name = c.args.name.now in
    let n = length references in
    let k = n - (c.loop-done.done + 1) in
    let r = c.index-references-count.result in
    let before : c.loop-done.done < n = search rules in
    let same : (n - c.loop-done.done) ≡ k + 1 = omega (arith, before) in
    let within : k < n = omega (arith, before) in
    let same_index : (n - 1 - c.loop-done.done) ≡ k = omega (arith, before) in
    let is : r ≡ get_or references k r = subst (λ m. r ≡ get_or references m r) same_index c.index-references-count.is in
    let here : drop k references ≡ r ∷ drop (k + 1) references = drop_more references k r within ∙ ap (λ x. x ∷ drop (k + 1) references) (sym is) in
    let behind = map step_of (drop (k + 1) references) in
    let source : c.loop-done.source.now ≡ source_of name behind =
    subst (λ m. c.loop-done.source.now ≡ source_of name (map step_of (drop m references))) same c.loop-done.invariant.1 in
    let noted : map label_of c.loop-done.notes.items ≡ labels_beside c.args.at (cycle_labels name behind) =
    subst (λ m. map label_of c.loop-done.notes.items ≡ labels_beside c.args.at (cycle_labels name (map step_of (drop m references)))) same c.loop-done.invariant.2 in
    let more : map label_of c.add_step.new.notes.items ≡ map label_of c.loop-done.notes.items ++ labels_beside c.args.at (label r.place (refers (source_of name behind) r.target.now) ∷ []) =
    subst (λ s. map label_of c.add_step.new.notes.items ≡ map label_of c.loop-done.notes.items ++ labels_beside c.args.at (label r.place (refers s r.target.now) ∷ [])) source c.in_ok-add_step.ensures in (
      refl,
      ap (λ l. source_of name (map step_of l)) (sym here),
      stepped_more c.args.at name references k r (map label_of c.loop-done.notes.items) (map label_of c.add_step.new.notes.items) within is noted more,
    )
