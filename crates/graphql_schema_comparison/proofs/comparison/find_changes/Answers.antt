use Rattle.std.proofs.Common.{◌≡◌, [], All, rules, subst, sym}
use Rattle.std.proofs.lemmas.List.Sorted.{All-permutation, IsPermutation-sym}
use Rattle.std.proofs.lemmas.List.Elements.{All-nil}
use Rattle.graphql_change_kinds.specs.Breaks.{IsHarmless}
use Rattle.graphql_change_kinds.specs.Changes.{IsTrueOf}
use Rattle.graphql_change_kinds.proofs.FindsLemmas.{found_both}
use Rattle.graphql_schema_comparison.proofs.comparison.find_changes.Goals as goal

pub returns : goal.returns
returns c =
    let old = c.args.pair.old.now in
    let new = c.args.pair.new.now in
    let list = c.compare_directives.new.changes.changes.items in
    let sorted = c.in_ok-changes.changes.items in
    let found = found_both (found_both c.in_ok-compare_roots.ensures c.in_ok-compare_types.ensures) c.in_ok-compare_directives.ensures in
    let empty : c.new-2.result.items ≡ [] = search rules in
    record {
      keeps = λ merging harmless.
          let back = All-permutation (IsHarmless merging) sorted list (IsPermutation-sym list sorted c.in_ok-changes.ensures) harmless in
          let kept = found.keeps merging back in
          record {
            table = c.in_ok-meetings.meetings.by_shape;
            knows = c.in_ok-meetings.ensures.knows;
            roots = kept.1.0.0;
            types = kept.1.0.1;
            directives = kept.1.1;
          };
      each = All-permutation (IsTrueOf old new) list sorted c.in_ok-changes.ensures (found.each (subst (All (IsTrueOf old new)) (sym empty) (All-nil (IsTrueOf old new))));
    }
