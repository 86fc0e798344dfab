use Rattle.std.proofs.Common.{rules, subst, true, ◌≡◌}
use Rattle.std.specs.BTreeSet.{UpdatesBy}
use Rattle.std.specs.Cmp.Lexicographic.{slice_cmp}
use Rattle.std.specs.Ordering.{nat_cmp}
use Rattle.std.specs.String.{string_bytes, string_cmp}
use Rattle.graphql_kept_reports.proofs.CutLemmas.{has_inserted}
use Rattle.graphql_kept_reports.proofs.names.add_name.Goals as goal

pub returns-in_ok-insert : goal.returns-in_ok-insert
returns-in_ok-insert c = λ text.
    let old = c.args.names.now in
    let new = c.insert.new.self in
    let name : string_bytes c.in_ok-from_str.field-0 ≡ c.args.name.now = search rules in
    has_inserted old new c.args.name.now text
    (subst (λ n. UpdatesBy string_cmp (λ k. slice_cmp nat_cmp n (string_bytes k)) old new true) name c.in_ok-insert.ensures.updates)
