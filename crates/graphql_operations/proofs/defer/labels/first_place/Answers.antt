use Rattle.std.proofs.Common.{◌≡◌, None, Some, Bor, List, ℕ, rules}
use Rattle.std.specs.Str.{bytes_eq}
use Rattle.indexmap.specs.IndexMap.{get_by}
use Rattle.graphql_operations.proofs.DeferLabelLemmas.{remembers_known, remembers_new}
use Rattle.graphql_operations.proofs.defer.labels.first_place.Goals as goal

pub returns-in-Some-clause-remembered : goal.returns-in-Some-clause-remembered
returns-in-Some-clause-remembered c = λ visited d r h.
    let found : get_by (λ k. bytes_eq c.args.text.now k.now) c.args.labels.now ≡ Some c.in-Some.first.now = search rules in
    remembers_known r d c.args.text.now c.args.location h c.in-Some.first.now found

pub returns-in_ok-insert-in-None-clause-remembered : goal.returns-in_ok-insert-in-None-clause-remembered
returns-in_ok-insert-in-None-clause-remembered c = λ visited d r h.
    let none : get_by (λ k. bytes_eq c.args.text.now k.now) c.args.labels.now ≡ None = search rules in
    remembers_new r d c.args.text.now c.args.location h none (λ text.
    let key : Bor (List ℕ) = record { ref_ptr = (0, 0); now = text } in
    c.in_ok-insert-in-None.ensures.updates.0 key)
