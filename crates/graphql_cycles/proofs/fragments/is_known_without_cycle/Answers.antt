-- What the levels of a fragment say of the paths of spreads from it.
use Rattle.std.proofs.Common.{rules, ◌≡◌, ℕ, ◌<◌, ◌≤◌, arith, refl, Some, IsTrue, ◌∙◌, subst}
use Rattle.std.proofs.Math.Logic.{∥∥₁_elim, ∥∥₁_map}
use Rattle.std.proofs.lemmas.Bool.Decides.{nat_tests}
use Rattle.std.specs.Prelude.{IsFalse, nat_lt}
use Rattle.graphql_nodes.specs.Names.{SameName}
use Rattle.graphql_nodes.proofs.NameLemmas.{same_name_back}
use Rattle.graphql_documents.specs.Selections.{fragments_of}
use Rattle.graphql_documents.specs.declared.documents.executables.Fragment.{Fragment}
use Rattle.graphql_documents.proofs.SelectionLemmas.{one_fragment_found}
use Rattle.graphql_nesting.proofs.DescentLemmas.{shorter}
use Rattle.graphql_cycles.proofs.SpreadLevelLemmas.{no_longer_path, no_way_back}
use Rattle.graphql_cycles.proofs.fragments.is_known_without_cycle.Goals as goal

less_by_test : (levels : ℕ) → IsTrue (nat_lt levels 100) → levels < 100
less_by_test levels test = grind (arith, nat_tests)

pub returns-in-Some-clause-no_cycle : goal.returns-in-Some-clause-no_cycle
returns-in-Some-clause-no_cycle c = λ less found path cycle.
    let document = c.args.document.now.document.now in
    let d = c.args.fragment.now in
    let named : SameName c.args.name.now c.deref.result.now.name = search rules in
    let same = subst (λ (f : Fragment). SameName c.args.name.now f.name) c.deref.ensures named in
    let own : fragments_of document d.value.value.name ≡ Some d =
    one_fragment_found document d.value.value.name c.args.name.now (same_name_back c.args.name.now d.value.value.name same) ∙ found in
    ∥∥₁_elim (c.in-Some.ensures.levels d found) (λ x y. absurd x) (λ has. no_way_back document d c.in-Some.levels has own path cycle)

pub returns-in-Some-clause-no_long_path : goal.returns-in-Some-clause-no_long_path
returns-in-Some-clause-no_long_path c = λ less found long.
    let document = c.args.document.now.document.now in
    let d = c.args.fragment.now in
    ∥∥₁_elim (c.in-Some.ensures.levels d found) (λ x y. absurd x)
    (λ has. no_longer_path document d c.in-Some.levels has 100 (less_by_test c.in-Some.levels less) long)

-- as many levels as these, or ways down without end
enough_by_test : (levels : ℕ) → IsFalse (nat_lt levels 100) → 100 ≤ levels
enough_by_test levels test = grind (arith, nat_tests)

pub returns-in-Some-clause-deep : goal.returns-in-Some-clause-deep
returns-in-Some-clause-deep c = λ not_less named sought found.
    ∥∥₁_map (c.in-Some.ensures.levels c.args.fragment.now found)
    (λ has. shorter (fragments_of c.args.document.now.document.now) 99 has.descends (enough_by_test c.in-Some.levels not_less))

pub returns-in-None-clause-deep : goal.returns-in-None-clause-deep
returns-in-None-clause-deep c = λ no named sought found.
    ∥∥₁_map (c.in-None.ensures.endless refl sought c.args.fragment.now found) (λ endless. endless 99)
