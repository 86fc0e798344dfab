use Rattle.std.proofs.Common.{◌≡◌, ◌∙◌, None, Option, Some, rules, subst, sym}
use Rattle.std.specs.Prelude.{IsNone, IsSome, IsSomeAnd}
use Rattle.std.proofs.lemmas.Option.{same_Some}
use Rattle.graphql_nodes.specs.Names.{NameText, SameName}
use Rattle.graphql_change_kinds.proofs.FindsLemmas.{found_words}
use Rattle.graphql_document_building.specs.Trees.{root_name}
use Rattle.graphql_change_kinds.specs.Changes.{root_added, root_removed}
use Rattle.graphql_schema_comparison.proofs.roots.compare_root.Goals as goal

pub push-requires : goal.push-requires
push-requires c =
    let was : IsSome (root_name c.args.pair.old.now c.args.operation) = search rules in
    let none : IsNone (root_name c.args.pair.new.now c.args.operation) = search rules in
    root_removed was none

pub push-requires-in-None-Some : goal.push-requires-in-None-Some
push-requires-in-None-Some c =
    let none : IsNone (root_name c.args.pair.old.now c.args.operation) = search rules in
    let is : IsSome (root_name c.args.pair.new.now c.args.operation) = search rules in
    root_added none is

pub returns-in_ok-compare_names-in-Some-Some : goal.returns-in_ok-compare_names-in-Some-Some
returns-in_ok-compare_names-in-Some-Some c =
    let was : root_name c.args.pair.old.now c.args.operation ≡ Some c.in-Some-Some.old.now = search rules in
    let is : root_name c.args.pair.new.now c.args.operation ≡ Some c.in-Some-Some.new.now = search rules in
    found_words (λ merging same root at.
    subst (λ (o : Option NameText). IsSomeAnd o (SameName root)) (sym is) (subst (λ (r : NameText). SameName r c.in-Some-Some.new.now) (same_Some c.in-Some-Some.old.now root (sym was ∙ at)) same))
    c.in_ok-compare_names-in-Some-Some.ensures

pub returns-in_ok-push-in-None-Some : goal.returns-in_ok-push-in-None-Some
returns-in_ok-push-in-None-Some c =
    let none : root_name c.args.pair.old.now c.args.operation ≡ None = search rules in
    found_words (λ merging harmless root at. absurd (let no : ⊥ = cc in no)) c.in_ok-push-in-None-Some.ensures
