use Rattle.graphql_coordinates.specs.declared.coordinates.DirectiveCoordinate.{DirectiveCoordinate}
use Rattle.graphql_change_kinds.specs.declared.changes.Change.TheVariants as change
use Rattle.graphql_change_kinds.specs.Changes.{IsChange, repeatable_added, repeatable_removed}
use Rattle.std.proofs.Common.{◌≡◌, ◌∙◌, false, sym, true, subst, rules}
use Rattle.graphql_change_kinds.proofs.FindsLemmas.{found_words}
use Rattle.graphql_schema_comparison.proofs.directives.compare_repeatable.Goals as goal

pub returns-in_ok-push-2 : goal.returns-in_ok-push-2
returns-in_ok-push-2 c =
    found_words (λ merging harmless is was. absurd (let e : false ≡ true = sym c.if-old.false ∙ was in let none : ⊥ = cc in none)) c.in_ok-push-2.ensures

pub push-requires : goal.push-requires
push-requires c =
    let old = c.args.pair.old.now in
    let new = c.args.pair.new.now in
    let was : c.args.old.now.repeatable ≡ true = search rules in
    let is : c.args.new.now.repeatable ≡ false = search rules in
    subst (λ (k : DirectiveCoordinate). IsChange old new (change.RepeatableRemoved k c.args.is_executable)) (sym c.in_ok-directive.ensures)
    (repeatable_removed c.args.old.now c.args.new.now c.requires.was c.requires.is was is c.requires.applicable)

pub push-requires-else-old : goal.push-requires-else-old
push-requires-else-old c =
    let old = c.args.pair.old.now in
    let new = c.args.pair.new.now in
    let was : c.args.old.now.repeatable ≡ false = search rules in
    let is : c.args.new.now.repeatable ≡ true = search rules in
    subst (λ (k : DirectiveCoordinate). IsChange old new (change.RepeatableAdded k)) (sym c.in_ok-directive.ensures)
    (repeatable_added c.args.old.now c.args.new.now c.requires.was c.requires.is was is)

pub returns-in_ok-push : goal.returns-in_ok-push
returns-in_ok-push c = found_words (λ merging other is was. absurd (let no : ⊥ = cc in no)) c.in_ok-push.ensures
