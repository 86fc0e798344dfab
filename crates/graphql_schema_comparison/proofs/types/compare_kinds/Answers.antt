use Rattle.graphql_change_kinds.specs.declared.changes.TypeKind.{TypeKind}
use Rattle.graphql_nodes.specs.Names.{NameText}
use Rattle.graphql_change_kinds.specs.declared.changes.Change.TheVariants as change
use Rattle.graphql_change_kinds.specs.Changes.{kind_changed, IsChange}
use Rattle.graphql_documents.specs.Schemas.{type_definition}
use Rattle.std.proofs.Common.{◌≡◌, ◌∙◌, ap₂, sym, rules, Some, false, subst, subst₂, true}
use Rattle.graphql_change_kinds.specs.Breaks.{can_become}
use Rattle.graphql_change_kinds.specs.contracts.changes.TypeKindPartialEq.TheImpl as kind_impl
use Rattle.graphql_schema_comparison.proofs.KindLemmas.{kind_itself}
use Rattle.graphql_change_kinds.proofs.FindsLemmas.{found_words}
use Rattle.graphql_input_comparison.proofs.TypeCopyLemmas.{not_false}
use Rattle.graphql_schema_comparison.proofs.types.compare_kinds.Goals as goal

pub returns : goal.returns
returns c =
    found_words (λ merging harmless.
    sym (ap₂ can_become c.of-from.ensures c.of-to.ensures) ∙ not_false (can_become c.of-from.result c.of-to.result) harmless)
    c.in_ok-push.ensures

pub push-requires : goal.push-requires
push-requires c =
    let old = c.args.pair.old.now in
    let new = c.args.pair.new.now in
    let named = sym c.in_ok-ty.ensures in
    subst₂ (λ (from to : TypeKind). IsChange old new (change.KindChanged c.in_ok-ty.ty from to)) (sym c.of-from.ensures) (sym c.of-to.ensures)
    (kind_changed c.args.old.now c.args.new.now
    (subst (λ (name : NameText). type_definition old name ≡ Some c.args.old.now) named c.requires.was)
    (subst (λ (name : NameText). type_definition new name ≡ Some c.args.new.now) named c.requires.is)
    (λ same.
    let one : c.of-from.result ≡ c.of-to.result = c.of-from.ensures ∙ same ∙ sym c.of-to.ensures in
    let found = subst (λ (k : TypeKind). kind_impl.ghosts.eq c.of-from.result k ≡ true) one (kind_itself c.of-from.result) in
    let other : kind_impl.ghosts.eq c.of-from.result c.of-to.result ≡ false = search rules in
    let no : ⊥ = cc in no))
