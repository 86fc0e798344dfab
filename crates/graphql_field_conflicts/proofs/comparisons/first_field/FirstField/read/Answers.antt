use Rattle.std.proofs.Common.{◌≡◌, None, ◌∷◌, ◌++◌, [], sym, ap, ◌∙◌, map}
use Rattle.std.proofs.lemmas.List.{map-append}
use Rattle.graphql_documents.specs.Directives.{argument_named}
use Rattle.graphql_name_tables.proofs.PlaceLemmas.{is_nothing, is_something}
use Rattle.graphql_field_conflicts.proofs.FirstFieldLemmas.{firsts_with_known, firsts_with_new}
use Rattle.graphql_field_conflicts.specs.FirstFields.{firsts_behind}
use Rattle.graphql_field_conflicts.proofs.comparisons.first_field.FirstField.read.Goals as goal

pub returns-in_ok-push-clause-distinct : goal.returns-in_ok-push-clause-distinct
returns-in_ok-push-clause-distinct c =
    let seen = c.args.self.now.seen in
    let x = c.args.last.now in
    let new : argument_named x.value.value.name seen ≡ None = is_nothing (argument_named x.value.value.name seen) (c.in_ok-is_first.ensures.first.0 c.if-is_first.true) in
    ap (map (λ r. r.now)) c.in_ok-push.ensures.items ∙ map-append (λ r. r.now) c.args.self.now.distinct.items (c.args.last ∷ []) ∙
    ap (λ l. l ++ x ∷ []) c.requires.distinct ∙ sym (firsts_with_new seen x new) ∙
    ap (firsts_behind []) (sym c.requires.grown ∙ sym c.in_ok-is_first.ensures.elements)

pub returns-else-is_first-clause-distinct : goal.returns-else-is_first-clause-distinct
returns-else-is_first-clause-distinct c =
    let seen = c.args.self.now.seen in
    let x = c.args.last.now in
    let known = is_something (argument_named x.value.value.name seen) (λ none. let is = c.in_ok-is_first.ensures.first.1 none in let no : ⊥ = cc in no) in
    c.requires.distinct ∙ sym (firsts_with_known seen x known) ∙ ap (firsts_behind []) (sym c.requires.grown ∙ sym c.in_ok-is_first.ensures.elements)
