use Rattle.std.proofs.Common.{◌≡◌, Bor, None, sym, ap, ◌∙◌, true≢false, rules}
use Rattle.std.specs.Option.{is_some}
use Rattle.indexmap.specs.IndexMap.{get_by}
use Rattle.indexmap.proofs.CallerLemmas.{insert_entry-new}
use Rattle.graphql_nodes.specs.Names.{NameText, same_name}
use Rattle.graphql_variables.proofs.FirstPlaceLemmas.{none_mapped}
use Rattle.graphql_schema_checking.specs.Definitions.{type_named}
use Rattle.graphql_schema_checking.proofs.ByNameLemmas.{first_with, first_without}
use Rattle.graphql_schema_checking.proofs.by_name.add_if_new.Goals as goal

pub returns-in_ok-insert : goal.returns-in_ok-insert
returns-in_ok-insert c = λ before f.
    let first = c.args.first.now in
    let k = c.type_name-name.result in
    let none : get_by (λ b. same_name k.now b.now) first ≡ None = search rules in
    first_with k c.args.definition c.type_name-name.ensures none
    (λ other. let key : Bor NameText = record { ref_ptr = (0, 0); now = other } in c.in_ok-insert.ensures.updates.0 key)
    (c.in_ok-insert.ensures.entries ∙ insert_entry-new (λ a b. same_name a.now b.now) first k c.args.definition none) f

pub returns-else-not-contains_key : goal.returns-else-not-contains_key
returns-else-not-contains_key c = λ before f.
    let first = c.args.first.now in
    let k = c.type_name-name.result in
    let some : ¬ (get_by (λ b. same_name k.now b.now) first ≡ None) =
    λ none. true≢false (sym c.if-not-contains_key.false ∙ c.contains_key.ensures ∙ ap is_some none) in
    first_without c.args.definition.now
    (λ none. some (none_mapped (λ b. b.now) (get_by (λ b. same_name k.now b.now) first)
    (f.look_up k.now ∙ ap (type_named before) c.type_name-name.ensures ∙ none))) f
