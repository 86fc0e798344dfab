use Rattle.std.proofs.Common.{◌≡◌, Bor, List, ℕ, None, Some, cond, sym, ap, true≢false, ◌∙◌, rules}
use Rattle.std.specs.HashMap.{get_by}
use Rattle.std.specs.Option.{is_some, option_copied}
use Rattle.std.specs.Str.{bytes_eq}
use Rattle.graphql_nodes.specs.Names.{NameText, SameName, same_name}
use Rattle.graphql_nodes.proofs.NameLemmas.{same_text}
use Rattle.graphql_documents.specs.declared.documents.definitions.VariableDefinition.{VariableDefinition}
use Rattle.graphql_nodes.specs.declared.nodes.Node.{Node}
use Rattle.graphql_variables.proofs.FirstPlaceLemmas.{chosen_or, kept_or, map_in_front, none_mapped}
use Rattle.graphql_variables.proofs.VariablesByNameLemmas.{finds_more}
use Rattle.graphql_variables.proofs.by_name.add_if_new.Goals as goal

pub returns-in_ok-insert : goal.returns-in_ok-insert
returns-in_ok-insert c = λ before.
    let x = c.args.definition.now in
    let first = c.args.first.now in
    let name_is : c.deref.result.now.name ≡ x.value.value.name = ap (λ v. v.name) c.deref.ensures in
    let name = c.deref.result.now.name in
    let none : get_by (λ b. same_name name b.now) first ≡ None = search rules in
    let look = λ (text : List ℕ). get_by (λ (b : Bor NameText). bytes_eq text b.now.text) first in
    finds_more x (λ other.
    let key : Bor NameText = record { ref_ptr = (0, 0); now = other } in
    ap option_copied (c.in_ok-insert.ensures.updates.0 key) ∙
    map_in_front (λ (b : Bor (Node VariableDefinition)). b.now) (same_name name other) c.args.definition (look other.text) ∙
    ap (λ n. cond (same_name n other) (Some x) (option_copied (look other.text))) name_is ∙
    chosen_or (same_name x.value.value.name other) x (option_copied (look other.text))
    (λ (same : SameName x.value.value.name other).
    ap (λ text. option_copied (look text)) (sym (same_text x.value.value.name other same) ∙ ap (λ n. n.text) (sym name_is)) ∙ ap option_copied none))

pub returns-else-not-contains_key : goal.returns-else-not-contains_key
returns-else-not-contains_key c = λ before.
    let x = c.args.definition.now in
    let first = c.args.first.now in
    let name_is : c.deref.result.now.name ≡ x.value.value.name = ap (λ v. v.name) c.deref.ensures in
    let name = c.deref.result.now.name in
    let some : ¬ (get_by (λ b. same_name name b.now) first ≡ None) =
    λ none. true≢false (sym c.if-not-contains_key.false ∙ c.contains_key.ensures ∙ ap is_some none) in
    let look = λ (text : List ℕ). get_by (λ (b : Bor NameText). bytes_eq text b.now.text) first in
    finds_more x (λ other.
    kept_or (same_name x.value.value.name other) x (option_copied (look other.text))
    (λ same none. some (
    ap look (ap (λ n. n.text) name_is ∙ same_text x.value.value.name other same) ∙
    none_mapped (λ (b : Bor (Node VariableDefinition)). b.now) (look other.text) none)))
