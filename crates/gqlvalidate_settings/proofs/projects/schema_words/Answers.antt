use Rattle.std.proofs.Common.{◌≡◌, ◌∙◌, false, map, rules, string_bytes, subst, true}
use Rattle.std.specs.List.{list_any}
use Rattle.gqlvalidate_settings.specs.Projects.{is_url}
use Rattle.gqlvalidate_settings.specs.declared.keys.Key.TheVariants as key
use Rattle.gqlvalidate_settings.proofs.ListLemmas.{any_map, lists_once_at}
use Rattle.gqlvalidate_settings.proofs.projects.schema_words.Goals as goal

pub returns-then-has_url-clause-refused : goal.returns-then-has_url-clause-refused
returns-then-has_url-clause-refused c = λ not_memory words are.
    let items = c.in_ok-listed.listed.items in
    let listed = map string_bytes items in
    let same = lists_once_at key.Schema c.args.members.now are.listed listed are.lists c.in_ok-listed.ensures.listed in
    let none : list_any is_url listed ≡ false = subst (λ texts. list_any is_url texts ≡ false) same are.are_files in
    let here : list_any (λ text. is_url (string_bytes text)) items ≡ true = search rules in
    let some : list_any is_url listed ≡ true = any_map is_url string_bytes items ∙ here in
    cc
