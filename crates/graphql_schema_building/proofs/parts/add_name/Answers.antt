use Rattle.std.proofs.Common.{◌≡◌, ◌∙◌, ◌++◌, ◌∷◌, [], false, cond, ap, sym}
use Rattle.std.specs.List.{list_any}
use Rattle.std.proofs.lemmas.List.{map-append}
use Rattle.graphql_nodes.specs.Names.{NameText, same_name}
use Rattle.graphql_documents.specs.declared.documents.components.ComponentName.{ComponentName}
use Rattle.graphql_schema_building.specs.Parts.{Originated, names_said}
use Rattle.graphql_schema_building.proofs.DistinctLemmas.{name_is_new}
use Rattle.graphql_schema_building.proofs.parts.add_name.Goals as goal

pub returns : goal.returns
returns c = λ written distinct s.
    let said = λ (x : Originated NameText). let n : ComponentName = record { origin = x.0; name = x.1 } in n in
    let x : Originated NameText = (c.args.origin, c.args.tree.now) in
    let k : ComponentName = record { origin = c.args.origin; name = c.in_ok-name.name } in
    let keys = c.args.names.now.keys in
    let none : list_any (λ m. same_name k.name m.name) keys ≡ false =
    ap (list_any (λ m. same_name k.name m.name)) s ∙ name_is_new written x k c.in_ok-name.ensures distinct in
    c.in_ok-insert.ensures.keys ∙ ap (λ b. cond b keys (keys ++ k ∷ [])) none ∙ ap (λ l. l ++ k ∷ []) s ∙
    ap (λ n. names_said written ++ said (c.args.origin, n) ∷ []) c.in_ok-name.ensures ∙ sym (map-append said written (x ∷ []))
