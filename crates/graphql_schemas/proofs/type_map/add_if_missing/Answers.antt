use Rattle.std.proofs.Common.{◌≡◌, true, false, not, ◌&&◌, ap, sym, ◌∙◌}
use Rattle.std.specs.List.{list_any}
use Rattle.std.specs.Str.{bytes_eq}
use Rattle.graphql_schemas.proofs.TypeMapLemmas.{adds_none, adds_one, stands_under}
use Rattle.graphql_field_definitions.specs.BuiltInScalarUses.{holds_text}
use Rattle.graphql_schemas.proofs.type_map.add_if_missing.Goals as goal

pub returns-then-contains_key : goal.returns-then-contains_key
returns-then-contains_key c =
    let used = holds_text c.args.built_in_scalars.now in
    let types = c.args.types.now.entries in
    let text = c.args.text.now in
    let is_used : used text ≡ true = sym c.uses.ensures ∙ c.if-not-uses.false in
    let stands : list_any (λ entry. bytes_eq entry.0.text text) types ≡ true =
    sym (stands_under types c.in_ok-name.name text c.in_ok-name.ensures.text) ∙ sym c.contains_key.ensures ∙ c.if-contains_key.true in
    adds_none used types text c.args.missing.now.items (ap (λ b. used text && not b) stands ∙ ap (λ b. b && false) is_used)

pub returns : goal.returns
returns c =
    let used = holds_text c.args.built_in_scalars.now in
    let types = c.args.types.now.entries in
    let text = c.args.text.now in
    let is_used : used text ≡ true = sym c.uses.ensures ∙ c.if-not-uses.false in
    let lacks : list_any (λ entry. bytes_eq entry.0.text text) types ≡ false =
    sym (stands_under types c.in_ok-name.name text c.in_ok-name.ensures.text) ∙ sym c.contains_key.ensures ∙ c.if-contains_key.false in
    adds_one used types text c.args.missing.now.items c.push.new.self.items (c.in_ok-name.name, c.in_ok-definition.definition)
    (ap (λ b. used text && not b) lacks ∙ ap (λ b. b && true) is_used) c.in_ok-push.ensures.items
    (c.in_ok-definition.ensures c.in_ok-name.name c.in_ok-name.ensures.text c.in_ok-name.ensures.place)
