use Rattle.std.proofs.Common.{◌≡◌, ◌++◌, ◌∷◌, [], Bor, None, Some, sym, ap, ◌∙◌, Vec, cond}
use Rattle.std.specs.Map.{lookup}
use Rattle.std.specs.Option.{option_map_or}
use Rattle.std.specs.declared.alloc.Global.{Global}
use Rattle.std.proofs.lemmas.List.{map-append}
use Rattle.indexmap.specs.IndexMap.{get_by}
use Rattle.graphql_nodes.specs.Names.{NameText, same_name}
use Rattle.graphql_trees.specs.declared.type_system.TypeDefinition.{TypeDefinition}
use Rattle.graphql_schema_checking.proofs.ByNameLemmas.{set_found}
use Rattle.graphql_schema_building.specs.Parts.{Originated}
use Rattle.graphql_schema_building.specs.TypeParts.{originated}
use Rattle.graphql_schema_building.specs.declared.types.TypePart.{TypePart}
use Rattle.graphql_schema_building.proofs.FoundLemmas.{finds_more}
use Rattle.graphql_schema_building.proofs.type_parts.add_extension.Goals as goal

pub returns-in_ok-push-in-Some : goal.returns-in_ok-push-in-Some
returns-in_ok-push-in-Some c = λ before f.
    let k = c.type_name-name.result in
    let entries = c.args.found.now.entries in
    let known = c.in-Some.extensions.now in
    let there : lookup (λ b. same_name k.now b.now) entries ≡ Some known = sym c.in-Some.ensures.value in
    let new = c.push.new.self in
    let x : Originated TypeDefinition = (c.args.extension.origin, c.args.extension.definition.now) in
    finds_more k.now x new c.type_name-name.ensures
    (ap originated c.in_ok-push-in-Some.ensures.items ∙ map-append (λ (p : TypePart). (p.origin, p.definition.now)) known.items (c.args.extension ∷ []) ∙
    ap (λ o. option_map_or (λ (v : Vec TypePart Global). originated v.items) o [] ++ x ∷ []) (sym there))
    (λ m. ap (lookup (λ (b : Bor NameText). same_name m b.now)) (c.get_mut.follows.holds new).0 ∙ set_found new k.now m entries known there) f

pub returns-in_ok-insert-in-None : goal.returns-in_ok-insert-in-None
returns-in_ok-insert-in-None c = λ before f.
    let k = c.type_name-name.result in
    let entries = c.args.found.now.entries in
    let none : lookup (λ b. same_name k.now b.now) entries ≡ None = sym c.in-None.ensures.value in
    let new = c.push-in-None.new.self in
    let x : Originated TypeDefinition = (c.args.extension.origin, c.args.extension.definition.now) in
    finds_more k.now x new c.type_name-name.ensures
    (ap originated (c.in_ok-push-in-None.ensures.items ∙ ap (λ items. items ++ c.args.extension ∷ []) c.new-extensions.ensures.items) ∙
    ap (λ o. option_map_or (λ (v : Vec TypePart Global). originated v.items) o [] ++ x ∷ []) (sym none))
    (λ m. let key : Bor NameText = record { ref_ptr = (0, 0); now = m } in
    c.in_ok-insert-in-None.ensures.updates.0 key ∙
    ap (λ known. cond (same_name k.now m) (Some new) (get_by (λ b. same_name m b.now) known)) c.get_mut.follows.holds-at-none) f
