use Rattle.std.proofs.Common.{◌≡◌, ◌++◌, ◌∷◌, [], Bor, None, Some, sym, ap, ◌∙◌, Vec, cond}
use Rattle.std.specs.Map.{lookup}
use Rattle.std.specs.Option.{option_map_or}
use Rattle.std.specs.declared.alloc.Global.{Global}
use Rattle.std.proofs.lemmas.List.{map-append}
use Rattle.indexmap.specs.IndexMap.{get_by}
use Rattle.graphql_nodes.specs.Names.{NameText, same_name}
use Rattle.graphql_trees.specs.declared.type_system.TypeDefinition.{TypeDefinition}
use Rattle.graphql_repetitions.specs.References.{nows}
use Rattle.graphql_schema_checking.proofs.ByNameLemmas.{finds_all_more, set_found}
use Rattle.graphql_schema_checking.proofs.by_name.add_extension.Goals as goal

pub returns-in_ok-push-in-Some : goal.returns-in_ok-push-in-Some
returns-in_ok-push-in-Some c = λ before f.
    let k = c.type_name-name.result in
    let entries = c.args.found.now.entries in
    let known = c.in-Some.extensions.now in
    let there : lookup (λ b. same_name k.now b.now) entries ≡ Some known = sym c.in-Some.ensures.value in
    let new = c.push.new.self in
    finds_all_more k.now c.args.extension.now new c.type_name-name.ensures
    (ap nows c.in_ok-push-in-Some.ensures.items ∙ map-append (λ r. r.now) known.items (c.args.extension ∷ []) ∙
    ap (λ o. option_map_or (λ (v : Vec (Bor TypeDefinition) Global). nows v.items) o [] ++ c.args.extension.now ∷ []) (sym there))
    (λ m. ap (lookup (λ (b : Bor NameText). same_name m b.now)) (c.get_mut.follows.holds new).0 ∙ set_found new k.now m entries known there) f

pub returns-in_ok-insert-in-None : goal.returns-in_ok-insert-in-None
returns-in_ok-insert-in-None c = λ before f.
    let k = c.type_name-name.result in
    let entries = c.args.found.now.entries in
    let none : lookup (λ b. same_name k.now b.now) entries ≡ None = sym c.in-None.ensures.value in
    let new = c.push-in-None.new.self in
    finds_all_more k.now c.args.extension.now new c.type_name-name.ensures
    (ap nows (c.in_ok-push-in-None.ensures.items ∙ ap (λ items. items ++ c.args.extension ∷ []) c.new-extensions.ensures.items) ∙
    ap (λ o. option_map_or (λ (v : Vec (Bor TypeDefinition) Global). nows v.items) o [] ++ c.args.extension.now ∷ []) (sym none))
    (λ m. let key : Bor NameText = record { ref_ptr = (0, 0); now = m } in
    c.in_ok-insert-in-None.ensures.updates.0 key ∙
    ap (λ known. cond (same_name k.now m) (Some new) (get_by (λ b. same_name m b.now) known)) c.get_mut.follows.holds-at-none) f
