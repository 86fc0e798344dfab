use Rattle.std.proofs.Common.{◌≡◌, ◌++◌, ◌∷◌, ◌∙◌, [], None, sym, subst, ap, find}
use Rattle.indexmap.specs.IndexMap.{get}
use Rattle.indexmap.proofs.CallerLemmas.{insert_entry-new}
use Rattle.graphql_nodes.specs.Names.{same_name}
use Rattle.graphql_trees.specs.declared.type_system.TypeDefinition.{TypeDefinition}
use Rattle.graphql_schema_checking.specs.Definitions.{name_of}
use Rattle.graphql_schema_building.specs.Parts.{type_extension_parts}
use Rattle.graphql_schema_building.specs.SchemaSays.{TypesStand}
use Rattle.graphql_schema_building.specs.TypeParts.{originated}
use Rattle.graphql_schema_building.specs.TypesSay.{PartsAreDistinct, PartsSay, TypeSays}
use Rattle.graphql_schema_building.proofs.DistinctLemmas.{last_is_new, none_there}
use Rattle.graphql_schema_building.proofs.PartLemmas.{zip_then}
use Rattle.graphql_schema_building.proofs.named_types.add_type.Goals as goal

pub build_type-requires : goal.build_type-requires
build_type-requires c =
    subst PartsAreDistinct (sym (ap originated c.deref.ensures.value ∙ c.in_ok-parts.ensures c.requires.0 c.requires.1)) c.requires.2

pub returns : goal.returns
returns c = λ definitions written f distinct s.
    let k = c.in_ok-name.name in
    let map = c.args.built.now in
    let d = c.args.definition.now in
    let built = c.in_ok-built_type.built_type in
    let named : k ≡ name_of d = c.in_ok-name.ensures ∙ c.type_name.ensures in
    let none : get same_name map k ≡ None =
    none_there name_of (λ d entry. (entry.0 ≡ name_of d) × TypeSays definitions d entry.1) (λ d entry q. q.0) written map.entries k s
    (ap (λ n. find (λ (y : TypeDefinition). same_name (name_of y) n) written) named ∙ last_is_new name_of written d distinct) in
    let says : TypeSays definitions d built =
    subst (λ parts. PartsSay d parts built) (ap originated c.deref.ensures.value ∙ c.in_ok-parts.ensures (type_extension_parts definitions) f) c.in_ok-built_type.ensures in
    subst (TypesStand definitions (written ++ d ∷ [])) (sym (c.in_ok-insert.ensures.entries ∙ insert_entry-new same_name map k built none))
    (zip_then (λ d entry. (entry.0 ≡ name_of d) × TypeSays definitions d entry.1) written (d ∷ []) map.entries ((k, built) ∷ []) s
    ((named, says), tt))
