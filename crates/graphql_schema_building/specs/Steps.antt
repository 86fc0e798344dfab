-- Words of the private steps of building.
use Rattle.std.specs.Prelude.{◌≡◌, List, [], Option, Vec, filter, find}
use Rattle.std.specs.Borrow.{Bor}
use Rattle.std.specs.Option.{option_copied, option_map, option_map_or}
use Rattle.std.specs.declared.alloc.Global.{Global}
use Rattle.indexmap.specs.IndexMap.{IndexMap, get_by}
use Rattle.graphql_nodes.specs.Names.{NameText, same_name}
use Rattle.graphql_documents.specs.declared.documents.components.ComponentName.{ComponentName}
use Rattle.graphql_trees.specs.declared.type_system.DirectiveDefinition.{DirectiveDefinition}
use Rattle.graphql_trees.specs.declared.type_system.TypeDefinition.{TypeDefinition}
use Rattle.graphql_schema_checking.specs.Definitions.{name_of}
use Rattle.graphql_schema_building.specs.Parts.{Originated}
use Rattle.graphql_schema_building.specs.TypeParts.{originated}
use Rattle.graphql_schema_building.specs.declared.roots.Root.{Root}
use Rattle.graphql_schema_building.specs.declared.types.TypePart.{TypePart}

-- what the map has under a name
abbrev pub parts_under : {S : Type 0} → IndexMap (Bor NameText) (Vec TypePart Global) S → NameText → List (Originated TypeDefinition)
parts_under found name = option_map_or (λ v. originated v.items) (get_by (λ b. same_name name b.now) found) []

-- the map has the extensions of each name
pub record FindsParts {S : Type 0} (found : IndexMap (Bor NameText) (Vec TypePart Global) S) (extensions : List (Originated TypeDefinition)) : Type 0 where
  pub look_up : (name : NameText) → parts_under found name ≡ filter (λ e. same_name name (name_of e.1)) extensions

-- the map has the first directive of each name
pub record FindsFirst {S : Type 0} (found : IndexMap (Bor NameText) (Bor DirectiveDefinition) S) (directives : List DirectiveDefinition) : Type 0 where
  pub look_up : (name : NameText) → option_copied (get_by (λ b. same_name name b.now) found) ≡ find (λ d. same_name d.name name) directives

-- the root that is named, as the schema has it
abbrev pub root_said : Option Root → Option ComponentName
root_said root = option_map (λ r. record { origin = r.origin; name = r.name.now }) root
