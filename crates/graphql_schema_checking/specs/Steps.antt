-- Words of the private steps of the checks.
use Rattle.std.specs.Prelude.{◌≡◌, List, [], ◌∷◌, ◌++◌, Option, filter, map, Vec}
use Rattle.std.specs.Borrow.{Bor}
use Rattle.std.specs.Option.{option_copied, option_map_or}
use Rattle.std.specs.declared.alloc.Global.{Global}
use Rattle.indexmap.specs.IndexMap.{IndexMap, get_by}
use Rattle.graphql_nodes.specs.Names.{NameText, same_name}
use Rattle.graphql_nodes.specs.declared.spans.SourceSpan.{SourceSpan}
use Rattle.graphql_trees.specs.declared.type_system.TypeDefinition.{TypeDefinition}
use Rattle.graphql_schema_checking.specs.Definitions.{name_of, type_named}
use Rattle.graphql_repetitions.specs.References.{nows}
use Rattle.graphql_schema_checking.specs.declared.single.Single.{Single}
use Rattle.graphql_schema_checking.specs.declared.single.Single.TheVariants as single
use Rattle.graphql_building_reports.specs.declared.rules.BuildingRule.TheVariants as rule
use Rattle.graphql_building_reports.specs.declared.rules.BuildingRule.{BuildingRule}

-- the rule that is broken where such a thing is there again
abbrev pub single_rule : Single → Option SourceSpan → BuildingRule
single_rule single.Schema original = rule.SchemaDefinitionCollision original
single_rule (single.Root operation) original = rule.DuplicateRootOperation operation original

-- the definition, unless one of its name is before it
abbrev pub unless_named : List TypeDefinition → TypeDefinition → List TypeDefinition
unless_named before d = option_map_or (λ first. []) (type_named before (name_of d)) (d ∷ [])

abbrev pub first_after : List TypeDefinition → List TypeDefinition → List TypeDefinition
first_after before [] = []
first_after before (d ∷ ds) = unless_named before d ++ first_after (before ++ d ∷ []) ds

-- the first definition of each name
abbrev pub first_definitions : List TypeDefinition → List TypeDefinition
first_definitions ds = first_after [] ds

-- the map has the first definition of each name
pub record AreFirst {S : Type 0} (first : IndexMap (Bor NameText) (Bor TypeDefinition) S) (definitions : List TypeDefinition) : Type 0 where
  pub look_up : (name : NameText) → option_copied (get_by (λ b. same_name name b.now) first) ≡ type_named definitions name
  pub values_are : map (λ e. e.1.now) first.entries ≡ first_definitions definitions

-- what the map has under a name
abbrev pub under : {S : Type 0} → IndexMap (Bor NameText) (Vec (Bor TypeDefinition) Global) S → NameText → List TypeDefinition
under found name = option_map_or (λ v. nows v.items) (get_by (λ b. same_name name b.now) found) []

-- the map has the extensions of each name
pub record FindsAll {S : Type 0} (found : IndexMap (Bor NameText) (Vec (Bor TypeDefinition) Global) S) (extensions : List TypeDefinition) : Type 0 where
  pub look_up : (name : NameText) → under found name ≡ filter (λ e. same_name name (name_of e)) extensions
