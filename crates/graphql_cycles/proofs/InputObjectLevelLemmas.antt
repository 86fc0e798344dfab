-- What the levels of input objects say of the chains of fields from them.
use Rattle.std.proofs.Common.{◌≡◌, ℕ, ◌+◌, ◌≤◌, Bor, List, [], ◌∷◌, Some, All, IsTrue, arith, map, sym, ap, ◌∙◌, subst}
use Rattle.std.specs.HashMap.{HashMap}
use Rattle.std.specs.Option.{option_and_then}
use Rattle.std.proofs.lemmas.List.{length-map}
use Rattle.std.proofs.lemmas.List.Elements.{All-contains, All-head, All-map}
use Rattle.std.proofs.lemmas.Option.{none-some, same_Some}
use Rattle.graphql_nodes.specs.Names.{DifferentNames, NameText, stands_on}
use Rattle.graphql_nodes.specs.declared.nodes.Node.{Node}
use Rattle.graphql_documents.specs.Schemas.{as_input_object, input_object_named, type_definition}
use Rattle.graphql_documents.specs.TypeReferences.{inner_named_type}
use Rattle.graphql_documents.specs.declared.documents.components.Component.{Component}
use Rattle.graphql_documents.specs.declared.documents.definitions.InputValueDefinition.{InputValueDefinition}
use Rattle.graphql_documents.specs.declared.documents.schemas.InputObjectType.{InputObjectType}
use Rattle.graphql_documents.specs.declared.documents.schemas.Schema.{Schema}
use Rattle.graphql_documents.specs.declared.documents.type_references.Type.{«Type»}
use Rattle.graphql_documents.specs.declared.documents.type_references.Type.TheVariants.{Named, NonNullNamed, List', NonNullList'}
use Rattle.graphql_documents.proofs.ListLemmas.{All-append_right}
use Rattle.graphql_specification.specs.InputObjectCycles.{HasLongRequiredPath, InputObjectHasNoCycle, input_object_of, required_name}
use Rattle.graphql_name_tables.specs.Places.{place_under}
use Rattle.graphql_cycles.specs.InputObjectLevels.{AreInputObjectLevels, FieldLeadsLower, RequiresLower, RequiresLowerUnder, field_level}
use Rattle.graphql_cycles.specs.Levels.{AddsLevel, IsLower}
use Rattle.graphql_cycles.proofs.DifferentNameLemmas.{differs_from_itself, no_more}
use Rattle.graphql_cycles.proofs.InputObjectSearchLemmas.{name_of, one_type_found}
use Rattle.graphql_cycles.proofs.LevelLemmas.{below_added, below_more, level_more, lower_along, named_in, no_longer, one_level}

module _ {S : Type 0} (levels : HashMap (Bor NameText) ℕ S) (schema : Schema) where
  -- fields that lead lower are those by which their input object requires others
  pub fields_lower : (d : Node InputObjectType) (bound : ℕ) →
      All (λ entry. FieldLeadsLower levels schema bound entry.1.node) d.value.value.fields.entries → RequiresLower levels schema bound d
  fields_lower d bound all field by =
      let leads : FieldLeadsLower levels schema bound field =
      All-contains (FieldLeadsLower levels schema bound) (map (λ entry. entry.1.node) d.value.value.fields.entries) field
      (All-map (FieldLeadsLower levels schema bound) (λ (entry : NameText × Component InputValueDefinition). entry.1.node) d.value.value.fields.entries all)
      by.stands in
      leads.lower by.requires

  module _ (are : AreInputObjectLevels levels schema 32) (d : Node InputObjectType) (own : ℕ)
      (at : place_under levels d.value.value.name ≡ Some own) (lower : RequiresLower levels schema own d) where
    -- no chain of required fields leads back to an input object of a level
    pub no_way_back : InputObjectHasNoCycle schema d
    no_way_back path cycle =
        let P = IsLower (field_level levels) own in
        let all = subst (All P) cycle.ends (lower_along are.lower cycle.is_path lower) in
        let (j, there, less) = All-head P cycle.last [] (All-append_right P cycle.before (cycle.last ∷ []) all) in
        let same : j ≡ own = same_Some j own (sym there ∙ one_level levels (name_of cycle.last) d.value.value.name cycle.is_back ∙ at) in
        omega arith

    -- and none goes through more input objects than there are levels
    pub no_longer_path : ¬ HasLongRequiredPath schema d 33
    no_longer_path (path, is_path, (chosen, counted, distinct, among)) =
        let name = d.value.value.name in
        let within = are.below name own at in
        let long = no_longer are.lower is_path lower in
        let fit = no_more chosen (name ∷ map name_of path) DifferentNames differs_from_itself distinct among name in
        omega (arith, length-map path name_of)

module _ (schema : Schema) where
  -- the input object that a field requires is the one of the name of its type
  named : (field : Node InputValueDefinition) (d : Node InputObjectType) → input_object_of schema field ≡ Some d → input_object_named schema (name_of field) ≡ Some d
  named field d is = at field.value.value.ty.value.value is where
    at : (t : «Type») → option_and_then as_input_object (option_and_then (type_definition schema) (required_name t)) ≡ Some d →
        input_object_named schema (inner_named_type t) ≡ Some d
    at (NonNullNamed n) is = is
    at (Named n) is = absurd (none-some d is)
    at (List' place t) is = absurd (none-some d is)
    at (NonNullList' place t) is = absurd (none-some d is)

  -- a level more
  pub input_object_level_more : {S : Type 0} {old new : HashMap (Bor NameText) ℕ S} (n : ℕ) (names : List NameText) → All (RequiresLowerUnder old schema n) names →
      AddsLevel old new names n → AreInputObjectLevels old schema n → AreInputObjectLevels new schema (n + 1)
  input_object_level_more {old = old} n names all adds levels = record {
    lower =
        level_more (λ field. IsTrue (stands_on names (name_of field)))
        (λ field d there is.
        let (k, among, same) = named_in names (name_of field) there in
        All-contains (RequiresLowerUnder old schema n) names k all among d
        (ap (option_and_then as_input_object) (sym (one_type_found schema (name_of field) k same)) ∙ named field d is))
        (λ field i at. adds.kept (name_of field) i at) (λ field i at. adds.added (name_of field) i at) levels.lower;
    below = below_added adds levels.below;
  }

-- levels below a bound are below a larger one
pub objects_within : {S : Type 0} {levels : HashMap (Bor NameText) ℕ S} {schema : Schema} {most bound : ℕ} → most ≤ bound →
    AreInputObjectLevels levels schema most → AreInputObjectLevels levels schema bound
objects_within {levels = levels} le are = record { lower = are.lower; below = below_more levels le are.below }
