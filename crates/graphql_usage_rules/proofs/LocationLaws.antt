-- What is allowed at places: that it agrees with what is asked of arguments, and cases worked out.
use Rattle.std.proofs.Common.{◌≡◌, ◌↔◌, None}
use mathlib.Core.Logic.{inl, inr}
use Rattle.graphql_nodes.specs.Names.{NameText}
use Rattle.graphql_nodes.proofs.NameLemmas.{same_name_itself}
use Rattle.graphql_documents.specs.declared.documents.definitions.InputValueDefinition.{InputValueDefinition}
use Rattle.graphql_documents.specs.declared.documents.definitions.VariableDefinition.{VariableDefinition}
use Rattle.graphql_documents.specs.declared.documents.type_references.Type.TheVariants.{List', Named, NonNullNamed}
use Rattle.graphql_specification.specs.VariableUsages.{HasNonNullDefault, IsUsageAllowed}
use Rattle.graphql_usage_rules.specs.Usages.{item_location, location_of}
use Rattle.graphql_usage_rules.specs.VariableMisuses.{IsAllowedAt}

-- at the whole value of an argument or an input field this is what is asked of an argument that is a variable
pub allowed_by_definition : (v : VariableDefinition) (d : InputValueDefinition) → IsAllowedAt v (location_of d) ↔ IsUsageAllowed v d
allowed_by_definition v d = (λ a. a, λ a. a)

-- `$v: Int` is not allowed in `[$v]` where `[Int!]` is expected, whether or not the argument has a default
pub nullable_item : (v : VariableDefinition) (name : NameText) (place : _) (has_default : _) → v.ty.value.value ≡ Named name → v.default_value ≡ None →
    ¬ IsAllowedAt v (item_location (record { ty = List' place (NonNullNamed name); has_default = has_default }))
nullable_item v name place has_default is none = rw (is, none) (λ (default, compatible). elim default [
  | inl given ↦ given
  | inr given ↦ let no : ⊥ = cc in no
])

-- with a default that is not null it is
pub defaulted_item : (v : VariableDefinition) (name : NameText) (place : _) (has_default : _) → v.ty.value.value ≡ Named name → HasNonNullDefault v →
    IsAllowedAt v (item_location (record { ty = List' place (NonNullNamed name); has_default = has_default }))
defaulted_item v name place has_default is default = rw is (inl default, same_name_itself name)

-- `$v: [Int]` is not allowed in `[$v]` where `[Int]` is expected
pub list_for_item : (v : VariableDefinition) (name : NameText) (place other : _) (has_default : _) → v.ty.value.value ≡ List' other (Named name) →
    ¬ IsAllowedAt v (item_location (record { ty = List' place (Named name); has_default = has_default }))
list_for_item v name place other has_default is = rw is (λ compatible. let no : ⊥ = cc in no)
