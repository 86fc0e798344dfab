-- If all that was compared is kept, documents stay valid.
use Rattle.std.proofs.Common.{◌≡◌, ◌∙◌, Bool, true, false, not, List, Option, Some, None, refl, subst}
use Rattle.std.specs.Prelude.{IsTrue, IsSomeAnd, Any, if◌then◌else◌}
use Rattle.std.proofs.lemmas.List.Elements.{All-contains}
use Rattle.graphql_nodes.specs.Names.{NameText, SameName, same_name}
use Rattle.graphql_nodes.proofs.NameLemmas.{same_name_back, same_name_then}
use Rattle.graphql_nodes.specs.declared.directive_locations.DirectiveLocation.{DirectiveLocation}
use Rattle.graphql_nodes.specs.declared.directive_locations.DirectiveLocation.TheVariants as location
use Rattle.graphql_nodes.specs.declared.nodes.Node.{Node}
use Rattle.graphql_documents.specs.Built.{StandsUnderOwnNames}
use Rattle.graphql_documents.specs.Directives.{directive_definition}
use Rattle.graphql_documents.specs.Schemas.{NamesKind, is_built_in, is_input_type, own_name, type_definition}
use Rattle.graphql_documents.specs.declared.documents.definitions.DirectiveDefinition.{DirectiveDefinition}
use Rattle.graphql_documents.specs.declared.documents.schemas.ExtendedType.{ExtendedType}
use Rattle.graphql_documents.specs.declared.documents.schemas.ExtendedType.TheVariants.{Scalar, Object, Interface, Union, Enum, InputObject}
use Rattle.graphql_documents.specs.declared.documents.schemas.ScalarType.{ScalarType}
use Rattle.graphql_documents.specs.declared.documents.schemas.Schema.{Schema}
use Rattle.graphql_document_building.specs.Documents.{HasOutputFields}
use Rattle.graphql_schema_changes.specs.Keeps.{IsExecutable, KeepsDirective, KeepsDirectives, KeepsDocumentsValid, KeepsInput, KeepsLoneFieldsValid, KeepsObject, KeepsSubscriptionRoot, KeepsValues, keeps_enum_values, keeps_input_fields, same_built_in_scalar, to_custom_scalar}
use Rattle.graphql_schema_parts.specs.Locations.{is_in_documents}
use Rattle.graphql_change_kinds.specs.Breaks.{can_become}
use Rattle.graphql_change_kinds.specs.Kinds.{kind_of}
use Rattle.graphql_schema_comparison.specs.Comparisons.{KeepsAll, KeepsApplications, KeepsContents, KeepsDirectiveNamed, KeepsLocation}
use Rattle.graphql_shape_comparison.specs.Shapes.{ShapeTable}
use Rattle.graphql_change_kinds.specs.declared.changes.TypeKind.{TypeKind}
use Rattle.graphql_change_kinds.specs.declared.changes.TypeKind.TheVariants as kind
use Rattle.graphql_schema_comparison.proofs.FieldLemmas.{fields_kept, place_stays, shapes_kept, type_stays}
use Rattle.graphql_change_kinds.proofs.FindsLemmas.{looked_up}
use Rattle.graphql_schema_comparison.proofs.KindLemmas.{still_object}
use Rattle.graphql_shape_comparison.proofs.NamedLemmas.{applies_as, one_directive, one_type, own_name_is}
use Rattle.graphql_schema_comparison.proofs.PossibleLemmas.{conditions_kept}

-- ==== values

abbrev scalar_kind : Bool → TypeKind
scalar_kind b = if b then kind.BuiltInScalar else kind.CustomScalar

-- a scalar in the place of an enum or an input object is a custom one
custom_for_enum : (b : Bool) → IsTrue (can_become kind.Enum (scalar_kind b)) → not b ≡ true
custom_for_enum true can = absurd (let no : ⊥ = cc in no)
custom_for_enum false can = refl

custom_for_object : (b : Bool) → IsTrue (can_become kind.InputObject (scalar_kind b)) → not b ≡ true
custom_for_object true can = absurd (let no : ⊥ = cc in no)
custom_for_object false can = refl

no_kind_for_scalar : (b : Bool) (to : TypeKind) → can_become kind.BuiltInScalar to ≡ false → can_become kind.CustomScalar to ≡ false → IsTrue (can_become (scalar_kind b) to) → ⊥
no_kind_for_scalar true to one two can = cc
no_kind_for_scalar false to one two can = cc

scalar_values : (x y : Node ScalarType) (p q : Bool) → is_built_in (Scalar x) ≡ p → is_built_in (Scalar y) ≡ q → IsTrue (can_become (scalar_kind p) (scalar_kind q)) →
    SameName x.value.value.name y.value.value.name → KeepsValues (Scalar x) (Scalar y)
scalar_values x y true true was is can same = same_built_in_scalar was is same
scalar_values x y p false was is can same = to_custom_scalar refl (rw is refl)
scalar_values x y false true was is can same = absurd (let no : ⊥ = cc in no)

values_kept : (table : ShapeTable) (old new : Schema) (merging : Bool) (name : NameText) (a b : ExtendedType) → IsTrue (can_become (kind_of a) (kind_of b)) →
    KeepsContents table old new merging name a b → SameName (own_name a) (own_name b) → IsTrue (is_input_type a) → KeepsValues a b
values_kept table old new merging name (Scalar x) (Scalar y) can contents same input =
    scalar_values x y (is_built_in (Scalar x)) (is_built_in (Scalar y)) refl refl can same
values_kept table old new merging name (Scalar x) (Object y) can contents same input = absurd (no_kind_for_scalar (is_built_in (Scalar x)) kind.Object refl refl can)
values_kept table old new merging name (Scalar x) (Interface y) can contents same input = absurd (no_kind_for_scalar (is_built_in (Scalar x)) kind.Interface refl refl can)
values_kept table old new merging name (Scalar x) (Union y) can contents same input = absurd (no_kind_for_scalar (is_built_in (Scalar x)) kind.Union refl refl can)
values_kept table old new merging name (Scalar x) (Enum y) can contents same input = absurd (no_kind_for_scalar (is_built_in (Scalar x)) kind.Enum refl refl can)
values_kept table old new merging name (Scalar x) (InputObject y) can contents same input = absurd (no_kind_for_scalar (is_built_in (Scalar x)) kind.InputObject refl refl can)
values_kept table old new merging name (Enum x) (Enum y) can contents same input = keeps_enum_values contents
values_kept table old new merging name (Enum x) (Scalar y) can contents same input = to_custom_scalar refl (custom_for_enum (is_built_in (Scalar y)) can)
values_kept table old new merging name (Enum x) _ can contents same input = absurd (let no : ⊥ = cc in no)
values_kept table old new merging name (InputObject x) (InputObject y) can contents same input = keeps_input_fields contents
values_kept table old new merging name (InputObject x) (Scalar y) can contents same input = to_custom_scalar refl (custom_for_object (is_built_in (Scalar y)) can)
values_kept table old new merging name (InputObject x) _ can contents same input = absurd (let no : ⊥ = cc in no)
values_kept table old new merging name _ b can contents same input = absurd (let no : ⊥ = cc in no)

-- ==== directives

some_words : {X : Type 0} (P Q : X → Type 0) (o : Option X) → ((x : X) → P x → Q x) → IsSomeAnd o P → IsSomeAnd o Q
some_words P Q (Some x) w p = w x p
some_words P Q None w p = absurd p

any_words : {X : Type 0} (P Q : X → Type 0) (xs : List X) → ((x : X) → P x → Q x) → Any P xs → Any Q xs
any_words P Q xs w any = (any.0, any.1, any.2, any.3, w any.1 any.4)

in_documents : (schema : Schema) (place : DirectiveLocation) → IsExecutable schema place → IsTrue (is_in_documents place)
in_documents schema location.Query is = refl
in_documents schema location.Mutation is = refl
in_documents schema location.Subscription is = refl
in_documents schema location.Field is = refl
in_documents schema location.FragmentDefinition is = refl
in_documents schema location.FragmentSpread is = refl
in_documents schema location.InlineFragment is = refl
in_documents schema location.VariableDefinition is = refl
in_documents schema _ is = absurd is

directive_kept : (schema : Schema) (before after : DirectiveDefinition) → KeepsApplications before after → KeepsDirective schema before after
directive_kept schema before after kept = record {
  arguments = kept.arguments;
  locations = λ place executable within.
      All-contains (KeepsLocation after) before.locations.items place kept.locations within (in_documents schema place executable);
  repeatable = kept.repeatable;
}

module _ (old new : Schema) (merging : Bool) (all : KeepsAll old new merging) where
  directives_kept : KeepsDirectives old new
  directives_kept name before is executable =
      let entry = looked_up (same_name name) (λ (entry : NameText × Node DirectiveDefinition). KeepsDirectiveNamed new entry.0 entry.1)
      old.directive_definitions.entries before is all.directives in
      let kept = entry.2 (any_words (IsExecutable old) (λ (place : DirectiveLocation). IsTrue (is_in_documents place)) before.value.value.locations.items (in_documents old) executable) in
      some_words (λ (after : Node DirectiveDefinition). KeepsApplications before.value.value after.value.value)
      (λ (after : Node DirectiveDefinition). KeepsDirective old before.value.value after.value.value)
      (directive_definition new name) (λ (after : Node DirectiveDefinition). directive_kept old before.value.value after.value.value)
      (subst (λ (o : Option (Node DirectiveDefinition)). IsSomeAnd o (λ (after : Node DirectiveDefinition). KeepsApplications before.value.value after.value.value))
      (one_directive new entry.0 name (same_name_back name entry.0 entry.1)) kept)

  -- ==== subscriptions

  subscription_root_kept : KeepsSubscriptionRoot old new
  subscription_root_kept root ty is composite applies =
      let stays = type_stays old new merging all ty composite.0 composite.1 in
      let place = place_stays old new merging all ty composite.0 stays composite.2 in
      applies_as old root stays.key ty (same_name_back ty stays.key stays.same) (place.subscription_root root is (applies_as new root ty stays.key stays.same applies))

  -- ==== objects

  object_kept : (name : NameText) → KeepsObject old new name
  object_kept name is =
      let stays = type_stays old new merging all name is.0 is.1 in
      (stays.kept.after, one_type new name stays.key stays.same ∙ stays.kept.is_defined, still_object is.0 stays.kept.after stays.kept.kind is.2)

  module _ (old_names : StandsUnderOwnNames old) (new_names : StandsUnderOwnNames new) where
    input_kept : (name : NameText) → NamesKind old is_input_type name → KeepsInput old new name
    input_kept name is =
        let stays = type_stays old new merging all name is.0 is.1 in
        let there : type_definition new name ≡ Some stays.kept.after = one_type new name stays.key stays.same ∙ stays.kept.is_defined in
        let same : SameName (own_name is.0) (own_name stays.kept.after) =
        same_name_then (own_name is.0) name (own_name stays.kept.after) (same_name_back name (own_name is.0) (own_name_is old old_names name is.0 is.1))
        (own_name_is new new_names name stays.kept.after there) in
        record {
          before = is.0;
          after = stays.kept.after;
          was_defined = is.1;
          is_defined = there;
          values = values_kept all.table old new merging stays.key is.0 stays.kept.after stays.kept.kind stays.kept.contents same is.2;
        }

    pub lone_fields_kept : HasOutputFields old → KeepsLoneFieldsValid old new
    lone_fields_kept outputs = record {
      roots = all.roots;
      fields = fields_kept old new merging all outputs;
      conditions = conditions_kept old new merging all old_names new_names;
      inputs = input_kept;
      directives = directives_kept;
      subscription_root = subscription_root_kept;
    }

    pub documents_kept : IsTrue merging → HasOutputFields old → HasOutputFields new → KeepsDocumentsValid old new
    documents_kept with_merging outputs new_outputs = record {
      rules = lone_fields_kept outputs;
      merging = record {
        shapes = λ overlap p q places. shapes_kept old new merging all outputs with_merging old_names new_outputs p q places.0 places.1;
        objects = λ name place. object_kept name;
      };
    }
