-- The definitions of a schema that texts say are listed under their own names.
use Rattle.std.proofs.Common.{◌≡◌, ◌⊎◌, inl, inr, List, [], ◌∷◌, sym, ◌∙◌, subst, All, Contains}
use Rattle.std.specs.List.{AllZip}
use Rattle.std.proofs.lemmas.List.Elements.{All-cons, All-contains, All-nil}
use Rattle.graphql_nodes.specs.Names.{NameText, SameName}
use Rattle.graphql_nodes.specs.declared.nodes.Node.{Node}
use Rattle.graphql_nodes.proofs.NameLemmas.{from_same_text, same_name_itself}
use Rattle.graphql_documents.specs.Built.{StandsUnderOwnNames, TypeStandsUnderItsName}
use Rattle.graphql_documents.specs.declared.documents.components.Component.{Component}
use Rattle.graphql_documents.specs.declared.documents.schemas.ExtendedType.{ExtendedType}
use Rattle.graphql_documents.specs.declared.documents.schemas.ExtendedType.TheVariants as typed
use Rattle.graphql_documents.specs.declared.documents.schemas.Schema.{Schema}
use Rattle.graphql_documents.proofs.ListLemmas.{each_standing}
use Rattle.graphql_specification.specs.BuiltInScalars.{SchemaRetainsUsedBuiltInScalars}
use Rattle.graphql_schema_laws.proofs.RetainedLaws.{Entry}
use Rattle.graphql_schema_laws.proofs.RetainedTypeLemmas.{IsAdded, retained_entry}
use Rattle.graphql_trees.specs.declared.documents.Document.{Document}
use Rattle.graphql_trees.specs.declared.type_system.TypeDefinition.{TypeDefinition}
use Rattle.graphql_trees.specs.declared.type_system.TypeDefinition.TheVariants.{Scalar, Object, Interface, Union, Enum, InputObject}
use Rattle.graphql_leaf_building.specs.Definitions.{DirectiveDefinitionSays, EnumValueSays, FieldDefinitionSays, InputValueSays}
use Rattle.graphql_schema_checking.specs.Definitions.{definitions_in, name_of, types}
use Rattle.graphql_schema_building.specs.Parts.{EntriesSay, Originated}
use Rattle.graphql_schema_building.specs.SchemaSays.{SchemaSays, directives_said}
use Rattle.graphql_schema_building.specs.TypesSay.{PartsSay, TypeSays}

-- what follows for the second of two that are zipped
zip_right : {X Y : Type 0} (R : X → Y → Type 0) (P : Y → Type 0) → ((x : X) (y : Y) → R x y → P y) → (xs : List X) (ys : List Y) → AllZip R xs ys → All P ys
zip_right R P each [] [] zip = All-nil P
zip_right R P each [] (y ∷ ys) zip = absurd zip
zip_right R P each (x ∷ xs) [] zip = absurd zip
zip_right R P each (x ∷ xs) (y ∷ ys) zip = All-cons P y ys (each x y zip.0) (zip_right R P each xs ys zip.1)

same : (a b c : NameText) → a ≡ c → b ≡ c → SameName a b
same a b c ac bc = subst (SameName a) (ac ∙ sym bc) (same_name_itself a)

-- entries that say what is written are under the names that are written
module _ {X Y : Type 0} (name_of : X → NameText) (Says : X → Node Y → Type 0) (own : Y → NameText)
    (names : (x : X) (y : Node Y) → Says x y → own y.value.value ≡ name_of x) where
  entries_named : (written : List (Originated X)) (entries : List (NameText × Component Y)) → EntriesSay name_of Says written entries →
      All (λ entry. SameName entry.0 (own entry.1.node.value.value)) entries
  entries_named =
      zip_right (λ x e. (e.0 ≡ name_of x.1) × (e.1.origin ≡ x.0) × Says x.1 e.1.node) (λ entry. SameName entry.0 (own entry.1.node.value.value))
      (λ x e said. same e.0 (own e.1.node.value.value) (name_of x.1) said.0 (names x.1 e.1.node said.2))

none_named : {Y : Type 0} (own : Y → NameText) → All (λ (entry : NameText × Component Y). SameName entry.0 (own entry.1.node.value.value)) []
none_named own = All-nil (λ entry. SameName entry.0 (own entry.1.node.value.value))

-- a type that its parts say is under its own name
type_named : (key : NameText) (d : TypeDefinition) (parts : List (Originated TypeDefinition)) (t : ExtendedType) → key ≡ name_of d → PartsSay d parts t → TypeStandsUnderItsName key t
type_named key (Scalar d) parts (typed.Scalar t) k said =
    record { itself = same key _ _ k said.name; fields = none_named (λ f. f.name); input_fields = none_named (λ f. f.name); enum_values = tt }
type_named key (Object d) parts (typed.Object t) k said =
    record { itself = same key _ _ k said.name; fields = entries_named (λ f. f.name) FieldDefinitionSays (λ f. f.name) (λ x y s. s.name) _ _ said.fields; input_fields = none_named (λ f. f.name); enum_values = tt }
type_named key (Interface d) parts (typed.Interface t) k said =
    record { itself = same key _ _ k said.name; fields = entries_named (λ f. f.name) FieldDefinitionSays (λ f. f.name) (λ x y s. s.name) _ _ said.fields; input_fields = none_named (λ f. f.name); enum_values = tt }
type_named key (Union d) parts (typed.Union t) k said =
    record { itself = same key _ _ k said.name; fields = none_named (λ f. f.name); input_fields = none_named (λ f. f.name); enum_values = tt }
type_named key (Enum d) parts (typed.Enum t) k said =
    record {
      itself = same key _ _ k said.name;
      fields = none_named (λ f. f.name);
      input_fields = none_named (λ f. f.name);
      enum_values = entries_named (λ v. v.name) EnumValueSays (λ v. v.value) (λ x y s. s.value) _ _ said.values;
    }
type_named key (InputObject d) parts (typed.InputObject t) k said =
    record {
      itself = same key _ _ k said.name;
      fields = none_named (λ f. f.name);
      enum_values = tt;
      input_fields = entries_named (λ f. f.name) InputValueSays (λ f. f.name) (λ x y s. s.name) _ _ said.fields;
    }
type_named key d parts t k said = absurd said

pub said_under_own_names : (trees : List Document) (schema : Schema) → SchemaSays trees schema → StandsUnderOwnNames schema
said_under_own_names trees schema said = record {
  types = zip_right (λ d entry. (entry.0 ≡ name_of d) × TypeSays (definitions_in trees) d entry.1) (λ entry. TypeStandsUnderItsName entry.0 entry.1)
      (λ d entry s. type_named entry.0 d _ entry.1 s.0 s.1) (types (definitions_in trees)) schema.types.entries said.types_are;
  directives = zip_right (λ d entry. (entry.0 ≡ d.name) × DirectiveDefinitionSays d entry.1) (λ entry. SameName entry.0 entry.1.value.value.name)
      (λ d entry s. same entry.0 entry.1.value.value.name d.name s.0 s.1.name) (directives_said (definitions_in trees)) schema.directive_definitions.entries said.directive_definitions;
}

-- a scalar that was added is under its own name
added_named : (entry : Entry) → IsAdded entry → TypeStandsUnderItsName entry.0 entry.1
added_named entry a =
    let scalar = a.is_added.scalar in
    subst (TypeStandsUnderItsName entry.0) (sym a.is_added.is_scalar)
    (record { itself = from_same_text entry.0 scalar.value.value.name (a.is_added.key ∙ sym a.is_added.name); fields = none_named (λ f. f.name); input_fields = none_named (λ f. f.name); enum_values = tt })

pub retained_under_own_names : (schema retained : Schema) → StandsUnderOwnNames schema → SchemaRetainsUsedBuiltInScalars schema retained → StandsUnderOwnNames retained
retained_under_own_names schema retained names is = record {
  types = each_standing (λ (entry : Entry). TypeStandsUnderItsName entry.0 entry.1) retained.types.entries (λ entry stands. by entry (retained_entry schema retained is entry stands));
  directives = subst (λ d. All (λ entry. SameName entry.0 entry.1.value.value.name) d.entries) (sym is.directives) names.directives;
} where
  by : (entry : Entry) → Contains schema.types.entries entry ⊎ IsAdded entry → TypeStandsUnderItsName entry.0 entry.1
  by entry (inl there) = All-contains (λ (entry : Entry). TypeStandsUnderItsName entry.0 entry.1) schema.types.entries entry names.types there
  by entry (inr came) = added_named entry came
