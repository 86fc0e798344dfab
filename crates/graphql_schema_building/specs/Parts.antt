-- What types and the schema are made of: definitions with their extensions, each with its origin.
use Rattle.std.specs.Prelude.{◌≡◌, ℕ, ◌+◌, List, [], ◌∷◌, ◌++◌, Option, None, Some, filter, filter_map, flat_map, map}
use Rattle.std.specs.List.{AllZip}
use Rattle.graphql_nodes.specs.Names.{NameText}
use Rattle.graphql_nodes.specs.declared.nodes.Node.{Node}
use Rattle.graphql_nodes.specs.declared.spans.SourceSpan.{SourceSpan}
use Rattle.graphql_documents.specs.declared.documents.components.Component.{Component}
use Rattle.graphql_documents.specs.declared.documents.components.ComponentName.{ComponentName}
use Rattle.graphql_documents.specs.declared.documents.components.ComponentOrigin.{ComponentOrigin}
use Rattle.graphql_documents.specs.declared.documents.components.ComponentOrigin.TheVariants as origin
use Rattle.graphql_trees.specs.declared.documents.Definition.TheVariants as definition
use Rattle.graphql_trees.specs.declared.documents.Definition.{Definition}
use Rattle.graphql_trees.specs.declared.type_system.SchemaDefinition.{SchemaDefinition}
use Rattle.graphql_trees.specs.declared.type_system.TypeDefinition.{TypeDefinition}
use Rattle.graphql_schema_checking.specs.Definitions.{extends, schemas, span_of}

-- something that was written, with its origin
abbrev pub Originated : Type 0 → Type 0
Originated T = ComponentOrigin × T

-- the definitions, each with its number among all
abbrev pub numbered_from : ℕ → List Definition → List (ℕ × Definition)
numbered_from i [] = []
numbered_from i (d ∷ ds) = (i, d) ∷ numbered_from (i + 1) ds

-- of an extension: its number among all definitions, and its place
abbrev pub extension_origin : ℕ → SourceSpan → ComponentOrigin
extension_origin i span = origin.Extension (record { number = i; location = Some span })

abbrev pub as_type_extension : ℕ × Definition → Option (Originated TypeDefinition)
as_type_extension (i, definition.TypeExtension e) = Some (extension_origin i (span_of e), e)
as_type_extension (i, _) = None

abbrev pub as_schema_extension : ℕ × Definition → Option (Originated SchemaDefinition)
as_schema_extension (i, definition.SchemaExtension e) = Some (extension_origin i e.span, e)
as_schema_extension (i, _) = None

-- the extensions of types, and those of the schema, in the order of the texts
abbrev pub type_extension_parts : List Definition → List (Originated TypeDefinition)
type_extension_parts definitions = filter_map as_type_extension (numbered_from 0 definitions)

abbrev pub schema_extension_parts : List Definition → List (Originated SchemaDefinition)
schema_extension_parts definitions = filter_map as_schema_extension (numbered_from 0 definitions)

-- a type: its definition, then its extensions in the order of the texts. Specification: 3.4.3 Type Extensions
abbrev pub parts_with : List (Originated TypeDefinition) → TypeDefinition → List (Originated TypeDefinition)
parts_with extensions d = (origin.Definition, d) ∷ filter (λ part. extends d part.1) extensions

abbrev pub type_parts : List Definition → TypeDefinition → List (Originated TypeDefinition)
type_parts definitions d = parts_with (type_extension_parts definitions) d

-- the schema: its definition, if there is one, then its extensions in the order of the texts.
-- Specification: 3.3.2 Schema Extension
abbrev pub schema_parts : List Definition → List (Originated SchemaDefinition)
schema_parts definitions =
    map (λ d. (origin.Definition, d)) (schemas definitions) ++ schema_extension_parts definitions

-- what parts list, one part after another, each with the origin of its part
abbrev pub listed_by : {P X : Type 0} → (P → List X) → List (Originated P) → List (Originated X)
listed_by items parts = flat_map (λ part. map (λ x. (part.0, x)) (items part.1)) parts

-- the components are what was written, in order, each with its origin
abbrev pub ComponentsSay : {X Y : Type 0} → (X → Node Y → Type 0) → List (Originated X) → List (Component Y) → Type 0
ComponentsSay Says written components = AllZip (λ x c. (c.origin ≡ x.0) × Says x.1 c.node) written components

-- the same, each under its name
abbrev pub EntriesSay : {X Y : Type 0} → (X → NameText) → (X → Node Y → Type 0) → List (Originated X) → List (NameText × Component Y) → Type 0
EntriesSay name_of Says written entries = AllZip (λ x e. (e.0 ≡ name_of x.1) × (e.1.origin ≡ x.0) × Says x.1 e.1.node) written entries

-- the names of what was written
abbrev pub written_names : {X : Type 0} → (X → NameText) → List (Originated X) → List NameText
written_names name_of written = map (λ x. name_of x.1) written

-- names, each with its origin
abbrev pub names_said : List (Originated NameText) → List ComponentName
names_said written = map (λ x. record { origin = x.0; name = x.1 }) written
