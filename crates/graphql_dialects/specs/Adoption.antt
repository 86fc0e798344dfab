-- Extensions of types that no text defines. Apollo Federation 2: in a subgraph such an extension defines its type.
use Rattle.std.specs.Prelude.{ℕ, ◌+◌, Bool, ◌&&◌, false, nat_eq, List, None, Option, Some, filter, map}
use Rattle.graphql_blanks.specs.declared.Part.{Part}
use Rattle.graphql_nodes.specs.declared.spans.FileId.{FileId}
use Rattle.graphql_nodes.specs.declared.spans.SourceSpan.{SourceSpan}
use Rattle.graphql_trees.specs.declared.documents.Definition.{Definition}
use Rattle.graphql_trees.specs.declared.type_system.TypeDefinition.{TypeDefinition}
use Rattle.graphql_schema_checking.specs.Definitions.{name_of, span_of, type_extensions, type_named, types}
use Rattle.graphql_dialects.specs.declared.adoption.TypePart.{TypePart}

-- the two are the same bytes of one file
abbrev pub same_span : SourceSpan → SourceSpan → Bool
same_span a b = nat_eq a.file_id.0 b.file_id.0 && nat_eq a.start b.start && nat_eq a.end b.end

-- no text defines the type, and this extension is the first of it
abbrev pub is_sole_part : Option TypeDefinition → Option TypeDefinition → TypeDefinition → Bool
is_sole_part None (Some first) e = same_span (span_of first) (span_of e)
is_sole_part _ _ e = false

abbrev pub is_adopted_among : List TypeDefinition → List TypeDefinition → TypeDefinition → Bool
is_adopted_among defined extended e = is_sole_part (type_named defined (name_of e)) (type_named extended (name_of e)) e

abbrev pub adopted_among : List TypeDefinition → List TypeDefinition → List TypeDefinition → List TypeDefinition
adopted_among defined extended es = filter (is_adopted_among defined extended) es

-- the extensions of types that no text defines, each the first one of its type
abbrev pub adopted : List Definition → List TypeDefinition
adopted definitions = adopted_among (types definitions) (type_extensions definitions) (type_extensions definitions)

-- the keyword `extend` of an extension: its first six bytes
abbrev pub keyword_of : TypeDefinition → Part
keyword_of e = record { start = (span_of e).start; end = (span_of e).start + 6 }

-- the keywords of those that are in the file
abbrev pub keywords_in : FileId → List TypeDefinition → List Part
keywords_in file es = map keyword_of (filter (λ e. nat_eq (span_of e).file_id.0 file.0) es)

-- what these parts are
abbrev pub parts_defined : List TypePart → List TypeDefinition
parts_defined parts = map (λ part. part.definition.now) parts
