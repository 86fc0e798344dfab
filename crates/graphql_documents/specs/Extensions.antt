-- The extensions that make up a type definition. Specification: 3.4.3 Type Extensions.
use Rattle.std.specs.Prelude.{Option, None, Some, ◌==◌, List, [], ◌∷◌, ◌++◌, if◌then◌else◌, fold, filter_map, map}
use Rattle.std.specs.List.{list_any}
use Rattle.graphql_documents.specs.declared.documents.components.ComponentOrigin.{ComponentOrigin}
use Rattle.graphql_documents.specs.declared.documents.components.ExtensionId.{ExtensionId}
use Rattle.graphql_documents.specs.declared.documents.schemas.ExtendedType.{ExtendedType}
use Rattle.graphql_nodes.specs.declared.spans.SourceSpan.{SourceSpan}
use Rattle.graphql_documents.specs.declared.documents.components.ComponentOrigin.TheVariants as origin
use Rattle.graphql_documents.specs.declared.documents.schemas.ExtendedType.TheVariants as types

-- an extension, if the part was written in one
abbrev pub extension_in : ComponentOrigin → Option ExtensionId
extension_in (origin.Extension e) = Some e
extension_in _ = None

-- with the extension behind them, unless one of its number is there
abbrev pub with_extension : List ExtensionId → ExtensionId → List ExtensionId
with_extension known e = if list_any (λ k. k.number == e.number) known then known else known ++ e ∷ []

-- with the extensions in which these parts were written behind them, each once
abbrev pub extensions_among : List ExtensionId → List ComponentOrigin → List ExtensionId
extensions_among known origins = fold with_extension known (filter_map extension_in origins)

-- the different extensions in which these parts were written, in order
abbrev pub extensions_in : List ComponentOrigin → List ExtensionId
extensions_in origins = extensions_among [] origins

-- where the parts of a type definition were written: its directives, its interfaces and its contents
abbrev pub origins_of : ExtendedType → List ComponentOrigin
origins_of (types.Scalar d) = map (λ c. c.origin) d.value.value.directives.items
origins_of (types.Object d) =
    map (λ c. c.origin) d.value.value.directives.items ++
    (map (λ c. c.origin) d.value.value.implements_interfaces.keys ++ map (λ e. e.1.origin) d.value.value.fields.entries)
origins_of (types.Interface d) =
    map (λ c. c.origin) d.value.value.directives.items ++
    (map (λ c. c.origin) d.value.value.implements_interfaces.keys ++ map (λ e. e.1.origin) d.value.value.fields.entries)
origins_of (types.Union d) =
    map (λ c. c.origin) d.value.value.directives.items ++ map (λ c. c.origin) d.value.value.members.keys
origins_of (types.Enum d) =
    map (λ c. c.origin) d.value.value.directives.items ++ map (λ e. e.1.origin) d.value.value.values.entries
origins_of (types.InputObject d) =
    map (λ c. c.origin) d.value.value.directives.items ++ map (λ e. e.1.origin) d.value.value.fields.entries

-- the places of the extensions of a type definition
abbrev pub extension_locations : ExtendedType → List (Option SourceSpan)
extension_locations d = map (λ e. e.location) (extensions_in (origins_of d))
