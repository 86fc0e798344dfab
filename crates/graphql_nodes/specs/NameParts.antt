-- What contracts see of the parts of a name.
use Rattle.std.specs.Prelude.{ℕ, List, take, Option, None, Some, string_bytes}
use Rattle.graphql_nodes.specs.declared.spans.SourceSpan.{SourceSpan}
use Rattle.graphql_nodes.specs.declared.short_names.ShortName.{ShortName}
use Rattle.graphql_nodes.specs.declared.names.Parts.{Parts}
use Rattle.graphql_nodes.specs.declared.names.Parts.TheVariants.{Short, ShortAt, Long, LongAt}

-- the text of a short name
abbrev pub short_text : ShortName → List ℕ
short_text name = take name.len name.bytes

-- the text of the name
abbrev pub text_of : Parts → List ℕ
text_of (Short text) = short_text text
text_of (ShortAt text span) = short_text text
text_of (Long text) = string_bytes text
text_of (LongAt span text) = string_bytes text

-- where the name is
abbrev pub location_of : Parts → Option SourceSpan
location_of (Short text) = None
location_of (ShortAt text span) = Some span
location_of (Long text) = None
location_of (LongAt span text) = Some span
