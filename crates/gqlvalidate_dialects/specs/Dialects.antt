-- The names of dialects.
use Rattle.std.specs.Prelude.{ℕ, Bool, List, Option, None, Some, codes, if◌then◌else◌}
use Rattle.std.specs.Str.{bytes_eq}
use Rattle.gqlvalidate_dialects.specs.declared.dialects.ClientName.{ClientName}
use Rattle.gqlvalidate_dialects.specs.declared.dialects.ClientName.TheVariants.{Apollo, Relay, Urql}

-- the name of a client, or a version
abbrev pub Text : Type 0
Text = List ℕ

abbrev pub client_named : Text → Option ClientName
client_named name =
    if bytes_eq name (codes "apollo") then Some Apollo
    else if bytes_eq name (codes "relay") then Some Relay
    else if bytes_eq name (codes "urql") then Some Urql
    else None

-- a version of Apollo Federation as whose subgraph a schema can be read
abbrev pub is_version : Text → Bool
is_version version = bytes_eq version (codes "2")
