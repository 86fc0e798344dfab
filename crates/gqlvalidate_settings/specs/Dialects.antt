-- The dialects that a configuration names.
use Rattle.std.specs.Prelude.{◌≡◌, Bool, true, false, List, Option, None, Some, MatchOption, IsSomeAnd, option_and_then, string_bytes}
use Rattle.gqlvalidate_dialects.specs.Dialects.{client_named, is_version}
use Rattle.gqlvalidate_dialects.specs.declared.dialects.ClientName.{ClientName}
use Rattle.gqlvalidate_dialects.specs.declared.dialects.Dialect.{Dialect}
use Rattle.gqlvalidate_settings.specs.Settings.{Member, as_text, value_at}
use Rattle.gqlvalidate_settings.specs.declared.keys.Key.TheVariants as key
use Rattle.gqlvalidate_settings.specs.declared.setting.Setting.{Setting, out-Setting}
use Rattle.gqlvalidate_settings.specs.declared.setting.Setting.TheOpen as Open

-- the client whose name a value is
abbrev pub client_in : Setting → Option ClientName
client_in setting = option_and_then client_named (as_text setting)

-- a value is a version of Federation, as a text or as a number
abbrev pub has_version : Setting → Bool
has_version setting = elim (out-Setting setting) [
  | Open.Text text ↦ is_version (string_bytes text)
  | Open.List items ↦ false
  | Open.Table members ↦ false
  | Open.Number number ↦ is_version (string_bytes number)
  | Open.Other ↦ false
]

-- members name this client, or lack its key
abbrev pub NamesClient : List Member → Option ClientName → Type 0
NamesClient own client = MatchOption (value_at key.Client own) (client ≡ None) (λ setting. IsSomeAnd (client_in setting) (λ named. client ≡ Some named))

-- members name a version of Federation, or lack its key
abbrev pub NamesFederation : List Member → Bool → Type 0
NamesFederation own federation = MatchOption (value_at key.Federation own) (federation ≡ false) (λ setting. (has_version setting ≡ true) × (federation ≡ true))

-- what a configuration says of this program names this dialect
pub record NamesDialect (own : List Member) (dialect : Dialect) : Type 0 where
  pub client_is : NamesClient own dialect.client
  pub federation_is : NamesFederation own dialect.federation
