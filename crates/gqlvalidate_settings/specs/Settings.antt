-- What the values of a configuration list.
use Rattle.std.specs.Prelude.{◌≡◌, List, [], ◌∷◌, Option, None, Some, MatchOption, IsSomeAnd, String, find, map, option_map, string_bytes}
use Rattle.std.specs.Str.{bytes_eq}
use Rattle.std.specs.declared.alloc.Global.{Global}
use Rattle.gqlvalidate_settings.specs.Keys.{name_of}
use Rattle.gqlvalidate_settings.specs.Paths.{Text}
use Rattle.gqlvalidate_settings.specs.declared.keys.Key.{Key}
use Rattle.gqlvalidate_settings.specs.declared.setting.Setting.{Setting, out-Setting}
use Rattle.gqlvalidate_settings.specs.declared.setting.Setting.TheOpen as Open

-- a name and its value
abbrev pub Member : Type 0
Member = String Global × Setting

-- the text that a value is, if it is one
abbrev pub as_text : Setting → Option Text
as_text setting = elim (out-Setting setting) [
  | Open.Text text ↦ Some (string_bytes text)
  | Open.List items ↦ None
  | Open.Table members ↦ None
  | Open.Number number ↦ None
  | Open.Other ↦ None
]

-- the items of a list
abbrev pub as_list : Setting → Option (List Setting)
as_list setting = elim (out-Setting setting) [
  | Open.Text text ↦ None
  | Open.List items ↦ Some items.items
  | Open.Table members ↦ None
  | Open.Number number ↦ None
  | Open.Other ↦ None
]

-- the members of a table
abbrev pub as_table : Setting → Option (List Member)
as_table setting = elim (out-Setting setting) [
  | Open.Text text ↦ None
  | Open.List items ↦ None
  | Open.Table members ↦ Some members.items
  | Open.Number number ↦ None
  | Open.Other ↦ None
]

-- the value of the first member with this name
abbrev pub value_under : Text → List Member → Option Setting
value_under name members = option_map (λ member. member.1) (find (λ member. bytes_eq (string_bytes member.0) name) members)

-- the value of the first member with this key
abbrev pub value_at : Key → List Member → Option Setting
value_at key members = value_under (name_of key) members

-- the items of a list are these texts
abbrev pub AreTexts : List Setting → List Text → Type 0
AreTexts items texts = map as_text items ≡ map Some texts

-- a value lists these texts: it is the one, or the list of them
abbrev pub Lists : Setting → List Text → Type 0
Lists setting texts = MatchOption (as_text setting)
    (IsSomeAnd (as_list setting) (λ items. AreTexts items texts))
    (λ text. texts ≡ text ∷ [])

-- members list these texts under a key; without the key, none
abbrev pub ListsAt : Key → List Member → List Text → Type 0
ListsAt key members texts = MatchOption (value_at key members) (texts ≡ []) (λ setting. Lists setting texts)

-- members have this table under a key, or lack the key
abbrev pub TableAt : Key → List Member → Option (List Member) → Type 0
TableAt key members table = MatchOption (value_at key members) (table ≡ None) (λ setting. IsSomeAnd (as_table setting) (λ inner. table ≡ Some inner))
