-- What the projects of a configuration are.
use Rattle.std.specs.Prelude.{◌≡◌, ◌||◌, Bool, false, not, nat_eq, List, [], ◌++◌, Option, None, MatchOption, codes, find, is_some, map, string_bytes, if◌then◌else◌}
use Rattle.std.specs.List.{list_any, starts_with}
use Rattle.std.specs.Str.{bytes_eq}
use Rattle.gqlvalidate_settings.specs.Keys.{name_of}
use Rattle.gqlvalidate_settings.specs.Paths.{Text, left_out, placed}
use Rattle.gqlvalidate_settings.specs.Settings.{ListsAt, Member, TableAt, value_at}
use Rattle.gqlvalidate_settings.specs.declared.keys.Key.{Key}
use Rattle.gqlvalidate_settings.specs.declared.keys.Key.TheVariants as key
use Rattle.gqlvalidate_settings.specs.declared.projects.ProjectSettings.{ProjectSettings}

-- a text names a server, and no file
abbrev pub is_url : Text → Bool
is_url text = starts_with nat_eq text (codes "http://") || starts_with nat_eq text (codes "https://")

-- the words that name the files of the schema
pub record AreSchemaWords (folder : Text) (members : List Member) (words : List Text) : Type 0 where
  pub listed : List Text
  pub lists : ListsAt key.Schema members listed
  pub are_files : list_any is_url listed ≡ false
  pub words_are : words ≡ map (placed folder) listed

-- the key that lists the documents
abbrev pub documents_key : List Member → Key
documents_key members = if is_some (value_at key.Documents members) then key.Documents else key.Include

-- the words that name the documents: those that are listed, and then those that leave files out
pub record AreDocumentWords (folder : Text) (members : List Member) (words : List Text) : Type 0 where
  pub listed : List Text
  pub excluded : List Text
  pub lists : ListsAt (documents_key members) members listed
  pub excludes : ListsAt key.Exclude members excluded
  pub words_are : words ≡ map (placed folder) listed ++ map (left_out folder) excluded

-- what a configuration or a project says of this program
pub record IsOwnTable (members : List Member) (own : Option (List Member)) : Type 0 where
  pub extensions : Option (List Member)
  pub has_extensions : TableAt key.Extensions members extensions
  pub is_own : MatchOption extensions (own ≡ None) (λ inner. TableAt key.Program inner own)

-- this program has a setting of this name
abbrev pub is_known : Text → Bool
is_known name =
    bytes_eq name (name_of key.Fragments) || bytes_eq name (name_of key.Rules) || bytes_eq name (name_of key.Client) || bytes_eq name (name_of key.Federation)

-- the first member of what a configuration says of this program that this program does not know
abbrev pub unknown_member : List Member → Option Member
unknown_member own = find (λ member. not (is_known (string_bytes member.0))) own

-- the fragments that a configuration lists where it says nothing unknown of this program
abbrev pub KnownFragments : List Member → List Text → Type 0
KnownFragments own listed = (unknown_member own ≡ None) × ListsAt key.Fragments own listed

-- the fragments that this program is to read, as they are written
pub record AreFragments (members : List Member) (listed : List Text) : Type 0 where
  pub own : Option (List Member)
  pub has_own : IsOwnTable members own
  pub lists : MatchOption own (listed ≡ []) (λ inner. KnownFragments inner listed)

-- the settings of a project, where these fragments are listed for all projects
pub record IsProject (folder : Text) (shared : List Text) (members : List Member) (project : ProjectSettings) : Type 0 where
  pub schema : AreSchemaWords folder members (map string_bytes project.schema.items)
  pub documents : AreDocumentWords folder members (map string_bytes project.documents.items)
  pub fragments : List Text
  pub fragments_are : AreFragments members fragments
  pub all_fragments : map string_bytes project.fragments.items ≡ map (placed folder) shared ++ map (placed folder) fragments
