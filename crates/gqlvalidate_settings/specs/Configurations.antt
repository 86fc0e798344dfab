-- The projects of a configuration.
use Rattle.std.specs.Prelude.{◌≡◌, List, [], ◌∷◌, Option, None, Some, MatchOption, IsSomeAnd, find, is_some, option_map, string_bytes}
use Rattle.std.specs.List.{AllZip}
use Rattle.gqlvalidate_settings.specs.Paths.{Text}
use Rattle.gqlvalidate_settings.specs.Projects.{AreFragments, IsProject}
use Rattle.gqlvalidate_settings.specs.Settings.{Member, TableAt, as_table, value_at}
use Rattle.gqlvalidate_settings.specs.declared.keys.Key.{Key}
use Rattle.gqlvalidate_settings.specs.declared.keys.Key.TheVariants as key
use Rattle.gqlvalidate_settings.specs.declared.projects.ProjectSettings.{ProjectSettings}

-- the first key of these that a configuration has, though it names projects
abbrev pub key_beside : List Member → Option Key
key_beside members = find (λ key. is_some (value_at key members)) (key.Schema ∷ key.Documents ∷ key.Include ∷ key.Exclude ∷ [])

-- the one project that a configuration is; it has no name
abbrev pub IsSoleProject : Text → List Member → List ProjectSettings → Type 0
IsSoleProject folder members projects = (project : ProjectSettings) × (projects ≡ project ∷ []) × (project.name ≡ None) × IsProject folder [] members project

-- a project that a configuration names, which lists these fragments for all projects
abbrev pub IsNamedProject : Text → List Text → Member → ProjectSettings → Type 0
IsNamedProject folder shared member project =
    (option_map string_bytes project.name ≡ Some (string_bytes member.0)) × IsSomeAnd (as_table member.1) (λ members. IsProject folder shared members project)

-- the projects that a configuration names, in order; all that it lists itself are fragments
pub record AreNamedProjects (folder : Text) (members named : List Member) (projects : List ProjectSettings) : Type 0 where
  pub has_none_beside : key_beside members ≡ None
  pub shared : List Text
  pub shared_are : AreFragments members shared
  pub each : AllZip (IsNamedProject folder shared) named projects

-- the projects of a configuration: those that it names, or the one that it is
pub record AreProjects (folder : Text) (members : List Member) (projects : List ProjectSettings) : Type 0 where
  pub named : Option (List Member)
  pub has_named : TableAt key.Projects members named
  pub projects_are : MatchOption named (IsSoleProject folder members projects) (λ inner. AreNamedProjects folder members inner projects)
