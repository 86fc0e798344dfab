-- The keys that are read.
use Rattle.std.specs.Prelude.{ℕ, List, codes}
use Rattle.gqlvalidate_settings.specs.declared.keys.Key.{Key}
use Rattle.gqlvalidate_settings.specs.declared.keys.Key.TheVariants.{Schema, Documents, Include, Exclude, Projects, Extensions, Program, Fragments, Rules, Client, Federation}

-- the key as it is written
abbrev pub name_of : Key → List ℕ
name_of Schema = codes "schema"
name_of Documents = codes "documents"
name_of Include = codes "include"
name_of Exclude = codes "exclude"
name_of Projects = codes "projects"
name_of Extensions = codes "extensions"
name_of Program = codes "gqlvalidate"
name_of Fragments = codes "fragments"
name_of Rules = codes "rules"
name_of Client = codes "client"
name_of Federation = codes "federation"
