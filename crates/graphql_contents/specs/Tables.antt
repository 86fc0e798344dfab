-- What contracts see of a table of contents.
use Rattle.std.specs.Prelude.{List}
use Rattle.graphql_contents.specs.declared.contents.Content.{Content}
use Rattle.graphql_contents.specs.declared.contents.Contents.{Contents}

-- the contents that have numbers, in order of these
abbrev pub contents_of : Contents → List Content
contents_of c = c.contents.keys
