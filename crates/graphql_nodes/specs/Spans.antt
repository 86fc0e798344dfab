-- Parts of source files.
use Rattle.std.specs.Prelude.{Option, None, Some, nat_lt, ◌==◌, if◌then◌else◌}
use Rattle.graphql_nodes.specs.declared.spans.SourceSpan.{SourceSpan}

-- from the start of a to the end of b; b where the two are in different files, and a where b ends before a starts
abbrev pub joined : SourceSpan → SourceSpan → SourceSpan
joined a b =
    if a.file_id.0 == b.file_id.0
    then (if nat_lt b.end a.start then a else record { file_id = a.file_id; start = a.start; end = b.end })
    else b

-- the two places as one, or the one that is there
abbrev pub recompose : Option SourceSpan → Option SourceSpan → Option SourceSpan
recompose None b = b
recompose (Some a) None = Some a
recompose (Some a) (Some b) = Some (joined a b)
