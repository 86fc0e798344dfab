use Rattle.std.proofs.Common.{◌≡◌, take}
use Rattle.graphql_frontend.specs.Documents.{bytes_of}
use Rattle.graphql_frontend.proofs.documents.bytes_of.Given as goal

abbrev pub invariant-loop-source : goal.invariant-loop-source
invariant-loop-source l = l.bytes ≡ bytes_of (take l.source-index l.sources)
