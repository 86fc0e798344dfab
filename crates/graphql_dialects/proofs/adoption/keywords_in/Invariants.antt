use Rattle.std.proofs.Common.{◌≡◌, take}
use Rattle.graphql_repetitions.specs.References.{nows}
use Rattle.graphql_dialects.specs.Adoption.{keywords_in}
use Rattle.graphql_dialects.proofs.adoption.keywords_in.Given as goal

abbrev pub invariant-loop-extension : goal.invariant-loop-extension
invariant-loop-extension l = l.keywords.items ≡ keywords_in l.file_id (nows (take l.extension-index l.adopted))
