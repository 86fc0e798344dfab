use Rattle.std.proofs.Common.{◌≡◌, take}
use Rattle.graphql_repetitions.specs.References.{nows}
use Rattle.graphql_dialects.specs.Adoption.{adopted_among, parts_defined}
use Rattle.graphql_dialects.proofs.adoption.adopted_among.Given as goal

abbrev pub invariant-loop-extension : goal.invariant-loop-extension
invariant-loop-extension l = nows l.found.items ≡ adopted_among (parts_defined l.defined) (parts_defined l.extended) (nows (take l.extension-index l.extensions))
