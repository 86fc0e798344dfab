use Rattle.std.proofs.Common.{◌≡◌, fold, map, take}
use Rattle.graphql_documents.specs.Implementers.{implementer_entries, with_implementer}
use Rattle.graphql_documents.proofs.documents.implementers.add_type.Given as goal

abbrev pub invariant-loop-interface : goal.invariant-loop-interface
invariant-loop-interface l =
    implementer_entries l.implementers.entries ≡
    fold with_implementer (implementer_entries l.initial.implementers.entries)
    (map (λ listed. (listed.name, l.definition)) (take l.interface-index l.interface-items))
