use Rattle.std.proofs.Common.{All, take}
use Rattle.std.specs.Prelude.{IsTrue}
use Rattle.graphql_documents.specs.Schemas.{IsSubtype}
use Rattle.graphql_documents.specs.declared.documents.components.ComponentName.{ComponentName}
use Rattle.graphql_change_kinds.specs.Found.{Finds}
use Rattle.graphql_composite_comparison.proofs.composites.compare_old_interfaces.Given as goal

abbrev pub invariant-loop-listed : goal.invariant-loop-listed
invariant-loop-listed l = Finds l.pair.old.now l.pair.new.now l.initial.changes l.changes (λ merging. All (λ (x : ComponentName). IsTrue l.is_object → IsSubtype l.pair.new.now x.name l.ty) (take l.listed-index l.listed-items))
