use Rattle.std.proofs.Common.{All, take}
use Rattle.graphql_documents.specs.declared.documents.components.ComponentName.{ComponentName}
use Rattle.graphql_change_kinds.specs.Kinds.{IsObjectOf}
use Rattle.graphql_change_kinds.specs.Found.{Finds}
use Rattle.graphql_composite_comparison.proofs.composites.compare_old_members.Given as goal

abbrev pub invariant-loop-member : goal.invariant-loop-member
invariant-loop-member l = Finds l.pair.old.now l.pair.new.now l.initial.changes l.changes (λ merging. All (λ (x : ComponentName). IsObjectOf l.pair.new.now l.ty x.name) (take l.member-index l.member-items))
