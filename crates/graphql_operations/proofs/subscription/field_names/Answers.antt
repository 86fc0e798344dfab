use Rattle.std.proofs.Common.{◌∙◌, sym, ap}
use Rattle.std.specs.Prelude.{Vec}
use Rattle.std.specs.declared.alloc.Global.{Global}
use Rattle.graphql_nodes.specs.Names.{NameText}
use Rattle.graphql_documents.specs.declared.documents.executables.Field.{Field}
use Rattle.graphql_operations.proofs.SubscriptionLemmas.{names_more, names_same}
use Rattle.graphql_operations.proofs.subscription.field_names.Goals.{in-Some+in_ok-clone+in_ok-push, in_default}
use Rattle.graphql_operations.proofs.subscription.field_names.Goals as goal

pub loop-selection-preserved : goal.loop-selection-preserved
loop-selection-preserved c =
    let xs = c.args.selections.now in
    let i = c.loop-selection.selection-index in
    let s = c.selection-item.result in
    elim c.match-field_of.branch [
      | in-Some+in_ok-clone+in_ok-push w ↦
          names_more xs i s c.loop-selection-test.true c.selection-item.is w.in-Some.field.now w.in-Some.ensures
          c.loop-selection.names.items c.match-field_of.names.items w.in_ok-clone.field-0 c.loop-selection.invariant (ap (λ (v : Vec NameText Global). v.items) w.names-is ∙ w.in_ok-push.ensures.items) (w.in_ok-clone.ensures.cases ∙ ap (λ (f : Field). f.name) w.deref.ensures)
      | in_default w ↦
          names_same xs i s c.loop-selection-test.true c.selection-item.is (sym w.in_default.ensures) c.loop-selection.names.items c.match-field_of.names.items c.loop-selection.invariant (ap (λ (v : Vec NameText Global). v.items) w.names-is)
    ]
