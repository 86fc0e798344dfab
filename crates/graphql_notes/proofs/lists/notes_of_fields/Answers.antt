use Rattle.std.proofs.Common.{[], codes}
use Rattle.graphql_nodes.specs.Names.{NameText}
use Rattle.graphql_notes.specs.Labels.{label}
use Rattle.graphql_notes.proofs.NoteLemmas.{labelled_more}
use Rattle.graphql_notes.proofs.lists.notes_of_fields.Goals as goal

pub loop-field-preserved : goal.loop-field-preserved
loop-field-preserved c =
    labelled_more (λ (field : NameText). label field.location (codes "a root field")) c.args.at c.args.fields.now c.loop-field.field-index c.field-item.result [] _ _
    c.loop-field-test.true c.field-item.is c.loop-field.invariant c.in_ok-add_field.ensures
