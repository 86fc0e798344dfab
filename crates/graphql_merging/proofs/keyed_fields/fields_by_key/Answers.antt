use Rattle.std.proofs.Common.{ap, fold, [], ◌∙◌}
use Rattle.std.proofs.lemmas.List.{take_all}
use Rattle.graphql_field_conflicts.specs.FieldSelections.{listed}
use Rattle.graphql_merging.specs.Groups.{with_keyed}
use Rattle.graphql_merging.proofs.GroupLemmas.{keyed}
use Rattle.graphql_merging.proofs.keyed_fields.fields_by_key.Goals as goal

pub returns : goal.returns
returns c =
    c.loop-field.invariant ∙
    ap (λ fields. fold with_keyed [] (listed fields)) (take_all c.loop-field.field-index c.args.fields.now c.loop-field-test.false) ∙
    keyed (listed c.args.fields.now)
