use Rattle.std.proofs.Common.{◌≡◌, [], fold, take}
use Rattle.graphql_field_conflicts.specs.FieldSelections.{listed}
use Rattle.graphql_merging.specs.Groups.{named_fields, with_keyed}
use Rattle.graphql_merging.proofs.keyed_fields.fields_by_key.Given as goal

abbrev pub invariant-loop-field : goal.invariant-loop-field
invariant-loop-field l =
    named_fields l.fields_by_key.entries ≡ fold with_keyed [] (listed (take l.field-index l.fields))
