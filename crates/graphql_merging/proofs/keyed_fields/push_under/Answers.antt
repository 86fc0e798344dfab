use Rattle.std.proofs.Common.{ap, rules, ◌∙◌}
use Rattle.std.specs.Prelude.{unwrap_or}
use Rattle.graphql_merging.specs.Groups.{named_fields}
use Rattle.graphql_field_conflicts.specs.FieldSelections.{selection_of}
use Rattle.graphql_merging.proofs.GroupLemmas.{put_as_fields}
use Rattle.graphql_merging.proofs.keyed_fields.push_under.Goals as goal

pub returns : goal.returns
returns g c =
    let inserted = c.in_ok-fields_by_name.ensures.update.1 c.push.new.self in
    ap named_fields (search (rules, inserted)) ∙
    put_as_fields selection_of c.args.fields_by_name.now.entries c.args.name c.args.field c.new.result c.or_insert.result.now c.push.new.self
    c.new.ensures.items (c.or_insert.ensures.value ∙ ap (λ found. unwrap_or found c.new.result) c.in_ok-fields_by_name.ensures.value) c.in_ok-push.ensures.items
