use Rattle.std.proofs.Common.{ap, rules, subst, sym, ◌∙◌}
use Rattle.std.specs.Prelude.{unwrap_or}
use Rattle.graphql_merging.specs.NumberedGroups.{AreEntriesNumbered, named_fields}
use Rattle.graphql_merging.specs.NumberedFields.{selection_of}
use Rattle.graphql_merging.proofs.GroupLemmas.{put_as_fields}
use Rattle.graphql_merging.proofs.NumberedGroupLemmas.{under_numbered}
use Rattle.graphql_merging.proofs.groups.push_under.Goals as goal

pub returns-clause-found : goal.returns-clause-found
returns-clause-found g c =
    let inserted = c.in_ok-fields_by_name.ensures.update.1 c.push.new.self in
    ap named_fields (search (rules, inserted)) ∙
    put_as_fields selection_of c.args.fields_by_name.now.entries c.args.name c.args.field c.new.result c.or_insert.result.now c.push.new.self
    c.new.ensures.items (c.or_insert.ensures.value ∙ ap (λ found. unwrap_or found c.new.result) c.in_ok-fields_by_name.ensures.value) c.in_ok-push.ensures.items

pub returns-clause-numbered : goal.returns-clause-numbered
returns-clause-numbered g c contents all own =
    let inserted = c.in_ok-fields_by_name.ensures.update.1 c.push.new.self in
    subst (AreEntriesNumbered contents) (sym (search (rules, inserted)))
    (under_numbered contents c.args.fields_by_name.now.entries c.args.name c.args.field c.new.result c.or_insert.result.now c.push.new.self
    c.new.ensures.items (c.or_insert.ensures.value ∙ ap (λ found. unwrap_or found c.new.result) c.in_ok-fields_by_name.ensures.value) c.in_ok-push.ensures.items all own)
