use Rattle.std.proofs.Common.{◌∙◌, ap}
use Rattle.std.specs.Prelude.{filter, not}
use Rattle.graphql_repetitions.specs.References.{nows}
use Rattle.graphql_schema_building.specs.SchemaSays.{is_built_in_directive}
use Rattle.graphql_schema_building.proofs.FoundLemmas.{all_said}
use Rattle.graphql_schema_building.proofs.redefined.directives_of_schema.Goals as goal

pub returns : goal.returns
returns c =
    let ds = nows c.args.directives.now in
    let own = c.in_ok-sorted.ensures.own in
    let built_in = c.in_ok-sorted.ensures.built_in in
    all_said (filter is_built_in_directive ds) (filter (λ d. not (is_built_in_directive d)) ds) _ _ _ _ _ _ _
    (ap nows c.deref-3.ensures.value ∙ built_in) (ap nows c.deref-2.ensures.value ∙ built_in)
    (ap nows c.deref.ensures.value ∙ own) (ap nows c.deref-4.ensures.value ∙ own)
    (ap nows c.new-said.ensures.items)
    (c.in_ok-add_in_place.ensures (nows c.deref.result.now) c.in_ok-own.ensures)
    (c.in_ok-add_others.ensures (nows c.deref-2.result.now) c.in_ok-built_in.ensures)
