use Rattle.std.proofs.Common.{◌∙◌, ap, map, Some}
use Rattle.graphql_repetitions.specs.References.{nows}
use Rattle.graphql_schema_checking.proofs.RuleLemmas.{schemas_checked}
use Rattle.graphql_schema_checking.proofs.schema.check_schema_definitions.Goals as goal

pub returns : goal.returns
returns c = λ definitions s.
    let schemas_are = ap nows c.deref.ensures.value ∙ s.schemas_are in
    schemas_checked c.check_single.result definitions _ _ c.deref-2.result.now
    (c.deref-2.ensures.value ∙ c.in_ok-places.ensures ∙ ap (map (λ d. Some d.span)) schemas_are) c.check_single.ensures
