use Rattle.std.proofs.Common.{subst}
use Rattle.graphql_specification.specs.BuiltInScalars.{built_in_scalar_names}
use Rattle.graphql_schemas.proofs.TypeMapLemmas.{adds_more}
use Rattle.graphql_field_definitions.specs.BuiltInScalarUses.{holds_text}
use Rattle.graphql_schemas.specs.TypeMapChanges.{AddsMissing}
use Rattle.graphql_schemas.proofs.type_map.missing_scalars.Goals as goal

pub returns : goal.returns
returns c =
    let used = holds_text c.args.built_in_scalars.now in
    let types = c.args.types.now.entries in
    subst (λ before. AddsMissing used types built_in_scalar_names before c.add_if_missing-5.new.missing.items) c.new-missing.ensures.items
    (adds_more used types c.in_ok-add_if_missing.ensures (adds_more used types c.in_ok-add_if_missing-2.ensures
    (adds_more used types c.in_ok-add_if_missing-3.ensures (adds_more used types c.in_ok-add_if_missing-4.ensures c.in_ok-add_if_missing-5.ensures))))
