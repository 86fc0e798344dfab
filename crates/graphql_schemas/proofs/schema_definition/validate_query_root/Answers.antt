use Rattle.std.proofs.Common.{◌≡◌, None, refl, rules, subst}
use Rattle.std.specs.Prelude.{IsSome}
use Rattle.graphql_specification.specs.SchemaDefinitions.{no_query_root}
use Rattle.graphql_diagnostics.proofs.ReportLemmas.{checks-push}
use Rattle.graphql_schemas.proofs.schema_definition.validate_query_root.Goals as goal

pub returns : goal.returns
returns c =
    let none : c.args.schema.now.schema_definition.value.value.query ≡ None = search rules in
    checks-push _ _ _ _ _ _ c.push.ensures.ok c.push.ensures.err (λ some. let never = subst IsSome none some in let clash : ⊥ = cc in clash)
    (no_query_root none refl)
