use Rattle.std.proofs.Common.{◌∙◌, ap, sym}
use Rattle.std.specs.Option.{option_or}
use Rattle.graphql_trees.specs.declared.type_system.SchemaDefinition.{SchemaDefinition}
use Rattle.graphql_schema_checking.specs.Definitions.{schemas}
use Rattle.graphql_schema_checking.specs.SchemaBuilds.{roots_of_kind}
use Rattle.graphql_schema_building.specs.Parts.{listed_by, names_said, schema_parts}
use Rattle.graphql_schema_building.specs.SchemaSays.{first_of_list, implied_roots}
use Rattle.graphql_schema_building.proofs.RootLemmas.{roots_from}
use Rattle.graphql_schema_building.proofs.roots.first_root.Goals as goal

pub returns-in-Some : goal.returns-in-Some
returns-in-Some c = λ definitions s p.
    let operation = c.args.operation_type in
    let implied = implied_roots definitions operation (schemas definitions) in
    let listed = listed_by (λ (part : SchemaDefinition). roots_of_kind operation part.root_operations) (schema_parts definitions) in
    sym (roots_from implied listed ∙ ap (λ o. option_or o (first_of_list (names_said listed))) (sym (c.in-Some.ensures definitions s)))

pub returns-in-None : goal.returns-in-None
returns-in-None c = λ definitions s p.
    let operation = c.args.operation_type in
    let implied = implied_roots definitions operation (schemas definitions) in
    let items = λ (part : SchemaDefinition). roots_of_kind operation part.root_operations in
    let listed = listed_by items (schema_parts definitions) in
    c.named_root.ensures ∙ ap (λ l. first_of_list (names_said (listed_by items l))) p ∙
    sym (roots_from implied listed ∙ ap (λ o. option_or o (first_of_list (names_said listed))) (sym (c.in-None.ensures definitions s)))
