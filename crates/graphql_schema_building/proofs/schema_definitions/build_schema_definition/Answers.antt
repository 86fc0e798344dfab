use Rattle.std.proofs.Common.{◌≡◌, ◌++◌, ◌∙◌, List, ap, map, subst, sym}
use Rattle.graphql_documents.specs.declared.documents.components.ComponentOrigin.TheVariants as origin
use Rattle.graphql_documents.specs.declared.documents.schemas.SchemaDefinition as typed
use Rattle.graphql_leaf_building.specs.Directives.{DirectiveSays}
use Rattle.graphql_trees.specs.declared.type_system.SchemaDefinition.{SchemaDefinition}
use Rattle.graphql_schema_checking.specs.Definitions.{schemas}
use Rattle.graphql_repetitions.specs.References.{nows}
use Rattle.graphql_schema_building.specs.Numbered.{schema_originated}
use Rattle.graphql_schema_building.specs.Parts.{ComponentsSay, listed_by, schema_parts}
use Rattle.graphql_schema_building.specs.SchemaSays.{SchemaDefinitionSays, schema_place}
use Rattle.graphql_schema_building.proofs.RootLemmas.{both_ok}
use Rattle.graphql_schema_building.proofs.schema_definitions.build_schema_definition.Goals as goal

pub returns : goal.returns
returns c = λ definitions s e.
    let parts : schema_originated c.in_ok-parts.parts.items ≡ schema_parts definitions =
    c.in_ok-parts.ensures ∙
    ap (λ (l : List SchemaDefinition). map (λ (d : SchemaDefinition). (origin.Definition, d)) l ++ schema_originated c.args.extensions.now) (ap nows c.deref.ensures.value ∙ s.schemas_are) ∙
    ap (λ l. map (λ (d : SchemaDefinition). (origin.Definition, d)) (schemas definitions) ++ l) e in
    let directives = ap schema_originated c.deref-2.ensures.value ∙ parts in
    both_ok c.place_definition.result _ _ (SchemaDefinitionSays definitions)
    (λ node is place. record {
      directives =
          subst (λ (d : typed.SchemaDefinition). ComponentsSay DirectiveSays (listed_by (λ (part : SchemaDefinition). part.directives) (schema_parts definitions)) d.directives.items) (sym is)
          (subst (λ l. ComponentsSay DirectiveSays (listed_by (λ (part : SchemaDefinition). part.directives) l) c.in_ok-directives.directives.items) directives c.in_ok-directives.ensures);
      query = ap (λ (d : typed.SchemaDefinition). d.query) is ∙ c.in_ok-query.ensures definitions s (ap schema_originated c.deref-3.ensures.value ∙ parts);
      mutation = ap (λ (d : typed.SchemaDefinition). d.mutation) is ∙ c.in_ok-mutation.ensures definitions s (ap schema_originated c.deref-4.ensures.value ∙ parts);
      subscription = ap (λ (d : typed.SchemaDefinition). d.subscription) is ∙ c.in_ok-subscription.ensures definitions s (ap schema_originated c.deref-5.ensures.value ∙ parts);
      location = place ∙ ap schema_place (ap nows c.deref-6.ensures.value ∙ s.schemas_are);
    })
    c.place_definition.ensures.value c.place_definition.ensures.location
