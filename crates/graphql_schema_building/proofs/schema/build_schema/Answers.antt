use Rattle.std.proofs.Common.{◌∙◌, All, List, ap, map, subst, sym}
use Rattle.std.specs.Prelude.{filter, not}
use Rattle.graphql_trees.specs.declared.type_system.DirectiveDefinition.{DirectiveDefinition}
use Rattle.graphql_nodes.specs.Names.{AreDistinct}
use Rattle.graphql_schema_checking.specs.Definitions.{definitions_in, directives, is_built_in_name, name_of}
use Rattle.graphql_repetitions.specs.References.{nows}
use Rattle.graphql_schema_building.specs.Numbered.{schema_originated}
use Rattle.graphql_schema_building.specs.Parts.{parts_with, type_parts}
use Rattle.graphql_schema_building.specs.SchemaSays.{DirectivesStand, TypesStand, directives_with, is_built_in_directive}
use Rattle.graphql_schema_building.specs.TypeParts.{originated}
use Rattle.graphql_schema_building.specs.TypesSay.{PartsAreDistinct}
use Rattle.graphql_schema_building.proofs.BuildsLemmas.{parts_are_distinct}
use Rattle.graphql_schema_building.proofs.RedefinedLemmas.{names_filtered, said_distinct}
use Rattle.graphql_schema_building.proofs.schema.build_schema.Goals as goal

pub build_directive_definitions-requires : goal.build_directive_definitions-requires
build_directive_definitions-requires c =
    let definitions = definitions_in c.args.trees.now in
    let s = c.in_ok-sorted.ensures in
    let ds = directives definitions in
    let said = λ (ds : List DirectiveDefinition). directives_with (filter is_built_in_directive ds) (filter (λ d. not (is_built_in_directive d)) ds) in
    subst (λ l. AreDistinct (map (λ (d : DirectiveDefinition). d.name) l))
    (sym (ap nows c.deref-3.ensures.value ∙ c.in_ok-directives.ensures ∙ ap said (ap nows c.deref-2.ensures.value ∙ s.directives_are)))
    (said_distinct (filter is_built_in_directive ds) (filter (λ d. not (is_built_in_directive d)) ds)
    (subst AreDistinct (names_filtered is_built_in_name ds) c.requires.unique_built_in_directives)
    (subst AreDistinct (names_filtered (λ n. not (is_built_in_name n)) ds) c.requires.unique_directives))

pub build_types-requires : goal.build_types-requires
build_types-requires c =
    let definitions = definitions_in c.args.trees.now in
    let s = c.in_ok-sorted.ensures in
    let n = c.in_ok-extensions.ensures in
    let types_are = ap nows c.deref-4.ensures.value ∙ s.types_are in
    record {
      names = subst (λ l. AreDistinct (map name_of l)) (sym types_are) c.requires.unique_types;
      parts =
          subst (λ l. All (λ d. PartsAreDistinct (parts_with l d)) (nows c.deref-4.result.now)) (sym (ap originated c.deref-5.ensures.value ∙ n.types_are))
          (subst (All (λ d. PartsAreDistinct (type_parts definitions d))) (sym types_are)
          (λ k d within. parts_are_distinct definitions _ (c.requires.distinct_parts k d within)));
    }

pub returns : goal.returns
returns c =
    let definitions = definitions_in c.args.trees.now in
    let s = c.in_ok-sorted.ensures in
    let n = c.in_ok-extensions.ensures in
    let said = λ (ds : List DirectiveDefinition). directives_with (filter is_built_in_directive ds) (filter (λ d. not (is_built_in_directive d)) ds) in
    record {
      schema_definition = c.in_ok-schema_definition.ensures definitions s (ap schema_originated c.deref.ensures.value ∙ n.schemas_are);
      directive_definitions =
          subst (λ l. DirectivesStand l c.in_ok-directive_definitions.directive_definitions.entries)
          (ap nows c.deref-3.ensures.value ∙ c.in_ok-directives.ensures ∙ ap said (ap nows c.deref-2.ensures.value ∙ s.directives_are))
          c.in_ok-directive_definitions.ensures;
      types_are =
          subst (λ l. TypesStand definitions l c.in_ok-types.types.entries) (ap nows c.deref-4.ensures.value ∙ s.types_are)
          (c.in_ok-types.ensures definitions (ap originated c.deref-5.ensures.value ∙ n.types_are));
      meta_fields = record {
        typename = c.in_ok-meta_fields.ensures.typename;
        schema = c.in_ok-meta_fields.ensures.schema;
        type_by_name = c.in_ok-meta_fields.ensures.type_by_name;
      };
    }
