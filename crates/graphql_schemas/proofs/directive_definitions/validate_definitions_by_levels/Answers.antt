use Rattle.std.proofs.Common.{◌≡◌, ◌∷◌, ◌++◌, [], All, Contains, flat_map, sym, ap, subst, ◌∙◌}
use Rattle.std.proofs.lemmas.List.{append-nil}
use Rattle.graphql_diagnostics.specs.Diagnostics.{IsLimitEntry, entries}
use Rattle.graphql_nodes.specs.Names.{NameText}
use Rattle.graphql_diagnostics.specs.Reports.{ReportsWithin}
use Rattle.graphql_specification.specs.DirectiveDefinitions.{DirectiveDefinitionHolds}
use Rattle.graphql_specification.specs.BuiltInScalars.{argument_types}
use Rattle.graphql_diagnostics.proofs.ReportLemmas.{kept_then, kept_wider}
use Rattle.graphql_documents.proofs.ListLemmas.{done_next, stands_next}
use Rattle.graphql_diagnostics.proofs.ReportWithinLemmas.{checks_refused_within, kept_within, wider_within}
use Rattle.graphql_documents.specs.declared.documents.definitions.DirectiveDefinition.{DirectiveDefinition}
use Rattle.graphql_nodes.specs.declared.nodes.Node.{Node}
use Rattle.graphql_field_definitions.specs.BuiltInScalarUses.{Records}
use Rattle.graphql_field_definitions.proofs.BuiltInScalarLemmas.{keeps_by, keeps_then, records_done}
use Rattle.graphql_schemas.proofs.DirectiveDefinitionLemmas.{NamesDefinitions, done_more_within, names_one}
use Rattle.graphql_schemas.proofs.directive_definitions.validate_definitions_by_levels.Goals as goal

pub returns-in_err-validate_definition_by_levels-clause-checks : goal.returns-in_err-validate_definition_by_levels-clause-checks
returns-in_err-validate_definition_by_levels-clause-checks c =
    let schema = c.args.levels.now.schema.now in
    let x : NameText × Node DirectiveDefinition = (c.in-Some.field-0-0.now, c.in-Some.definition.now) in
    let stands : Contains schema.directive_definitions.entries x =
    stands_next _ c.loop-definition.invariant.done c.loop-definition.definition-iterator c.next.new.self x c.loop-definition.invariant.all c.in-Some.ensures.steps in
    checks_refused_within IsLimitEntry _ _ _ _ _ c.from_residual.ensures.0
    (kept_then (kept_within IsLimitEntry c.loop-definition.invariant.checked)
    (kept_wider (names_one schema x stands) c.in_err-validate_definition_by_levels.ensures.checks))

pub returns-in_err-validate_definition_by_levels-clause-keeps : goal.returns-in_err-validate_definition_by_levels-clause-keeps
returns-in_err-validate_definition_by_levels-clause-keeps c =
    keeps_then (keeps_by c.loop-definition.invariant.records) c.in_err-validate_definition_by_levels.ensures.keeps

pub loop-definition-preserved : goal.loop-definition-preserved
loop-definition-preserved c =
    let schema = c.args.levels.now.schema.now in
    let x : NameText × Node DirectiveDefinition = (c.in-Some.field-0-0.now, c.in-Some.definition.now) in
    let done = c.loop-definition.invariant.done in
    let stands : Contains schema.directive_definitions.entries x =
    stands_next _ done c.loop-definition.definition-iterator c.next.new.self x c.loop-definition.invariant.all c.in-Some.ensures.steps in
    record {
      can_next = tt;
      is_finite = tt;
      done = done ++ x ∷ [];
      all = done_next _ done c.loop-definition.definition-iterator c.next.new.self x c.loop-definition.invariant.all c.in-Some.ensures.steps;
      checked = done_more_within (λ (entry : NameText × Node DirectiveDefinition). DirectiveDefinitionHolds schema entry.1) (NamesDefinitions schema) done x _ _ _
          c.loop-definition.invariant.checked
          (wider_within IsLimitEntry (names_one schema x stands) c.in_ok-validate_definition_by_levels.ensures.checks);
      records = records_done (λ (entry : NameText × Node DirectiveDefinition). argument_types entry.1.value.value.arguments.items) done x
          c.loop-definition.invariant.records c.in_ok-validate_definition_by_levels.ensures.records;
    }

pub returns-clause-checks : goal.returns-clause-checks
returns-clause-checks c =
    let schema = c.args.levels.now.schema.now in
    let done = c.loop-definition.invariant.done in
    let all : schema.directive_definitions.entries ≡ done = c.loop-definition.invariant.all ∙ ap (λ l. done ++ l) c.in-None.ensures.steps.0 ∙ append-nil done in
    subst (λ l. ReportsWithin IsLimitEntry (All (λ (entry : NameText × Node DirectiveDefinition). DirectiveDefinitionHolds schema entry.1) l) (NamesDefinitions schema)
    (entries c.args.diagnostics.now) (entries c.loop-definition.diagnostics))
    (sym all) c.loop-definition.invariant.checked

pub returns-clause-records : goal.returns-clause-records
returns-clause-records c =
    let done = c.loop-definition.invariant.done in
    let all : c.args.levels.now.schema.now.directive_definitions.entries ≡ done = c.loop-definition.invariant.all ∙ ap (λ l. done ++ l) c.in-None.ensures.steps.0 ∙ append-nil done in
    subst (λ l. Records c.args.built_in_scalars.now c.loop-definition.built_in_scalars
    (flat_map (λ (entry : NameText × Node DirectiveDefinition). argument_types entry.1.value.value.arguments.items) l))
    (sym all) c.loop-definition.invariant.records

pub returns-clause-keeps : goal.returns-clause-keeps
returns-clause-keeps c = keeps_by c.loop-definition.invariant.records
