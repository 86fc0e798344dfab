use Rattle.indexmap.specs.IndexMap.{values}
use Rattle.graphql_documents.specs.declared.documents.components.Component.{Component}
use Rattle.graphql_documents.specs.declared.documents.definitions.EnumValueDefinition.{EnumValueDefinition}
use Rattle.graphql_input_rules.specs.ValuesWritten.{InDirectives}
use Rattle.graphql_input_rules.proofs.PlaceLemmas.{Walking}
use Rattle.graphql_input_rules.proofs.definitions.check_enum_values.Given as goal

abbrev pub invariant-loop-enum_value : goal.invariant-loop-enum_value
invariant-loop-enum_value l = record {
  can_next : (goal.iterator-loop-enum_value).can_next l.enum_value-iterator;
  is_finite : (goal.iterator-loop-enum_value).is_finite l.enum_value-iterator;
  walk : Walking (λ (e : Component EnumValueDefinition). InDirectives e.node.value.value.directives.items) (values l.enum_values) l.enum_value-iterator l.initial.reports.kept.items l.reports.kept.items;
}
