use Rattle.std.proofs.Common.{◌≡◌, ◌+◌, ◌*◌, List, ◌++◌, All, take}
use Rattle.graphql_diagnostics.specs.Diagnostics.{IsDiagnostic, entries}
use Rattle.graphql_nodes.specs.Names.{NameText}
use Rattle.graphql_diagnostics.specs.Reports.{Reports}
use Rattle.graphql_documents.specs.Schemas.{IsInputObject}
use Rattle.graphql_documents.specs.TypeReferences.{TypeReference, inner_named_type}
use Rattle.graphql_specification.specs.Values.{ValueReport}
use Rattle.graphql_documents.specs.declared.documents.components.Component.{Component}
use Rattle.graphql_documents.specs.declared.documents.definitions.InputValueDefinition.{InputValueDefinition}
use Rattle.graphql_values.specs.ValueSteps.{AcceptsField, AcceptsItem, ItemReport, written_at}
use Rattle.graphql_values.proofs.MeasureLemmas.{entries_size}
use Rattle.graphql_values.proofs.value.+value.Given as goal

-- the items and the entries of a value are less deep than it is
abbrev pub decreases-check_value : goal.decreases-check_value
decreases-check_value l = 5 * goal.size-check_value l + 4

abbrev pub decreases-check_expected : goal.decreases-check_expected
decreases-check_expected l = 5 * goal.size-check_expected l + 3

abbrev pub decreases-check_list : goal.decreases-check_list
decreases-check_list l = 5 * goal.size-check_list l + 2

abbrev pub decreases-check_object : goal.decreases-check_object
decreases-check_object l = 5 * goal.size-check_object l + 2

abbrev pub decreases-check_items : goal.decreases-check_items
decreases-check_items l = 5 * goal.size-check_items l + 4

abbrev pub decreases-check_fields : goal.decreases-check_fields
decreases-check_fields l = 5 * goal.size-check_fields l + 1

abbrev pub decreases-check_entry : goal.decreases-check_entry
decreases-check_entry l = 5 * entries_size l.entries.now + 5

abbrev pub invariant-check_fields-loop-name : goal.invariant-check_fields-loop-name
invariant-check_fields-loop-name l = record {
  can_next : (goal.iterator-check_fields-loop-name).can_next l.name-iterator;
  is_finite : (goal.iterator-check_fields-loop-name).is_finite l.name-iterator;
  done : List (NameText × Component InputValueDefinition);
  all : l.input_object.value.value.fields.entries ≡ done ++ l.name-iterator;
  checked : (ty : TypeReference) → IsInputObject l.schema (inner_named_type ty.ty) l.input_object →
      Reports (All (AcceptsField l.schema l.variables l.entries) done)
      (IsDiagnostic (ValueReport l.schema l.variables ty l.value)) (entries l.initial.diagnostics) (entries l.diagnostics);
}

abbrev pub invariant-check_items-loop-item : goal.invariant-check_items-loop-item
invariant-check_items-loop-item l =
    Reports (All (AcceptsItem l.schema l.variables l.expected.ty.now) (take l.item-index l.items))
    (IsDiagnostic (ItemReport l.schema l.variables (written_at l.expected.ty.now l.expected.location) l.items)) (entries l.initial.diagnostics) (entries l.diagnostics)
