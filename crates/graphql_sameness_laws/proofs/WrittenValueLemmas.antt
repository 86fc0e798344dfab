-- The values that are written in documents and schemas that are the same are the same. Specification: 5.6.3 Input Object Field Uniqueness.
use Rattle.std.proofs.Common.{◌⊎◌, inl, inr, List, Option, None, map, refl, sym, subst}
use Rattle.std.specs.Prelude.{Any}
use Rattle.indexmap.specs.IndexMap.{values}
use Rattle.graphql_nodes.specs.Names.{AreDistinct, NameText}
use Rattle.graphql_nodes.specs.declared.nodes.Node.{Node}
use Rattle.graphql_documents.specs.Executables.{operations_of}
use Rattle.graphql_documents.specs.Selections.{arguments_of, directives_of}
use Rattle.graphql_documents.specs.declared.documents.components.Component.{Component}
use Rattle.graphql_documents.specs.declared.documents.definitions.DirectiveDefinition.{DirectiveDefinition}
use Rattle.graphql_documents.specs.declared.documents.definitions.EnumValueDefinition.{EnumValueDefinition}
use Rattle.graphql_documents.specs.declared.documents.definitions.FieldDefinition.{FieldDefinition}
use Rattle.graphql_documents.specs.declared.documents.definitions.InputValueDefinition.{InputValueDefinition}
use Rattle.graphql_documents.specs.declared.documents.definitions.VariableDefinition.{VariableDefinition}
use Rattle.graphql_documents.specs.declared.documents.directives.Argument.{Argument}
use Rattle.graphql_documents.specs.declared.documents.directives.Directive.{Directive}
use Rattle.graphql_documents.specs.declared.documents.executables.ExecutableDocument.{ExecutableDocument}
use Rattle.graphql_documents.specs.declared.documents.executables.Fragment.{Fragment}
use Rattle.graphql_documents.specs.declared.documents.executables.Operation.{Operation}
use Rattle.graphql_documents.specs.declared.documents.executables.Selection.{Selection}
use Rattle.graphql_documents.specs.declared.documents.executables.SelectionSet.{SelectionSet}
use Rattle.graphql_documents.specs.declared.documents.schemas.ExtendedType.{ExtendedType}
use Rattle.graphql_documents.specs.declared.documents.schemas.ExtendedType.TheVariants.{Scalar, Object, Interface, Union, Enum, InputObject}
use Rattle.graphql_documents.specs.declared.documents.schemas.Schema.{Schema}
use Rattle.graphql_documents.specs.declared.documents.values.Value.{Value}
use Rattle.graphql_documents.specs.declared.documents.values.Value.TheVariants as literal
use Rattle.graphql_document_building.specs.SameDocuments.{SameDocument, SameFragment, SameOperation, SameSelection, SameUnderName}
use Rattle.graphql_document_building.specs.SameLeaves.{SameArgument, SameArguments, SameContents, SameDefault, SameDirective, SameDirectiveDefinition, SameDirectives, SameEnumValue, SameField, SameInputValue, SameInputValues, SameValue, SameVariable}
use Rattle.graphql_building_laws.specs.SameSchemas.{SameComponent, SameComponents, SameEntries, SameSchema, SameType}
use Rattle.graphql_input_rules.specs.InputFields.{FieldsAreUnique, InputFieldsAreUnique, entry_names}
use Rattle.graphql_input_rules.specs.SchemaValues.{ArgumentsWrite, DirectiveDefinitionsWrite, EnumValuesWrite, FieldDefinitionWrites, FieldsWrite, InAppliedDirectives, InputFieldsWrite, InputValueWrites, SchemaInputFieldsAreUnique, SchemaWrites, TypeWrites, TypesWrite, meta_fields_of}
use Rattle.graphql_input_rules.specs.ValuesWritten.{DefaultWrites, DocumentWrites, FragmentWrites, InArguments, InDirectives, OperationWrites, SetWrites, ValueWritten, VariableWrites, WritesItself, value_in_entry, value_in_item, value_itself}
use Rattle.graphql_sameness_laws.proofs.NamedLemmas.{default_alike}
use Rattle.graphql_sameness_laws.proofs.ReachLemmas.{written_too}
use Rattle.graphql_sameness_laws.proofs.SchemaSamenessLemmas.{schema_back}
use Rattle.graphql_sameness_laws.proofs.SelectionLemmas.{SameSet, document_back, fragment_definitions_alike, fragment_set, operation_set, operations_alike, own_arguments, own_directives}
use Rattle.graphql_sameness_laws.proofs.ValueLemmas.{list_too, object_too}
use Rattle.graphql_sameness_laws.proofs.ZipLemmas.{other_side, zip_contains, zip_mapped, zip_one}
use Rattle.graphql_sameness_laws.proofs.FoundLemmas.{found_too}

-- a value of which this holds is the same as the first
abbrev Like : (Value → Type 0) → Value → Type 0
Like Holds value = (other : Value) × Holds other × SameContents value other

either : (P Q R S : Value → Type 0) (value : Value) → (P value → Like R value) → (Q value → Like S value) → P value ⊎ Q value → Like (λ v. R v ⊎ S v) value
either P Q R S value first second h = elim h [
  | inl p ↦ let found = first p in (found.0, inl found.1, found.2)
  | inr q ↦ let found = second q in (found.0, inr found.1, found.2)
]

-- ==== values

value_written_too : {v inner : Value} → ValueWritten v inner → (w : Value) → SameContents v w → Like (ValueWritten w) inner
value_written_too value_itself w same = (w, value_itself, same)
value_written_too (value_in_item items item {inner = inner} c below) w same =
    let other = list_too (literal.List items) w items same refl in
    let x = zip_contains SameValue items.items other.0.items item other.1 c in
    let deep = value_written_too below x.0.value.value x.2.contents in
    (deep.0, subst (λ w. ValueWritten w deep.0) (sym other.2) (value_in_item other.0 x.0 x.1 deep.1), deep.2)
value_written_too (value_in_entry entries entry {inner = inner} c below) w same =
    let other = object_too (literal.Object entries) w entries same refl in
    let x = zip_contains (SameUnderName SameValue) entries.items other.0.items entry other.1 c in
    let deep = value_written_too below x.0.1.value.value x.2.1.contents in
    (deep.0, subst (λ w. ValueWritten w deep.0) (sym other.2) (value_in_entry other.0 x.0 x.1 deep.1), deep.2)

in_arguments_too : (xs ys : List (Node Argument)) (value : Value) → SameArguments xs ys → InArguments xs value → Like (InArguments ys) value
in_arguments_too xs ys value same =
    found_too SameArgument (λ x. ValueWritten x.value.value.value.value.value value) (λ other y. ValueWritten y.value.value.value.value.value other)
    (SameContents value) (λ x y p written. value_written_too written y.value.value.value.value.value p.value.contents) xs ys same

in_directives_too : (xs ys : List (Node Directive)) (value : Value) → SameDirectives xs ys → InDirectives xs value → Like (InDirectives ys) value
in_directives_too xs ys value same =
    found_too SameDirective (λ x. InArguments x.value.value.arguments.items value) (λ other y. InArguments y.value.value.arguments.items other)
    (SameContents value) (λ x y p written. in_arguments_too _ _ value p.arguments written) xs ys same

default_writes_too : (o p : Option (Node Value)) (value : Value) → SameDefault o p → DefaultWrites o value → Like (DefaultWrites p) value
default_writes_too o p value same (default, is, written) =
    let y = other_side SameValue o p default (default_alike o p same) is in
    let deep = value_written_too written y.0.value.value y.2.contents in
    (deep.0, (y.0, y.1, deep.1), deep.2)

-- ==== documents

writes_itself_too : (s t : Selection) (value : Value) → SameSelection None s t → WritesItself s value → Like (WritesItself t) value
writes_itself_too s t value same =
    either (InArguments (arguments_of s)) (InDirectives (directives_of s)) (InArguments (arguments_of t)) (InDirectives (directives_of t)) value
    (in_arguments_too (arguments_of s) (arguments_of t) value (own_arguments same)) (in_directives_too (directives_of s) (directives_of t) value (own_directives same))

set_writes_too : (s t : SelectionSet) (value : Value) → SameSet s t → SetWrites s value → Like (SetWrites t) value
set_writes_too s t value same (x, inside, writes) =
    let y = written_too s x inside t same in
    let deep = writes_itself_too x y.0 value y.2 writes in
    (deep.0, (y.0, y.1, deep.1), deep.2)

variable_writes_too : (v w : Node VariableDefinition) (value : Value) → SameVariable v w → VariableWrites v.value.value value → Like (VariableWrites w.value.value) value
variable_writes_too v w value same =
    either (DefaultWrites v.value.value.default_value) (InDirectives v.value.value.directives.items)
    (DefaultWrites w.value.value.default_value) (InDirectives w.value.value.directives.items) value
    (default_writes_too _ _ value same.default_value) (in_directives_too _ _ value same.directives)

operation_writes_too : (o p : Node Operation) (value : Value) → SameOperation None o p → OperationWrites o.value.value value → Like (OperationWrites p.value.value) value
operation_writes_too o p value same =
    either (λ value. Any (λ v. VariableWrites v.value.value value) o.value.value.variables.items)
    (λ value. InDirectives o.value.value.directives.items value ⊎ SetWrites o.value.value.selection_set value)
    (λ value. Any (λ v. VariableWrites v.value.value value) p.value.value.variables.items)
    (λ value. InDirectives p.value.value.directives.items value ⊎ SetWrites p.value.value.selection_set value) value
    (found_too SameVariable (λ v. VariableWrites v.value.value value) (λ other w. VariableWrites w.value.value other) (SameContents value)
    (λ v w q writes. variable_writes_too v w value q writes) o.value.value.variables.items p.value.value.variables.items same.variables)
    (either (InDirectives o.value.value.directives.items) (SetWrites o.value.value.selection_set)
    (InDirectives p.value.value.directives.items) (SetWrites p.value.value.selection_set) value
    (in_directives_too _ _ value same.directives) (set_writes_too _ _ value (operation_set o p same)))

fragment_writes_too : (f g : Node Fragment) (value : Value) → SameFragment None f g → FragmentWrites f.value.value value → Like (FragmentWrites g.value.value) value
fragment_writes_too f g value same =
    either (InDirectives f.value.value.directives.items) (SetWrites f.value.value.selection_set)
    (InDirectives g.value.value.directives.items) (SetWrites g.value.value.selection_set) value
    (in_directives_too _ _ value same.directives) (set_writes_too _ _ value (fragment_set f g same))

document_writes_too : (d e : ExecutableDocument) (value : Value) → SameDocument None d e → DocumentWrites d value → Like (DocumentWrites e) value
document_writes_too d e value same =
    either (λ value. Any (λ o. OperationWrites o.value.value value) (operations_of d)) (λ value. Any (λ f. FragmentWrites f.value.value value) (values d.fragments))
    (λ value. Any (λ o. OperationWrites o.value.value value) (operations_of e)) (λ value. Any (λ f. FragmentWrites f.value.value value) (values e.fragments)) value
    (found_too (SameOperation None) (λ o. OperationWrites o.value.value value) (λ other p. OperationWrites p.value.value other) (SameContents value)
    (λ o p q writes. operation_writes_too o p value q writes) (operations_of d) (operations_of e) (operations_alike d e same))
    (found_too (SameFragment None) (λ f. FragmentWrites f.value.value value) (λ other g. FragmentWrites g.value.value other) (SameContents value)
    (λ f g q writes. fragment_writes_too f g value q writes) (values d.fragments) (values e.fragments) (fragment_definitions_alike d e same))

-- ==== schemas

in_applied_too : (xs ys : List (Component Directive)) (value : Value) → SameComponents SameDirective xs ys → InAppliedDirectives xs value → Like (InAppliedDirectives ys) value
in_applied_too xs ys value same =
    found_too (SameComponent SameDirective) (λ x. InArguments x.node.value.value.arguments.items value) (λ other y. InArguments y.node.value.value.arguments.items other)
    (SameContents value) (λ x y p written. in_arguments_too _ _ value p.1.arguments written) xs ys same

input_value_writes_too : (d e : Node InputValueDefinition) (value : Value) → SameInputValue d e → InputValueWrites d.value.value value → Like (InputValueWrites e.value.value) value
input_value_writes_too d e value same =
    either (InDirectives d.value.value.directives.items) (DefaultWrites d.value.value.default_value)
    (InDirectives e.value.value.directives.items) (DefaultWrites e.value.value.default_value) value
    (in_directives_too _ _ value same.directives) (default_writes_too _ _ value same.default_value)

arguments_write_too : (xs ys : List (Node InputValueDefinition)) (value : Value) → SameInputValues xs ys → ArgumentsWrite xs value → Like (ArgumentsWrite ys) value
arguments_write_too xs ys value same =
    found_too SameInputValue (λ x. InputValueWrites x.value.value value) (λ other y. InputValueWrites y.value.value other)
    (SameContents value) (λ x y p written. input_value_writes_too x y value p written) xs ys same

field_writes_too : (d e : Node FieldDefinition) (value : Value) → SameField d e → FieldDefinitionWrites d.value.value value → Like (FieldDefinitionWrites e.value.value) value
field_writes_too d e value same =
    either (InDirectives d.value.value.directives.items) (ArgumentsWrite d.value.value.arguments.items)
    (InDirectives e.value.value.directives.items) (ArgumentsWrite e.value.value.arguments.items) value
    (in_directives_too _ _ value same.directives) (arguments_write_too _ _ value same.arguments)

fields_write_too : (xs ys : List (Component FieldDefinition)) (value : Value) → SameComponents SameField xs ys → FieldsWrite xs value → Like (FieldsWrite ys) value
fields_write_too xs ys value same =
    found_too (SameComponent SameField) (λ x. FieldDefinitionWrites x.node.value.value value) (λ other y. FieldDefinitionWrites y.node.value.value other)
    (SameContents value) (λ x y p written. field_writes_too x.node y.node value p.1 written) xs ys same

input_fields_write_too : (xs ys : List (Component InputValueDefinition)) (value : Value) → SameComponents SameInputValue xs ys →
    InputFieldsWrite xs value → Like (InputFieldsWrite ys) value
input_fields_write_too xs ys value same =
    found_too (SameComponent SameInputValue) (λ x. InputValueWrites x.node.value.value value) (λ other y. InputValueWrites y.node.value.value other)
    (SameContents value) (λ x y p written. input_value_writes_too x.node y.node value p.1 written) xs ys same

enum_values_write_too : (xs ys : List (Component EnumValueDefinition)) (value : Value) → SameComponents SameEnumValue xs ys →
    EnumValuesWrite xs value → Like (EnumValuesWrite ys) value
enum_values_write_too xs ys value same =
    found_too (SameComponent SameEnumValue) (λ x. InDirectives x.node.value.value.directives.items value) (λ other y. InDirectives y.node.value.value.directives.items other)
    (SameContents value) (λ x y p written. in_directives_too _ _ value p.1.directives written) xs ys same

parts_alike : {X : Type 0} (R : Node X → Node X → Type 0) (xs ys : List (NameText × Component X)) → SameEntries R xs ys →
    SameComponents R (map (λ e. e.1) xs) (map (λ e. e.1) ys)
parts_alike R xs ys same = zip_mapped (SameUnderName (SameComponent R)) (SameComponent R) (λ e. e.1) (λ x y p. p.1) xs ys same

type_writes_too : (x y : ExtendedType) (value : Value) → SameType x y → TypeWrites x value → Like (TypeWrites y) value
type_writes_too (Scalar d) (Scalar e) value same h = in_applied_too _ _ value same.directives h
type_writes_too (Object d) (Object e) value same h =
    either (InAppliedDirectives d.value.value.directives.items) (FieldsWrite (values d.value.value.fields))
    (InAppliedDirectives e.value.value.directives.items) (FieldsWrite (values e.value.value.fields)) value
    (in_applied_too _ _ value same.directives) (fields_write_too _ _ value (parts_alike SameField _ _ same.fields)) h
type_writes_too (Interface d) (Interface e) value same h =
    either (InAppliedDirectives d.value.value.directives.items) (FieldsWrite (values d.value.value.fields))
    (InAppliedDirectives e.value.value.directives.items) (FieldsWrite (values e.value.value.fields)) value
    (in_applied_too _ _ value same.directives) (fields_write_too _ _ value (parts_alike SameField _ _ same.fields)) h
type_writes_too (Union d) (Union e) value same h = in_applied_too _ _ value same.directives h
type_writes_too (Enum d) (Enum e) value same h =
    either (InAppliedDirectives d.value.value.directives.items) (EnumValuesWrite (values d.value.value.values))
    (InAppliedDirectives e.value.value.directives.items) (EnumValuesWrite (values e.value.value.values)) value
    (in_applied_too _ _ value same.directives) (enum_values_write_too _ _ value (parts_alike SameEnumValue _ _ same.values)) h
type_writes_too (InputObject d) (InputObject e) value same h =
    either (InAppliedDirectives d.value.value.directives.items) (InputFieldsWrite (values d.value.value.fields))
    (InAppliedDirectives e.value.value.directives.items) (InputFieldsWrite (values e.value.value.fields)) value
    (in_applied_too _ _ value same.directives) (input_fields_write_too _ _ value (parts_alike SameInputValue _ _ same.fields)) h
type_writes_too _ _ value same h = absurd same

schema_writes_too : (a b : Schema) (value : Value) → SameSchema a b → SchemaWrites a value → Like (SchemaWrites b) value
schema_writes_too a b value same =
    let directives : Schema → List (Node DirectiveDefinition) = λ s. values s.directive_definitions in
    let types : Schema → List ExtendedType = λ s. values s.types in
    let fields : Schema → List (Component FieldDefinition) = λ s. meta_fields_of s.meta_fields in
    either (InAppliedDirectives a.schema_definition.value.value.directives.items)
    (λ value. DirectiveDefinitionsWrite (directives a) value ⊎ (TypesWrite (types a) value ⊎ FieldsWrite (fields a) value))
    (InAppliedDirectives b.schema_definition.value.value.directives.items)
    (λ value. DirectiveDefinitionsWrite (directives b) value ⊎ (TypesWrite (types b) value ⊎ FieldsWrite (fields b) value)) value
    (in_applied_too _ _ value same.schema_definition.directives)
    (either (DirectiveDefinitionsWrite (directives a)) (λ value. TypesWrite (types a) value ⊎ FieldsWrite (fields a) value)
    (DirectiveDefinitionsWrite (directives b)) (λ value. TypesWrite (types b) value ⊎ FieldsWrite (fields b) value) value
    (found_too SameDirectiveDefinition (λ d. ArgumentsWrite d.value.value.arguments.items value) (λ other e. ArgumentsWrite e.value.value.arguments.items other)
    (SameContents value) (λ x y p written. arguments_write_too _ _ value p.arguments written) (directives a) (directives b)
    (zip_mapped (SameUnderName SameDirectiveDefinition) SameDirectiveDefinition (λ e. e.1) (λ x y p. p.1) _ _ same.directive_definitions))
    (either (TypesWrite (types a)) (FieldsWrite (fields a)) (TypesWrite (types b)) (FieldsWrite (fields b)) value
    (found_too SameType (λ t. TypeWrites t value) (λ other u. TypeWrites u other)
    (SameContents value) (λ x y p written. type_writes_too x y value p written) (types a) (types b)
    (zip_mapped (SameUnderName SameType) SameType (λ e. e.1) (λ x y p. p.1) _ _ same.types))
    (fields_write_too (fields a) (fields b) value (same.meta_fields.typename, (same.meta_fields.schema, (same.meta_fields.type_by_name, tt))))))

-- ==== the names of input fields

unique_too : (Before After : Value → Type 0) → ((value : Value) → After value → Like Before value) → FieldsAreUnique Before → FieldsAreUnique After
unique_too Before After back unique entries written =
    let found = back (literal.Object entries) written in
    let other = object_too (literal.Object entries) found.0 entries found.2 refl in
    let here : AreDistinct (entry_names other.0.items) = unique other.0 (subst Before other.2 found.1) in
    subst AreDistinct (sym (zip_one (SameUnderName SameValue) (λ e. e.0) (λ x y p. p.0) entries.items other.0.items other.1)) here

pub input_fields_unique_too : (d e : ExecutableDocument) → SameDocument None d e → InputFieldsAreUnique d → InputFieldsAreUnique e
input_fields_unique_too d e same =
    unique_too (DocumentWrites d) (DocumentWrites e) (λ value writes. document_writes_too e d value (document_back d e same) writes)

pub schema_input_fields_unique_too : (a b : Schema) → SameSchema a b → SchemaInputFieldsAreUnique a → SchemaInputFieldsAreUnique b
schema_input_fields_unique_too a b same =
    unique_too (SchemaWrites a) (SchemaWrites b) (λ value writes. schema_writes_too b a value (schema_back a b same) writes)
