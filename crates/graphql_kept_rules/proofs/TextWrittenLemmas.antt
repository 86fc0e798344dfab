-- The values that are written in documents of one text are the same. Specification: 5.6.3 Input Object Field Uniqueness.
use Rattle.std.proofs.Common.{◌⊎◌, inl, inr, List, Option, refl, sym, subst}
use Rattle.std.specs.Prelude.{Any}
use Rattle.indexmap.specs.IndexMap.{values}
use Rattle.graphql_nodes.specs.Names.{AreDistinct}
use Rattle.graphql_nodes.specs.declared.nodes.Node.{Node}
use Rattle.graphql_documents.specs.Executables.{operations_of}
use Rattle.graphql_documents.specs.Selections.{arguments_of, directives_of}
use Rattle.graphql_documents.specs.declared.documents.definitions.VariableDefinition.{VariableDefinition}
use Rattle.graphql_documents.specs.declared.documents.directives.Argument.{Argument}
use Rattle.graphql_documents.specs.declared.documents.directives.Directive.{Directive}
use Rattle.graphql_documents.specs.declared.documents.executables.ExecutableDocument.{ExecutableDocument}
use Rattle.graphql_documents.specs.declared.documents.executables.Fragment.{Fragment}
use Rattle.graphql_documents.specs.declared.documents.executables.Operation.{Operation}
use Rattle.graphql_documents.specs.declared.documents.executables.Selection.{Selection}
use Rattle.graphql_documents.specs.declared.documents.executables.SelectionSet.{SelectionSet}
use Rattle.graphql_documents.specs.declared.documents.values.Value.{Value}
use Rattle.graphql_documents.specs.declared.documents.values.Value.TheVariants as literal
use Rattle.graphql_document_building.specs.SameDocuments.{SameUnderName}
use Rattle.graphql_kept_rules.specs.SameTexts.{SameFragmentText, SameOperationText, SameSelectionText, SameText}
use Rattle.graphql_document_building.specs.SameLeaves.{SameArgument, SameArguments, SameContents, SameDefault, SameDirective, SameDirectives, SameValue, SameVariable}
use Rattle.graphql_input_rules.specs.InputFields.{FieldsAreUnique, InputFieldsAreUnique, entry_names}
use Rattle.graphql_input_rules.specs.ValuesWritten.{DefaultWrites, DocumentWrites, FragmentWrites, InArguments, InDirectives, OperationWrites, SetWrites, ValueWritten, VariableWrites, WritesItself, value_in_entry, value_in_item, value_itself}
use Rattle.graphql_sameness_laws.proofs.NamedLemmas.{default_alike}
use Rattle.graphql_kept_rules.proofs.TextReachLemmas.{written_too}
use Rattle.graphql_kept_rules.proofs.TextSelectionLemmas.{SameSet, document_back, fragment_definitions_alike, fragment_set, operation_set, operations_alike, own_arguments, own_directives}
use Rattle.graphql_sameness_laws.proofs.ValueLemmas.{list_too, object_too}
use Rattle.graphql_sameness_laws.proofs.ZipLemmas.{other_side, zip_contains, zip_one}
use Rattle.graphql_sameness_laws.proofs.FoundLemmas.{found_too}

-- a value of which this holds is the same as the first
abbrev Like : (Value → Type 0) → Value → Type 0
Like Holds value = (other : Value) × Holds other × SameContents value other

either : (P Q R S : Value → Type 0) (value : Value) → (P value → Like R value) → (Q value → Like S value) → P value ⊎ Q value → Like (λ v. R v ⊎ S v) value
either P Q R S value first second h = elim h [
  | inl p ↦ let found = first p in (found.0, inl found.1, found.2)
  | inr q ↦ let found = second q in (found.0, inr found.1, found.2)
]

-- ==== values

value_written_too : {v inner : Value} → ValueWritten v inner → (w : Value) → SameContents v w → Like (ValueWritten w) inner
value_written_too value_itself w same = (w, value_itself, same)
value_written_too (value_in_item items item {inner = inner} c below) w same =
    let other = list_too (literal.List items) w items same refl in
    let x = zip_contains SameValue items.items other.0.items item other.1 c in
    let deep = value_written_too below x.0.value.value x.2.contents in
    (deep.0, subst (λ w. ValueWritten w deep.0) (sym other.2) (value_in_item other.0 x.0 x.1 deep.1), deep.2)
value_written_too (value_in_entry entries entry {inner = inner} c below) w same =
    let other = object_too (literal.Object entries) w entries same refl in
    let x = zip_contains (SameUnderName SameValue) entries.items other.0.items entry other.1 c in
    let deep = value_written_too below x.0.1.value.value x.2.1.contents in
    (deep.0, subst (λ w. ValueWritten w deep.0) (sym other.2) (value_in_entry other.0 x.0 x.1 deep.1), deep.2)

in_arguments_too : (xs ys : List (Node Argument)) (value : Value) → SameArguments xs ys → InArguments xs value → Like (InArguments ys) value
in_arguments_too xs ys value same =
    found_too SameArgument (λ x. ValueWritten x.value.value.value.value.value value) (λ other y. ValueWritten y.value.value.value.value.value other)
    (SameContents value) (λ x y p written. value_written_too written y.value.value.value.value.value p.value.contents) xs ys same

in_directives_too : (xs ys : List (Node Directive)) (value : Value) → SameDirectives xs ys → InDirectives xs value → Like (InDirectives ys) value
in_directives_too xs ys value same =
    found_too SameDirective (λ x. InArguments x.value.value.arguments.items value) (λ other y. InArguments y.value.value.arguments.items other)
    (SameContents value) (λ x y p written. in_arguments_too _ _ value p.arguments written) xs ys same

default_writes_too : (o p : Option (Node Value)) (value : Value) → SameDefault o p → DefaultWrites o value → Like (DefaultWrites p) value
default_writes_too o p value same (default, is, written) =
    let y = other_side SameValue o p default (default_alike o p same) is in
    let deep = value_written_too written y.0.value.value y.2.contents in
    (deep.0, (y.0, y.1, deep.1), deep.2)

-- ==== documents

writes_itself_too : (s t : Selection) (value : Value) → SameSelectionText s t → WritesItself s value → Like (WritesItself t) value
writes_itself_too s t value same =
    either (InArguments (arguments_of s)) (InDirectives (directives_of s)) (InArguments (arguments_of t)) (InDirectives (directives_of t)) value
    (in_arguments_too (arguments_of s) (arguments_of t) value (own_arguments same)) (in_directives_too (directives_of s) (directives_of t) value (own_directives same))

set_writes_too : (s t : SelectionSet) (value : Value) → SameSet s t → SetWrites s value → Like (SetWrites t) value
set_writes_too s t value same (x, inside, writes) =
    let y = written_too s x inside t same in
    let deep = writes_itself_too x y.0 value y.2 writes in
    (deep.0, (y.0, y.1, deep.1), deep.2)

variable_writes_too : (v w : Node VariableDefinition) (value : Value) → SameVariable v w → VariableWrites v.value.value value → Like (VariableWrites w.value.value) value
variable_writes_too v w value same =
    either (DefaultWrites v.value.value.default_value) (InDirectives v.value.value.directives.items)
    (DefaultWrites w.value.value.default_value) (InDirectives w.value.value.directives.items) value
    (default_writes_too _ _ value same.default_value) (in_directives_too _ _ value same.directives)

operation_writes_too : (o p : Node Operation) (value : Value) → SameOperationText o p → OperationWrites o.value.value value → Like (OperationWrites p.value.value) value
operation_writes_too o p value same =
    either (λ value. Any (λ v. VariableWrites v.value.value value) o.value.value.variables.items)
    (λ value. InDirectives o.value.value.directives.items value ⊎ SetWrites o.value.value.selection_set value)
    (λ value. Any (λ v. VariableWrites v.value.value value) p.value.value.variables.items)
    (λ value. InDirectives p.value.value.directives.items value ⊎ SetWrites p.value.value.selection_set value) value
    (found_too SameVariable (λ v. VariableWrites v.value.value value) (λ other w. VariableWrites w.value.value other) (SameContents value)
    (λ v w q writes. variable_writes_too v w value q writes) o.value.value.variables.items p.value.value.variables.items same.variables)
    (either (InDirectives o.value.value.directives.items) (SetWrites o.value.value.selection_set)
    (InDirectives p.value.value.directives.items) (SetWrites p.value.value.selection_set) value
    (in_directives_too _ _ value same.directives) (set_writes_too _ _ value (operation_set o p same)))

fragment_writes_too : (f g : Node Fragment) (value : Value) → SameFragmentText f g → FragmentWrites f.value.value value → Like (FragmentWrites g.value.value) value
fragment_writes_too f g value same =
    either (InDirectives f.value.value.directives.items) (SetWrites f.value.value.selection_set)
    (InDirectives g.value.value.directives.items) (SetWrites g.value.value.selection_set) value
    (in_directives_too _ _ value same.directives) (set_writes_too _ _ value (fragment_set f g same))

document_writes_too : (d e : ExecutableDocument) (value : Value) → SameText d e → DocumentWrites d value → Like (DocumentWrites e) value
document_writes_too d e value same =
    either (λ value. Any (λ o. OperationWrites o.value.value value) (operations_of d)) (λ value. Any (λ f. FragmentWrites f.value.value value) (values d.fragments))
    (λ value. Any (λ o. OperationWrites o.value.value value) (operations_of e)) (λ value. Any (λ f. FragmentWrites f.value.value value) (values e.fragments)) value
    (found_too SameOperationText (λ o. OperationWrites o.value.value value) (λ other p. OperationWrites p.value.value other) (SameContents value)
    (λ o p q writes. operation_writes_too o p value q writes) (operations_of d) (operations_of e) (operations_alike d e same))
    (found_too SameFragmentText (λ f. FragmentWrites f.value.value value) (λ other g. FragmentWrites g.value.value other) (SameContents value)
    (λ f g q writes. fragment_writes_too f g value q writes) (values d.fragments) (values e.fragments) (fragment_definitions_alike d e same))

-- ==== the names of input fields

unique_too : (Before After : Value → Type 0) → ((value : Value) → After value → Like Before value) → FieldsAreUnique Before → FieldsAreUnique After
unique_too Before After back unique entries written =
    let found = back (literal.Object entries) written in
    let other = object_too (literal.Object entries) found.0 entries found.2 refl in
    let here : AreDistinct (entry_names other.0.items) = unique other.0 (subst Before other.2 found.1) in
    subst AreDistinct (sym (zip_one (SameUnderName SameValue) (λ e. e.0) (λ x y p. p.0) entries.items other.0.items other.1)) here

pub input_fields_unique_too : (d e : ExecutableDocument) → SameText d e → InputFieldsAreUnique d → InputFieldsAreUnique e
input_fields_unique_too d e same =
    unique_too (DocumentWrites d) (DocumentWrites e) (λ value writes. document_writes_too e d value (document_back d e same) writes)
