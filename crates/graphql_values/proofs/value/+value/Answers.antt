-- Each exit of the walk over a value.
use Rattle.std.proofs.Common.{◌≡◌, ◌||◌, [], ◌∷◌, ◌++◌, Some, None, IsTrue, IsFalse, refl, sym, ap, ◌∙◌, subst, All, Contains, arith, rules}
use Rattle.std.specs.Option.{option_map}
use Rattle.std.proofs.lemmas.List.{append-nil}
use Rattle.std.proofs.lemmas.List.Elements.{All-nil}
use Rattle.std.proofs.lemmas.Option.{none-some}
use Rattle.graphql_specification.specs.Values.{accepts_undefined, is_custom_scalar, CannotStandFor, ValueReport}
use Rattle.graphql_diagnostics.specs.Diagnostics.{IsDiagnostic, entries}
use Rattle.graphql_nodes.specs.Names.{NameText}
use Rattle.graphql_diagnostics.specs.Reports.{Reports}
use Rattle.graphql_documents.specs.Values.{entry_named}
use Rattle.graphql_documents.specs.declared.documents.components.Component.{Component}
use Rattle.graphql_documents.specs.declared.documents.definitions.InputValueDefinition.{InputValueDefinition}
use Rattle.graphql_nodes.specs.declared.nodes.Node.{Node}
use Rattle.graphql_documents.specs.declared.documents.values.Value.{Value}
use Rattle.graphql_documents.specs.Schemas.{IsInputObject, is_input_type, type_definition}
use Rattle.graphql_documents.specs.TypeReferences.{inner_named_type, is_list, reference_of}
use Rattle.graphql_diagnostics.proofs.ReportLemmas.{ChecksList, both, checks-err, done_more, holds, kept_by, kept_then, kept_wider, walked_all, walked_more, wider}
use Rattle.graphql_documents.proofs.ListLemmas.{done_next, stands_next}
use Rattle.graphql_values.proofs.MeasureLemmas.{entry_is_no_deeper}
use Rattle.graphql_values.proofs.WalkLemmas.{names_item, names_entry, entry_checked, no_list_cannot, no_input_cannot, custom_object_accepted, no_object_cannot, list_checked, object_checked}
use Rattle.graphql_values.specs.ValueSteps.{AcceptsEntry, AcceptsField, AcceptsItem, ItemReport, written_at}
use Rattle.graphql_values.proofs.value.+value.Goals as goal

pub check_value-returns-in_default : goal.check_value-returns-in_default
check_value-returns-in_default t c =
    let missing : type_definition c.args.schema.now (inner_named_type c.args.ty.now) ≡ None = search rules in
    holds _ _ _ (accepts_undefined missing)

pub check_expected-check_list-requires : goal.check_expected-check_list-requires
check_expected-check_list-requires t c =
    (search rules, (record { items = c.in-List.items; is_list = sym c.deref.ensures ∙ c.in-List.is; given_is = c.deref-in-List.ensures.value }, search rules))

pub check_expected-check_object-requires : goal.check_expected-check_object-requires
check_expected-check_object-requires t c =
    (search rules, (record { entries = c.in-Object.entries; is_object = sym c.deref.ensures ∙ c.in-Object.is; given_is = c.deref-in-Object.ensures.value }, search rules))

pub check_list-returns-then-not-takes_lists : goal.check_list-returns-then-not-takes_lists
check_list-returns-then-not-takes_lists t c =
    let none : IsFalse (is_list c.args.expected.now.ty.now || is_custom_scalar c.args.expected.now.definition.now) = search rules in
    c.unsupported_type.ensures c.args.schema.now c.args.variables.now c.args.expected.now.ty.now c.args.expected.now.definition.now c.requires.defined
    (no_list_cannot c.requires.list none)

pub check_list-returns-then-not-is_input_type : goal.check_list-returns-then-not-is_input_type
check_list-returns-then-not-is_input_type t c =
    let takes : IsTrue (is_list c.args.expected.now.ty.now || is_custom_scalar c.args.expected.now.definition.now) = search rules in
    let none : IsFalse (is_input_type c.args.expected.now.definition.now) = search rules in
    c.unsupported_type-then-not-is_input_type.ensures c.args.schema.now c.args.variables.now c.args.expected.now.ty.now c.args.expected.now.definition.now c.requires.defined
    (subst (CannotStandFor c.args.variables.now c.args.expected.now.ty.now c.args.expected.now.definition.now c.args.value.now.value.value) (sym c.item_type.ensures)
    (no_input_cannot c.requires.list takes none))

pub check_list-returns : goal.check_list-returns
check_list-returns t c =
    let takes : IsTrue (is_list c.args.expected.now.ty.now || is_custom_scalar c.args.expected.now.definition.now) = search rules in
    let input : IsTrue (is_input_type c.args.expected.now.definition.now) = search rules in
    list_checked c.args.schema.now c.args.variables.now (written_at c.args.expected.now.ty.now c.args.expected.now.location) c.check_items.result c.args.value.now c.item_type.result.now _ _
    c.requires.defined (takes, input) c.requires.list c.item_type.ensures c.check_items.ensures

pub check_object-returns-then-is_custom_scalar : goal.check_object-returns-then-is_custom_scalar
check_object-returns-then-is_custom_scalar t c =
    let custom : IsTrue (is_custom_scalar c.args.expected.now.definition.now) = search rules in
    holds _ _ _ (custom_object_accepted c.requires.defined c.requires.object custom)

pub check_object-returns-in_default : goal.check_object-returns-in_default
check_object-returns-in_default t c =
    let none : IsFalse (is_custom_scalar c.args.expected.now.definition.now) = search rules in
    c.unsupported_type.ensures c.args.schema.now c.args.variables.now c.args.expected.now.ty.now c.args.expected.now.definition.now c.requires.defined
    (no_object_cannot c.requires.object none c.in_default.not-InputObject)

pub check_object-returns : goal.check_object-returns
check_object-returns t c =
    let schema = c.args.schema.now in
    let variables = c.args.variables.now in
    let o = c.in-InputObject.input_object in
    let ty = written_at c.args.expected.now.ty.now c.args.expected.now.location in
    let is : IsInputObject schema (inner_named_type c.args.expected.now.ty.now) o = c.requires.defined ∙ ap Some c.in-InputObject.is in
    let mid = entries c.check_known_entries.new.diagnostics in
    let new = entries c.check_fields.new.diagnostics in
    object_checked schema variables ty o c.args.value.now c.args.entries.now is c.requires.object _ _ _ _
    (c.in_ok-check_known_entries.ensures schema variables ty is)
    (subst (λ l. ChecksList c.check_fields.result (All (AcceptsField schema variables l) o.value.value.fields.entries)
    (IsDiagnostic (ValueReport schema variables ty c.args.value.now)) mid new) c.in_ok-entries_by_name.ensures
    (c.check_fields.ensures ty is))

pub check_object-returns-in_err-entries_by_name : goal.check_object-returns-in_err-entries_by_name
check_object-returns-in_err-entries_by_name t c =
    let is : IsInputObject c.args.schema.now (inner_named_type c.args.expected.now.ty.now) c.in-InputObject.input_object = c.requires.defined ∙ ap Some c.in-InputObject.is in
    checks-err _ _ _ _ _ c.from_residual-in_err-entries_by_name.ensures.0
    (kept_by (c.in_ok-check_known_entries.ensures c.args.schema.now c.args.variables.now (written_at c.args.expected.now.ty.now c.args.expected.now.location) is))

pub check_object-returns-in_err-check_known_entries : goal.check_object-returns-in_err-check_known_entries
check_object-returns-in_err-check_known_entries t c =
    let is : IsInputObject c.args.schema.now (inner_named_type c.args.expected.now.ty.now) c.in-InputObject.input_object = c.requires.defined ∙ ap Some c.in-InputObject.is in
    checks-err _ _ _ _ _ c.from_residual.ensures.0
    (c.in_err-check_known_entries.ensures c.args.schema.now c.args.variables.now (written_at c.args.expected.now.ty.now c.args.expected.now.location) is)

pub check_items-returns-in_err-check_expected : goal.check_items-returns-in_err-check_expected
check_items-returns-in_err-check_expected t c =
    let xs = c.args.items.now in
    let x = c.item-item.result in
    let among : Contains xs x = (c.loop-item.item-index, c.loop-item-test.true, sym c.item-item.is) in
    checks-err _ _ _ _ _ c.from_residual.ensures.0
    (kept_then (kept_by c.loop-item.invariant)
    (kept_wider (names_item c.args.schema.now c.args.variables.now (written_at c.args.expected.now.ty.now c.args.expected.now.location) xs x among) c.in_err-check_expected.ensures))

pub check_items-loop-item-preserved : goal.check_items-loop-item-preserved
check_items-loop-item-preserved t c =
    let xs = c.args.items.now in
    let x = c.item-item.result in
    let ty = written_at c.args.expected.now.ty.now c.args.expected.now.location in
    let among : Contains xs x = (c.loop-item.item-index, c.loop-item-test.true, sym c.item-item.is) in
    walked_more (AcceptsItem c.args.schema.now c.args.variables.now c.args.expected.now.ty.now)
    (IsDiagnostic (ItemReport c.args.schema.now c.args.variables.now ty xs)) xs c.loop-item.item-index x _ _ _
    c.loop-item-test.true c.item-item.is c.loop-item.invariant
    (wider (names_item c.args.schema.now c.args.variables.now ty xs x among) c.in_ok-check_expected.ensures)

pub check_items-returns : goal.check_items-returns
check_items-returns t c =
    let xs = c.args.items.now in
    walked_all (AcceptsItem c.args.schema.now c.args.variables.now c.args.expected.now.ty.now)
    (IsDiagnostic (ItemReport c.args.schema.now c.args.variables.now (written_at c.args.expected.now.ty.now c.args.expected.now.location) xs)) xs c.loop-item.item-index xs _ _ refl
    c.loop-item-test.false c.loop-item.invariant

pub check_entry-check_value-requires : goal.check_entry-check_value-requires
check_entry-check_value-requires t c =
    (omega (arith, c.decreases, entry_is_no_deeper c.args.name.now c.args.entries.now c.in-Some.field-0.now (sym c.in-Some.ensures)), tt)

pub check_entry-returns : goal.check_entry-returns
check_entry-returns t c =
    let xs = c.args.entries.now in
    let x = c.in-Some.field-0.now in
    let found : entry_named c.args.name.now xs ≡ Some x.1 = ap (option_map (λ (e : NameText × Node Value). e.1)) (sym c.in-Some.ensures) in
    let ty_is : written_at c.deref-2.result.now c.deref.result.now.ty.location ≡ reference_of c.args.field.now.node.value.value.ty =
    ap (λ t. written_at t c.deref.result.now.ty.location) c.deref-2.ensures ∙ ap (λ (d : InputValueDefinition). reference_of d.ty) c.deref.ensures in
    entry_checked _ c.args.schema.now c.args.variables.now xs (c.args.name.now, c.args.field.now) x.1 _ _ _ _
    found ty_is refl c.check_value.ensures

pub check_entry-returns-in_default : goal.check_entry-returns-in_default
check_entry-returns-in_default t c =
    let missed : entry_named c.args.name.now c.args.entries.now ≡ None = search rules in
    holds _ _ _ (λ value found. absurd (none-some value (sym missed ∙ found)))

pub check_fields-loop-name-init : goal.check_fields-loop-name-init
check_fields-loop-name-init t c = record {
  can_next = tt;
  is_finite = tt;
  done = [];
  all = sym (c.into_iter-name-iterator.ensures.into_iter_gives.0 ∙ ap (λ d. d.fields.entries) c.deref.ensures);
  checked = λ ty is. holds _ _ _ (All-nil _);
}

pub check_fields-check_required_field-requires-clause-stands : goal.check_fields-check_required_field-requires-clause-stands
check_fields-check_required_field-requires-clause-stands t c =
    stands_next _ c.loop-name.invariant.done c.loop-name.name-iterator c.next.new.self _ c.loop-name.invariant.all c.in-Some.ensures.steps

pub check_fields-returns-in_err-check_required_field : goal.check_fields-returns-in_err-check_required_field
check_fields-returns-in_err-check_required_field t c = λ ty is.
    checks-err _ _ _ _ _ c.from_residual.ensures.0
    (kept_then (kept_by (c.loop-name.invariant.checked ty is))
    (c.in_err-check_required_field.ensures c.args.schema.now c.args.variables.now ty is))

pub check_fields-loop-name-preserved : goal.check_fields-loop-name-preserved
check_fields-loop-name-preserved t c =
    let x : NameText × Component InputValueDefinition = (c.in-Some.name.now, c.in-Some.field.now) in
    let next : c.loop-name.name-iterator ≡ x ∷ c.next.new.self = c.in-Some.ensures.steps in
    let among : Contains c.args.input_object.now.value.value.fields.entries x =
    stands_next _ c.loop-name.invariant.done c.loop-name.name-iterator c.next.new.self x c.loop-name.invariant.all next in
    record {
      can_next = tt;
      is_finite = tt;
      done = c.loop-name.invariant.done ++ x ∷ [];
      all = done_next _ c.loop-name.invariant.done c.loop-name.name-iterator c.next.new.self x c.loop-name.invariant.all next;
      checked = λ ty is.
          let Q = IsDiagnostic (ValueReport c.args.schema.now c.args.variables.now ty c.args.value.now) in
          let entry_holds : Reports (AcceptsEntry c.args.schema.now c.args.variables.now c.args.entries.now x) Q
          (entries c.check_required_field.new.diagnostics) (entries c.check_entry.new.diagnostics) =
          wider (names_entry c.args.schema.now c.args.variables.now ty c.args.input_object.now c.args.value.now c.args.entries.now is c.requires x among)
          c.in_ok-check_entry.ensures in
          done_more (AcceptsField c.args.schema.now c.args.variables.now c.args.entries.now) Q c.loop-name.invariant.done x _ _ _ (c.loop-name.invariant.checked ty is)
          (both (c.in_ok-check_required_field.ensures c.args.schema.now c.args.variables.now ty is) entry_holds);
    }

pub check_fields-returns-in_err-check_entry : goal.check_fields-returns-in_err-check_entry
check_fields-returns-in_err-check_entry t c = λ ty is.
    let x : NameText × Component InputValueDefinition = (c.in-Some.name.now, c.in-Some.field.now) in
    let next : c.loop-name.name-iterator ≡ x ∷ c.next.new.self = c.in-Some.ensures.steps in
    let among : Contains c.args.input_object.now.value.value.fields.entries x =
    stands_next _ c.loop-name.invariant.done c.loop-name.name-iterator c.next.new.self x c.loop-name.invariant.all next in
    checks-err _ _ _ _ _ c.from_residual-in_err-check_entry.ensures.0
    (kept_then (kept_by (both (c.loop-name.invariant.checked ty is)
    (c.in_ok-check_required_field.ensures c.args.schema.now c.args.variables.now ty is)))
    (kept_wider (names_entry c.args.schema.now c.args.variables.now ty c.args.input_object.now c.args.value.now c.args.entries.now is c.requires x among)
    c.in_err-check_entry.ensures))

pub check_fields-returns : goal.check_fields-returns
check_fields-returns t c = λ ty is.
    let done : c.args.input_object.now.value.value.fields.entries ≡ c.loop-name.invariant.done =
    c.loop-name.invariant.all ∙ ap (λ l. c.loop-name.invariant.done ++ l) c.in-None.ensures.steps.0 ∙ append-nil c.loop-name.invariant.done in
    subst (λ l. Reports (All (AcceptsField c.args.schema.now c.args.variables.now c.args.entries.now) l) (IsDiagnostic (ValueReport c.args.schema.now c.args.variables.now ty c.args.value.now))
    (entries c.args.diagnostics.now) (entries c.loop-name.diagnostics)) (sym done) (c.loop-name.invariant.checked ty is)
