-- A field where it is: its arguments and its selections, in the words of its definition.
use Rattle.std.proofs.Common.{◌≡◌, ◌↔◌, ◌⊎◌, inl, inr, List, Option, None, Some, Result, IfOk, refl, sym, ap, ◌∙◌, subst, All, Contains}
use Rattle.std.specs.Borrow.{Bor}
use Rattle.std.specs.Result.{result_ok}
use Rattle.std.proofs.lemmas.List.Elements.{All-weaker, All-contains, All-contains_itself}
use Rattle.std.proofs.lemmas.Option.{none-some, same_Some}
use Rattle.graphql_specification.specs.Arguments.{RepeatsArgument, RepetitionReport, ArgumentNamesHold, ArgumentValuesHold, HasDistinctNames, IsDefined, RequiredArgumentIsProvided, ValueHoldsBy}
use Rattle.graphql_diagnostics.specs.Diagnostics.{IsDiagnostic}
use Rattle.graphql_specification.specs.Directives.{ApplicationsHold}
use Rattle.graphql_specification.specs.Fields.{FieldFormReport, MissingSelectionReport, is_missing, AgreesWithDefinition, FieldHolds, HasNeededSelection, FieldValuesReport, FieldReport, by_form, by_values}
use Rattle.graphql_nodes.specs.Names.{NameText}
use Rattle.graphql_diagnostics.specs.Reports.{Reports}
use Rattle.graphql_documents.specs.Schemas.{type_field}
use Rattle.graphql_documents.specs.Selections.{IsSubselectionParent, parent_known, parent_unknown, definition_at}
use Rattle.graphql_documents.specs.TypeReferences.{inner_named_type}
use Rattle.graphql_diagnostics.proofs.DiagnosticLemmas.{diagnostic_wider}
use Rattle.graphql_diagnostics.proofs.ReportLemmas.{ChecksList, both, checks_after, checks_words, in_words, wider}
use Rattle.graphql_diagnostics.specs.declared.data.DiagnosticData.TheVariants as report
use Rattle.graphql_diagnostics.specs.declared.data.DiagnosticData.{DiagnosticData}
use Rattle.graphql_diagnostics.specs.declared.lists.DiagnosticEntry.{DiagnosticEntry}
use Rattle.graphql_documents.specs.declared.documents.components.Component.{Component}
use Rattle.graphql_nodes.specs.declared.directive_locations.DirectiveLocation.TheVariants as at
use Rattle.graphql_documents.specs.declared.documents.definitions.FieldDefinition.{FieldDefinition}
use Rattle.graphql_documents.specs.declared.documents.definitions.VariableDefinition.{VariableDefinition}
use Rattle.graphql_documents.specs.declared.documents.directives.Argument.{Argument}
use Rattle.graphql_documents.specs.declared.documents.executables.Field.{Field}
use Rattle.graphql_nodes.specs.declared.nodes.Node.{Node}
use Rattle.graphql_documents.specs.declared.documents.schemas.Schema.{Schema}
use Rattle.graphql_nodes.specs.declared.spans.SourceSpan.{SourceSpan}
use Rattle.graphql_values.specs.GivenArguments.{AreOfField, GivenArgumentHolds, GivenArgumentReport, MissingArgumentReport, of_argument_values, of_missing_argument, of_unknown_argument}
use Rattle.graphql_values.specs.declared.argument.owners.GivenArguments.{GivenArguments}
use Rattle.graphql_operations.specs.Contexts.{IsAgainst, parent_of}
use Rattle.graphql_rules.specs.SelectionSteps.{DefinedFieldHolds, FieldArgumentsHold, IsParentOfSubselections}
use Rattle.graphql_rules.specs.declared.operations.fields.SubselectionParent.{SubselectionParent}

-- where the type is not known no field has a definition
nothing_at : (schema : Option Schema) (field : NameText) → definition_at schema None field ≡ None
nothing_at None field = refl
nothing_at (Some s) field = refl

pub undefined_at : (schema : Option Schema) (parent : Option NameText) (field : NameText) → parent ≡ None → definition_at schema parent field ≡ None
undefined_at schema parent field none = ap (λ p. definition_at schema p field) none ∙ nothing_at schema field

-- the type against which a field is checked is that of the schema
module _ (schema : Option Schema) (against : Option (Bor Schema × Bor NameText)) (s : Bor Schema) (parent : Bor NameText)
    (stands : IsAgainst schema against) (is : against ≡ Some (s, parent)) where
  pub schema_against : schema ≡ Some s.now
  schema_against = subst (IsAgainst schema) is stands

  pub parent_against : parent_of against ≡ Some parent.now
  parent_against = ap parent_of is

  pub definition_against : (field : NameText) → definition_at schema (parent_of against) field ≡ result_ok (type_field s.now parent.now field)
  definition_against field =
      ap (λ o. definition_at o (parent_of against) field) schema_against ∙ ap (λ p. definition_at (Some s.now) p field) parent_against

-- where the selections of a field's set are
below_is : {schema : Option Schema} {parent below : Option NameText} {field : NameText} (d : Component FieldDefinition) →
    IsSubselectionParent schema parent field below → definition_at schema parent field ≡ Some d → Some (inner_named_type d.node.value.value.ty) ≡ below
below_is {schema = schema} {field = field} d parent_unknown is = absurd (none-some d (sym (nothing_at schema field) ∙ is))
below_is d (parent_known {d = other} found) is =
    ap (λ (x : Component FieldDefinition). Some (inner_named_type x.node.value.value.ty)) (same_Some d other (sym is ∙ found))

pub stands_below : (schema : Option Schema) (parent : Option NameText) (field : NameText) (d : Component FieldDefinition) →
    definition_at schema parent field ≡ Some d → (below : Option NameText) →
    IsSubselectionParent schema parent field below ↔ (Some (inner_named_type d.node.value.value.ty) ≡ below)
stands_below schema parent field d is below =
    (λ h. below_is d h is, λ e. subst (IsSubselectionParent schema parent field) e (parent_known is))

nowhere_below : {schema : Option Schema} {parent below : Option NameText} {field : NameText} →
    IsSubselectionParent schema parent field below → parent ≡ None → None ≡ below
nowhere_below parent_unknown none = refl
nowhere_below {schema = schema} {parent = parent} {field = field} (parent_known {d = d} found) none =
    absurd (none-some d (sym (undefined_at schema parent field none) ∙ found))

pub unknown_below : (schema : Option Schema) (parent : Option NameText) (field : NameText) → parent ≡ None → (below : Option NameText) →
    IsSubselectionParent schema parent field below ↔ (None ≡ below)
unknown_below schema parent field none below = (
  λ h. nowhere_below h none,
  λ e. subst (IsSubselectionParent schema parent field) e (subst (λ p. IsSubselectionParent schema p field None) (sym none) parent_unknown),
)

-- below a field that its type lacks nothing has a place
lacks_below : {schema : Option Schema} {parent below : Option NameText} {field known : NameText} →
    IsSubselectionParent schema parent field below → parent ≡ Some known → definition_at schema parent field ≡ None → ⊥
lacks_below {known = known} parent_unknown is none = none-some known is
lacks_below (parent_known {d = d} found) is none = none-some d (sym none ∙ found)

pub lacks_place : (schema : Option Schema) (parent below : Option NameText) (field known : NameText) →
    parent ≡ Some known → definition_at schema parent field ≡ None → IsSubselectionParent schema parent field below → ⊥
lacks_place schema parent below field known is none h = lacks_below h is none

-- the same of the type against which the field is checked
pub below_against : {E : Type 0} (result : Result SubselectionParent E) (schema : Option Schema) (parent : Option NameText) (s : Schema) (p : NameText) (f : Field) →
    schema ≡ Some s → parent ≡ Some p → IfOk result (IsParentOfSubselections (Some s) (Some p) f) → IfOk result (IsParentOfSubselections schema parent f)
below_against result schema parent s p f has is h =
    subst (λ o. IfOk result (IsParentOfSubselections o parent f)) (sym has) (subst (λ q. IfOk result (IsParentOfSubselections (Some s) q f)) (sym is) h)

-- the arguments hold exactly where they agree with the definitions by name and by value
module _ (schema : Schema) (variables : List (Node VariableDefinition)) (f : Field) (d : FieldDefinition) where
  names_hold : FieldArgumentsHold schema variables f d → ArgumentNamesHold d.arguments.items f.arguments.items
  names_hold h = record {
    defined = All-weaker (GivenArgumentHolds schema variables d.arguments.items) (IsDefined d.arguments.items) (λ a h. h.defined) f.arguments.items h.given;
    required = h.required;
  }

  values_hold : FieldArgumentsHold schema variables f d → ArgumentValuesHold schema variables d.arguments.items f.arguments.items
  values_hold h =
      All-weaker (GivenArgumentHolds schema variables d.arguments.items) (ValueHoldsBy schema variables d.arguments.items)
      (λ a h. h.value_holds) f.arguments.items h.given

  arguments_hold : ArgumentNamesHold d.arguments.items f.arguments.items → ArgumentValuesHold schema variables d.arguments.items f.arguments.items →
      FieldArgumentsHold schema variables f d
  arguments_hold names values = record {
    given =
        All-weaker (Contains f.arguments.items) (GivenArgumentHolds schema variables d.arguments.items)
        (λ a in'. record {
          defined = All-contains (IsDefined d.arguments.items) f.arguments.items a names.defined in';
          value_holds = All-contains (ValueHoldsBy schema variables d.arguments.items) f.arguments.items a values in';
        }) f.arguments.items (All-contains_itself f.arguments.items);
    required = names.required;
  }

-- what is asked of a field where it has no definition, and where it has one
module _ (schema : Option Schema) (variables : List (Node VariableDefinition)) (parent : Option NameText) (f : Field) where
  pub holds_undefined : definition_at schema parent f.name ≡ None →
      (ApplicationsHold schema variables at.Field f.directives.items × HasDistinctNames f.arguments.items) ↔ FieldHolds schema variables parent f
  holds_undefined none = (
    λ p. record {
      directives = p.0;
      form = record { distinct = p.1; agrees = λ d found. absurd (none-some d (sym none ∙ found)) };
      values = λ s d has found. absurd (none-some d (sym none ∙ found));
    },
    λ h. (h.directives, h.form.distinct),
  )

  pub holds_defined : (s : Schema) (d : Component FieldDefinition) → schema ≡ Some s → definition_at schema parent f.name ≡ Some d →
      ((ApplicationsHold schema variables at.Field f.directives.items × HasDistinctNames f.arguments.items) ×
      DefinedFieldHolds s variables f d.node.value.value) ↔ FieldHolds schema variables parent f
  holds_defined s d has is = (there, back) where
    there : (ApplicationsHold schema variables at.Field f.directives.items × HasDistinctNames f.arguments.items) × DefinedFieldHolds s variables f d.node.value.value →
        FieldHolds schema variables parent f
    there p = record {
      directives = p.0.0;
      form = record {
        distinct = p.0.1;
        agrees = λ other found.
            subst (λ (x : Component FieldDefinition). AgreesWithDefinition schema f x.node.value.value) (same_Some d other (sym is ∙ found))
            (record {
              arguments = names_hold s variables f d.node.value.value p.1.arguments;
              selection = subst (λ o. HasNeededSelection o f d.node.value.value.ty) (sym has) p.1.selection;
            });
      };
      values = λ t other has' found.
          subst (λ x. ArgumentValuesHold x variables other.node.value.value.arguments.items f.arguments.items) (same_Some s t (sym has ∙ has'))
          (subst (λ (x : Component FieldDefinition). ArgumentValuesHold s variables x.node.value.value.arguments.items f.arguments.items) (same_Some d other (sym is ∙ found))
          (values_hold s variables f d.node.value.value p.1.arguments));
    }

    back : FieldHolds schema variables parent f →
        (ApplicationsHold schema variables at.Field f.directives.items × HasDistinctNames f.arguments.items) × DefinedFieldHolds s variables f d.node.value.value
    back h =
        let agrees = h.form.agrees d is in (
          (h.directives, h.form.distinct),
          record {
            arguments = arguments_hold s variables f d.node.value.value agrees.arguments (h.values s d has is);
            selection = subst (λ o. HasNeededSelection o f d.node.value.value.ty) has agrees.selection;
          },
        )

-- a diagnostic on a repeated argument of the field
module _ (schema : Option Schema) (variables : List (Node VariableDefinition)) (parent : Option NameText) (f : Node Field) (given : List (Node Argument))
    (same : given ≡ f.value.value.arguments.items) where
  of_repetition : (r : DiagnosticData) (at : Option SourceSpan) → RepetitionReport given r at → FieldFormReport schema parent f r at
  of_repetition (report.UniqueArgument name original redefined) at repeats = subst (λ l. RepeatsArgument l name original redefined at) same repeats
  of_repetition r at repeats = absurd repeats

  pub names_repetition : (e : DiagnosticEntry) → IsDiagnostic (RepetitionReport given) e → IsDiagnostic (FieldReport schema variables parent f) e
  names_repetition = diagnostic_wider (RepetitionReport given) (FieldReport schema variables parent f) (λ r at repeats. by_form (of_repetition r at repeats))

  pub distinct_reported : {old new : List DiagnosticEntry} → Reports (HasDistinctNames given) (IsDiagnostic (RepetitionReport given)) old new →
      Reports (HasDistinctNames f.value.value.arguments.items) (IsDiagnostic (FieldReport schema variables parent f)) old new
  distinct_reported {old} {new} r =
      subst (λ l. Reports (HasDistinctNames l) (IsDiagnostic (FieldReport schema variables parent f)) old new) same (wider names_repetition r)

-- a diagnostic on a field that is checked against the type
pub names_against : (schema : Option Schema) (variables : List (Node VariableDefinition)) (parent : Option NameText) (s : Schema) (p : NameText) (f : Node Field) →
    schema ≡ Some s → parent ≡ Some p →
    (e : DiagnosticEntry) → IsDiagnostic (FieldReport (Some s) variables (Some p) f) e → IsDiagnostic (FieldReport schema variables parent f) e
names_against schema variables parent s p f has is e said =
    subst (λ o. IsDiagnostic (FieldReport o variables parent f) e) (sym has) (subst (λ q. IsDiagnostic (FieldReport (Some s) variables q f) e) (sym is) said)

module _ (schema : Schema) (variables : List (Node VariableDefinition)) (parent : NameText) (f : Node Field) (d : Component FieldDefinition)
    (is : definition_at (Some schema) (Some parent) f.value.value.name ≡ Some d) where
  module _ (arguments : GivenArguments) (are : AreOfField parent f d arguments) where
    of_given : (r : DiagnosticData) (at : Option SourceSpan) → GivenArgumentReport schema variables arguments r at →
        FieldFormReport (Some schema) (Some parent) f r at ⊎ FieldValuesReport (Some schema) variables (Some parent) f r at
    of_given r at (of_unknown_argument lacks) =
        inl (parent, d, record { parent_is = refl; definition_is = is }, rw (are.definitions_are, are.given_is, are.coordinate_is, are.definition_location_is) at lacks)
    of_given r at (of_argument_values breaks) =
        inr (record {
          against = schema;
          definition = d;
          has_schema = refl;
          defined = is;
          broken = rw (are.definitions_are, are.given_is) at breaks;
        })

    of_missing : (r : DiagnosticData) (at : Option SourceSpan) → MissingArgumentReport arguments r at → FieldFormReport (Some schema) (Some parent) f r at
    of_missing r at (of_missing_argument misses) =
        (parent, d, record { parent_is = refl; definition_is = is }, rw (are.definitions_are, are.given_is, are.argument_coordinate_is, are.location_is) at misses)

    by_part : (r : DiagnosticData) (at : Option SourceSpan) →
        FieldFormReport (Some schema) (Some parent) f r at ⊎ FieldValuesReport (Some schema) variables (Some parent) f r at →
        FieldReport (Some schema) variables (Some parent) f r at
    by_part r at (inl broken) = by_form broken
    by_part r at (inr broken) = by_values broken

    -- a diagnostic on a given argument, or on one that is missing
    pub names_given : (e : DiagnosticEntry) → IsDiagnostic (GivenArgumentReport schema variables arguments) e →
        IsDiagnostic (FieldReport (Some schema) variables (Some parent) f) e
    names_given =
        diagnostic_wider (GivenArgumentReport schema variables arguments) (FieldReport (Some schema) variables (Some parent) f)
        (λ r at said. by_part r at (of_given r at said))

    pub names_missing : (e : DiagnosticEntry) → IsDiagnostic (MissingArgumentReport arguments) e →
        IsDiagnostic (FieldReport (Some schema) variables (Some parent) f) e
    names_missing =
        diagnostic_wider (MissingArgumentReport arguments) (FieldReport (Some schema) variables (Some parent) f)
        (λ r at said. by_form (of_missing r at said))

    -- the two checks are one of the arguments of the field
    arguments_decide : (All (GivenArgumentHolds schema variables arguments.definitions.now) arguments.given.now ×
        All (RequiredArgumentIsProvided arguments.given.now) arguments.definitions.now) ↔ FieldArgumentsHold schema variables f.value.value d.node.value.value
    arguments_decide = rw (are.definitions_are, are.given_is) (λ p. record { given = p.0; required = p.1 }, λ h. (h.given, h.required))

    pub arguments_checked : {T E : Type 0} (r : Result T E) (old mid new : List DiagnosticEntry) →
        Reports (All (GivenArgumentHolds schema variables arguments.definitions.now) arguments.given.now) (IsDiagnostic (GivenArgumentReport schema variables arguments)) old mid →
        ChecksList r (All (RequiredArgumentIsProvided arguments.given.now) arguments.definitions.now) (IsDiagnostic (MissingArgumentReport arguments)) mid new →
        ChecksList r (FieldArgumentsHold schema variables f.value.value d.node.value.value) (IsDiagnostic (FieldReport (Some schema) variables (Some parent) f)) old new
    arguments_checked r old mid new given missing =
        let Q = IsDiagnostic (FieldReport (Some schema) variables (Some parent) f) in
        let Given = All (GivenArgumentHolds schema variables arguments.definitions.now) arguments.given.now in
        let Required = All (RequiredArgumentIsProvided arguments.given.now) arguments.definitions.now in
        checks_words r (Given × Required) (FieldArgumentsHold schema variables f.value.value d.node.value.value) Q Q old new arguments_decide (λ e q. q)
        (checks_after r Given Required Q old mid new (wider names_given given)
        (checks_words r Required Required (IsDiagnostic (MissingArgumentReport arguments)) Q mid new (λ x. x, λ x. x) names_missing missing))

  -- a diagnostic that it selects nothing
  of_selection : (r : DiagnosticData) (at : Option SourceSpan) → MissingSelectionReport (Some schema) parent f d.node.value.value.ty r at →
      FieldFormReport (Some schema) (Some parent) f r at
  of_selection r at (is_missing misses) = (parent, d, record { parent_is = refl; definition_is = is }, misses)

  pub names_selection : (e : DiagnosticEntry) → IsDiagnostic (MissingSelectionReport (Some schema) parent f d.node.value.value.ty) e →
      IsDiagnostic (FieldReport (Some schema) variables (Some parent) f) e
  names_selection =
      diagnostic_wider (MissingSelectionReport (Some schema) parent f d.node.value.value.ty) (FieldReport (Some schema) variables (Some parent) f)
      (λ r at said. by_form (of_selection r at said))

  -- its arguments, and then what it selects
  pub defined_reported : {old mid new : List DiagnosticEntry} →
      Reports (FieldArgumentsHold schema variables f.value.value d.node.value.value) (IsDiagnostic (FieldReport (Some schema) variables (Some parent) f)) old mid →
      Reports (HasNeededSelection (Some schema) f.value.value d.node.value.value.ty)
      (IsDiagnostic (MissingSelectionReport (Some schema) parent f d.node.value.value.ty)) mid new →
      Reports (DefinedFieldHolds schema variables f.value.value d.node.value.value) (IsDiagnostic (FieldReport (Some schema) variables (Some parent) f)) old new
  defined_reported a b =
      in_words (λ p. record { arguments = p.0; selection = p.1 }, λ h. (h.arguments, h.selection)) (both a (wider names_selection b))
