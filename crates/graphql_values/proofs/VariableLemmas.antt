-- Definitions of variables, one by one, and what is reported of them.
use Rattle.std.proofs.Common.{◌≡◌, ◌↔◌, List, [], ◌∷◌, ◌++◌, Option, Some, None, IsFalse, IsTrue, refl, sym, ◌∙◌, subst, Contains}
use Rattle.std.proofs.lemmas.List.Elements.{All-append, All-cons, All-head, All-nil}
use Rattle.std.proofs.lemmas.Option.{same_Some, none-some}
use Rattle.graphql_diagnostics.specs.Diagnostics.{IsDiagnostic}
use Rattle.graphql_specification.specs.Directives.{DirectivesReport}
use Rattle.graphql_diagnostics.specs.Reports.{Reports}
use Rattle.graphql_documents.specs.Schemas.{is_input_type, type_definition}
use Rattle.graphql_documents.specs.TypeReferences.{inner_named_type, reference_of}
use Rattle.graphql_specification.specs.Values.{ValueReport}
use Rattle.graphql_specification.specs.Variables.{VariablesReport, of_default, of_variable, of_variable_directives, DefaultHolds, HasInputType, VariableDefinitionHolds, VariableDefinitionsHold}
use Rattle.graphql_diagnostics.proofs.DiagnosticLemmas.{diagnostic_wider}
use Rattle.graphql_diagnostics.proofs.ReportLemmas.{both, in_words}
use Rattle.graphql_documents.proofs.ListLemmas.{All-append_left, All-append_right}
use Rattle.graphql_diagnostics.specs.declared.lists.DiagnosticEntry.{DiagnosticEntry}
use Rattle.graphql_nodes.specs.declared.directive_locations.DirectiveLocation.TheVariants as allowed_at
use Rattle.graphql_documents.specs.declared.documents.definitions.VariableDefinition.{VariableDefinition}
use Rattle.graphql_nodes.specs.declared.nodes.Node.{Node}
use Rattle.graphql_documents.specs.declared.documents.schemas.ExtendedType.{ExtendedType}
use Rattle.graphql_documents.specs.declared.documents.schemas.Schema.{Schema}
use Rattle.graphql_documents.specs.declared.documents.values.Value.{Value}
use Rattle.graphql_values.specs.VariableSteps.{FollowsWell, TypeHolds, variable_name}
use Rattle.graphql_variables.proofs.FirstPlaceLemmas.{distinct_names_more}

-- the type and the default were checked against the schema
pub type_parts : (schema : Schema) (v : Node VariableDefinition) →
    (HasInputType schema v.value.value × DefaultHolds schema v.value.value) ↔ TypeHolds (Some schema) v.value.value
type_parts schema v = (
  λ p. record {
    type_holds = λ s is. subst (λ x. HasInputType x v.value.value) (same_Some schema s is) p.0;
    default_holds = λ s is. subst (λ x. DefaultHolds x v.value.value) (same_Some schema s is) p.1;
  },
  λ h. (h.type_holds schema refl, h.default_holds schema refl),
)

-- without a schema nothing is asked of them
pub type_without_schema : (schema : Option Schema) (v : Node VariableDefinition) → schema ≡ None → TypeHolds schema v.value.value
type_without_schema schema v none = record {
  type_holds = λ s is. absurd (none-some s (sym none ∙ is));
  default_holds = λ s is. absurd (none-some s (sym none ∙ is));
}

-- a type that is no input type, or not defined
pub no_input_type : (schema : Schema) (v : Node VariableDefinition) (d : ExtendedType) →
    type_definition schema (inner_named_type v.value.value.ty.value.value) ≡ Some d → IsFalse (is_input_type d) → HasInputType schema v.value.value → ⊥
no_input_type schema v d defined no_input h =
    let input : IsTrue (is_input_type d) = subst (λ x. IsTrue (is_input_type x)) (same_Some h.0 d (sym h.1 ∙ defined)) h.2 in
    let clash : ⊥ = cc in clash

pub no_type : (schema : Schema) (v : Node VariableDefinition) →
    type_definition schema (inner_named_type v.value.value.ty.value.value) ≡ None → HasInputType schema v.value.value → ⊥
no_type schema v undefined h = none-some h.0 (sym undefined ∙ h.1)

module _ (schema : Option Schema) where
  -- variables hold exactly where those before the last hold, and it may follow them
  variables_more : (xs : List (Node VariableDefinition)) (x : Node VariableDefinition) →
      (VariableDefinitionsHold schema xs × FollowsWell schema xs x) ↔ VariableDefinitionsHold schema (xs ++ x ∷ [])
  variables_more xs x =
      let P = λ (v : Node VariableDefinition). VariableDefinitionHolds schema v.value.value in
      let names = distinct_names_more variable_name xs x in (
        λ p. record {
          each = All-append P xs (x ∷ []) p.0.each (All-cons P x []
              (record { directives = p.1.0; type_holds = p.1.1.0.type_holds; default_holds = p.1.1.0.default_holds }) (All-nil P));
          distinct = names.0 (p.0.distinct, p.1.1.1);
        },
        λ h.
            let last = All-head P x [] (All-append_right P xs (x ∷ []) h.each) in
            let distinct = names.1 h.distinct in (
              record { each = All-append_left P xs (x ∷ []) h.each; distinct = distinct.0 },
              (last.directives, (record { type_holds = last.type_holds; default_holds = last.default_holds }, distinct.1)),
            ),
      )

  -- one variable more was checked
  pub variable_checked : (variables before : List (Node VariableDefinition)) (x : Node VariableDefinition) (old mid new : List DiagnosticEntry) →
      Reports (VariableDefinitionsHold schema before) (IsDiagnostic (VariablesReport schema variables)) old mid →
      Reports (FollowsWell schema before x) (IsDiagnostic (VariablesReport schema variables)) mid new →
      Reports (VariableDefinitionsHold schema (before ++ x ∷ [])) (IsDiagnostic (VariablesReport schema variables)) old new
  variable_checked variables before x old mid new done follows =
      let Q = IsDiagnostic (VariablesReport schema variables) in
      let H = VariableDefinitionsHold schema before in
      let F = FollowsWell schema before x in
      in_words (variables_more before x) (both done follows)

  module _ (variables : List (Node VariableDefinition)) (v : Node VariableDefinition) (among : Contains variables v) where
    -- a diagnostic on the directives of a variable is one on the variables
    pub names_directives : (e : DiagnosticEntry) →
        IsDiagnostic (DirectivesReport schema [] allowed_at.VariableDefinition v.value.value.directives.items) e → IsDiagnostic (VariablesReport schema variables) e
    names_directives = diagnostic_wider (DirectivesReport schema [] allowed_at.VariableDefinition v.value.value.directives.items) (VariablesReport schema variables)
        (λ r at said. of_variable_directives among said)

    -- a diagnostic on the default of a variable is one on the variables
    pub names_default : (against : Schema) (value : Node Value) → schema ≡ Some against → v.value.value.default_value ≡ Some value → (e : DiagnosticEntry) →
        IsDiagnostic (ValueReport against [] (reference_of v.value.value.ty) value) e → IsDiagnostic (VariablesReport schema variables) e
    names_default against value has_schema is_default =
        diagnostic_wider (ValueReport against [] (reference_of v.value.value.ty) value) (VariablesReport schema variables)
        (λ r at said. of_variable among (of_default (record { against = against; value = value; has_schema = has_schema; is_default = is_default; broken = said })))
