-- Applications of directives, one by one, and what is reported of them.
use Rattle.std.proofs.Common.{◌≡◌, ◌↔◌, ℕ, ◌<◌, List, [], ◌∷◌, ◌++◌, length, get_or, Option, Some, None, Result, refl, sym, ◌∙◌, subst, find, All, Contains}
use Rattle.std.proofs.lemmas.List.Elements.{All-append, All-cons, All-contains, All-head, All-nil, All-weaker}
use Rattle.std.proofs.lemmas.Option.{same_Some, none-some}
use Rattle.graphql_specification.specs.Arguments.{RepetitionReport, ArgumentNamesHold, ArgumentValuesHold, HasDistinctNames, IsDefined, RequiredArgumentIsProvided, ValueHoldsBy}
use Rattle.graphql_diagnostics.specs.Diagnostics.{IsDiagnostic}
use Rattle.graphql_specification.specs.Directives.{DirectivesReport, IsApplied, of_application, of_argument_values, of_missing_argument, of_repeated_argument, of_unknown_argument, ApplicationHolds, ApplicationsHold, IsRepeatable, RepetitionsHold}
use Rattle.graphql_documents.specs.Directives.{directive_definition, directive_in}
use Rattle.graphql_nodes.specs.Names.{SameName, same_name}
use Rattle.graphql_diagnostics.specs.Reports.{Reports}
use Rattle.graphql_diagnostics.proofs.DiagnosticLemmas.{diagnostic_wider}
use Rattle.graphql_documents.proofs.ListLemmas.{All-append_left, All-append_right, each_standing}
use Rattle.graphql_diagnostics.proofs.ReportLemmas.{both, checks_after, checks_words, ChecksList, in_words, wider}
use Rattle.graphql_diagnostics.specs.declared.data.DiagnosticData.TheVariants as report
use Rattle.graphql_diagnostics.specs.declared.data.DiagnosticData.{DiagnosticData}
use Rattle.graphql_diagnostics.specs.declared.lists.DiagnosticEntry.{DiagnosticEntry}
use Rattle.graphql_documents.specs.declared.documents.definitions.DirectiveDefinition.{DirectiveDefinition}
use Rattle.graphql_nodes.specs.declared.directive_locations.DirectiveLocation.{DirectiveLocation}
use Rattle.graphql_documents.specs.declared.documents.definitions.VariableDefinition.{VariableDefinition}
use Rattle.graphql_documents.specs.declared.documents.directives.Directive.{Directive}
use Rattle.graphql_nodes.specs.declared.nodes.Node.{Node}
use Rattle.graphql_documents.specs.declared.documents.schemas.Schema.{Schema}
use Rattle.graphql_nodes.specs.declared.spans.SourceSpan.{SourceSpan}
use Rattle.graphql_values.specs.DirectiveSteps.{FollowsWell, IsAppliedWell, RepetitionHolds}
use Rattle.graphql_values.specs.GivenArguments.{AreOfDirective, GivenArgumentHolds, GivenArgumentReport, MissingArgumentReport}
use Rattle.graphql_values.specs.GivenArguments as given
use Rattle.graphql_values.specs.declared.argument.owners.GivenArguments.{GivenArguments}
use Rattle.graphql_variables.proofs.FirstPlaceLemmas.{find_none, found_at, pairs_more}

module _ (schema : Option Schema) where
  -- repetitions hold exactly where they held before the last directive, and it may be behind the first of its name
  repetitions_more : (xs : List (Node Directive)) (x : Node Directive) →
      (RepetitionsHold schema xs × RepetitionHolds schema xs x) ↔ RepetitionsHold schema (xs ++ x ∷ [])
  repetitions_more xs x =
      let p = λ (d : Node Directive). same_name d.value.value.name x.value.value.name in
      let pairs = pairs_more (λ (earlier later : Node Directive). SameName earlier.value.value.name later.value.value.name → IsRepeatable schema later.value.value.name) xs x in (
        λ both. pairs.0 (both.0, λ k d h same. repeatable (find p xs) refl k d h same both.1),
        λ all. (
          (pairs.1 all).0,
          λ first found.
              let at = found_at p xs first found in
              (pairs.1 all).1 at.0 first at.1 (subst (λ y. SameName y.value.value.name x.value.value.name) (sym (at.2 first)) at.3),
        ),
      ) where
        repeatable : (o : Option (Node Directive)) → find (λ d. same_name d.value.value.name x.value.value.name) xs ≡ o →
            (k : ℕ) (d : Node Directive) → k < length xs → SameName (get_or xs k d).value.value.name x.value.value.name →
            RepetitionHolds schema xs x → IsRepeatable schema x.value.value.name
        repeatable None e k d h same holds =
            let other = find_none (λ d. same_name d.value.value.name x.value.value.name) xs k d e h in
            absurd (let clash : ⊥ = cc in clash)
        repeatable (Some first) e k d h same holds = holds first e

  module _ (variables : List (Node VariableDefinition)) (location : DirectiveLocation) where
    application_parts : (d : Node Directive) →
        (HasDistinctNames d.value.value.arguments.items × IsAppliedWell schema variables location d.value.value) ↔
        ApplicationHolds schema variables location d.value.value
    application_parts d = (
      λ p. record {
        against = p.1.against;
        definition = p.1.definition;
        has_schema = p.1.has_schema;
        defined = p.1.defined;
        allowed = p.1.allowed;
        arguments = record { distinct = p.0; names = p.1.names; values = p.1.values };
      },
      λ h. (
        h.arguments.distinct,
        record {
          against = h.against;
          definition = h.definition;
          has_schema = h.has_schema;
          defined = h.defined;
          allowed = h.allowed;
          names = h.arguments.names;
          values = h.arguments.values;
        },
      ),
    )

    -- a directive that is not defined is not applied as its definition asks
    pub not_applied_well : (d : Node Directive) → directive_in schema d.value.value.name ≡ None → IsAppliedWell schema variables location d.value.value → ⊥
    not_applied_well d undefined h =
        let found : directive_in schema d.value.value.name ≡ Some h.definition = rw h.has_schema h.defined in
        none-some h.definition (sym undefined ∙ found)

    -- applications hold exactly where those before the last hold, and it may follow them
    applications_more : (xs : List (Node Directive)) (x : Node Directive) →
        (ApplicationsHold schema variables location xs × FollowsWell schema variables location xs x) ↔ ApplicationsHold schema variables location (xs ++ x ∷ [])
    applications_more xs x =
        let P = λ (d : Node Directive). ApplicationHolds schema variables location d.value.value in (
          λ p. record {
            each = All-append P xs (x ∷ []) p.0.each (All-cons P x [] ((application_parts x).0 (p.1.0, p.1.1.1)) (All-nil P));
            repetitions = (repetitions_more xs x).0 (p.0.repetitions, p.1.1.0);
          },
          λ h.
              let last = (application_parts x).1 (All-head P x [] (All-append_right P xs (x ∷ []) h.each)) in
              let repetitions = (repetitions_more xs x).1 h.repetitions in
              (record { each = All-append_left P xs (x ∷ []) h.each; repetitions = repetitions.0 }, (last.0, (repetitions.1, last.1))),
        )

    module _ (directives : List (Node Directive)) where
      -- a diagnostic on the arguments of one of the directives is one on the directives
      pub names_repetition : (d : Node Directive) → Contains directives d → (e : DiagnosticEntry) →
          IsDiagnostic (RepetitionReport d.value.value.arguments.items) e → IsDiagnostic (DirectivesReport schema variables location directives) e
      names_repetition d among =
          diagnostic_wider (RepetitionReport d.value.value.arguments.items) (DirectivesReport schema variables location directives) wide where
            wide : (r : DiagnosticData) (at : Option SourceSpan) → RepetitionReport d.value.value.arguments.items r at → DirectivesReport schema variables location directives r at
            wide (report.UniqueArgument name original redefined) at said = of_repeated_argument d among said
            wide r at said = absurd said

      -- one directive more was checked
      pub application_checked : (before : List (Node Directive)) (x : Node Directive) (old mid new : List DiagnosticEntry) →
          Reports (ApplicationsHold schema variables location before) (IsDiagnostic (DirectivesReport schema variables location directives)) old mid →
          Reports (FollowsWell schema variables location before x) (IsDiagnostic (DirectivesReport schema variables location directives)) mid new →
          Reports (ApplicationsHold schema variables location (before ++ x ∷ [])) (IsDiagnostic (DirectivesReport schema variables location directives)) old new
      application_checked before x old mid new done follows =
          let Q = IsDiagnostic (DirectivesReport schema variables location directives) in
          let H = ApplicationsHold schema variables location before in
          let F = FollowsWell schema variables location before x in
          in_words (applications_more before x)
          (both done follows)

-- the place of an application and its arguments were checked against the definition
module _ (schema : Schema) (variables : List (Node VariableDefinition)) (location : DirectiveLocation) (d : Node Directive)
    (definition : Node DirectiveDefinition) (defined : directive_definition schema d.value.value.name ≡ Some definition) where
  given_each : (other : Node DirectiveDefinition) → other ≡ definition →
      ArgumentNamesHold other.value.value.arguments.items d.value.value.arguments.items →
      ArgumentValuesHold schema variables other.value.value.arguments.items d.value.value.arguments.items →
      All (GivenArgumentHolds schema variables definition.value.value.arguments.items) d.value.value.arguments.items
  given_each other same names values =
      let given = d.value.value.arguments.items in
      subst (λ (x : Node DirectiveDefinition). All (GivenArgumentHolds schema variables x.value.value.arguments.items) given) same
      (each_standing (GivenArgumentHolds schema variables other.value.value.arguments.items) given (λ a among. record {
        defined = All-contains (IsDefined other.value.value.arguments.items) given a names.defined among;
        value_holds = All-contains (ValueHoldsBy schema variables other.value.value.arguments.items) given a values among;
      }))

  pub applied_well :
      (Contains definition.value.value.locations.items location ×
      All (GivenArgumentHolds schema variables definition.value.value.arguments.items) d.value.value.arguments.items ×
      All (RequiredArgumentIsProvided d.value.value.arguments.items) definition.value.value.arguments.items) ↔
      IsAppliedWell (Some schema) variables location d.value.value
  applied_well =
      let given = d.value.value.arguments.items in
      let definitions = definition.value.value.arguments.items in (
        λ p. record {
          against = schema;
          definition = definition;
          has_schema = refl;
          defined = defined;
          allowed = p.0;
          names = record {
            defined = All-weaker (GivenArgumentHolds schema variables definitions) (IsDefined definitions) (λ a h. h.defined) given p.1;
            required = p.2;
          };
          values = All-weaker (GivenArgumentHolds schema variables definitions) (ValueHoldsBy schema variables definitions) (λ a h. h.value_holds) given p.1;
        },
        λ h.
            let same_schema : h.against ≡ schema = sym (same_Some schema h.against h.has_schema) in
            let found : directive_definition schema d.value.value.name ≡ Some h.definition =
            subst (λ s. directive_definition s d.value.value.name ≡ Some h.definition) same_schema h.defined in
            let same : h.definition ≡ definition = same_Some h.definition definition (sym found ∙ defined) in (
              subst (λ (x : Node DirectiveDefinition). Contains x.value.value.locations.items location) same h.allowed,
              given_each h.definition same h.names
                  (subst (λ s. ArgumentValuesHold s variables h.definition.value.value.arguments.items given) same_schema h.values),
              subst (λ (x : Node DirectiveDefinition). All (RequiredArgumentIsProvided given) x.value.value.arguments.items) same h.names.required,
            ),
      )

  module _ (directives : List (Node Directive)) (among : Contains directives d) (arguments : GivenArguments) (are : AreOfDirective d definition arguments) where
    is_applied : IsApplied (Some schema) directives schema d definition
    is_applied = record { applied = among; has_schema = refl; defined = defined }

    of_given : (r : DiagnosticData) (at : Option SourceSpan) → GivenArgumentReport schema variables arguments r at →
        DirectivesReport (Some schema) variables location directives r at
    of_given r at (given.of_unknown_argument lacks) =
        of_application is_applied (of_unknown_argument (rw (are.given_is, are.definitions_are, are.coordinate_is, are.definition_location_is) at lacks))
    of_given r at (given.of_argument_values break) = of_application is_applied (of_argument_values (rw (are.given_is, are.definitions_are) at break))

    of_missing : (r : DiagnosticData) (at : Option SourceSpan) → MissingArgumentReport arguments r at →
        DirectivesReport (Some schema) variables location directives r at
    of_missing r at (given.of_missing_argument misses) =
        of_application is_applied (of_missing_argument (rw (are.given_is, are.definitions_are, are.argument_coordinate_is, are.location_is) at misses))

    -- a diagnostic on the given arguments, or on one that is not given, is one on the directives
    pub names_given : (e : DiagnosticEntry) → IsDiagnostic (GivenArgumentReport schema variables arguments) e →
        IsDiagnostic (DirectivesReport (Some schema) variables location directives) e
    names_given = diagnostic_wider (GivenArgumentReport schema variables arguments) (DirectivesReport (Some schema) variables location directives) of_given

    pub names_missing : (e : DiagnosticEntry) → IsDiagnostic (MissingArgumentReport arguments) e →
        IsDiagnostic (DirectivesReport (Some schema) variables location directives) e
    names_missing = diagnostic_wider (MissingArgumentReport arguments) (DirectivesReport (Some schema) variables location directives) of_missing

    -- the arguments were checked against the definition
    pub arguments_checked : {T E : Type 0} (r : Result T E) (old mid new : List DiagnosticEntry) →
        Reports (All (GivenArgumentHolds schema variables arguments.definitions.now) arguments.given.now)
        (IsDiagnostic (GivenArgumentReport schema variables arguments)) old mid →
        ChecksList r (All (RequiredArgumentIsProvided arguments.given.now) arguments.definitions.now) (IsDiagnostic (MissingArgumentReport arguments)) mid new →
        ChecksList r (All (GivenArgumentHolds schema variables definition.value.value.arguments.items) d.value.value.arguments.items ×
        All (RequiredArgumentIsProvided d.value.value.arguments.items) definition.value.value.arguments.items)
        (IsDiagnostic (DirectivesReport (Some schema) variables location directives)) old new
    arguments_checked r old mid new given required =
        let Q = IsDiagnostic (DirectivesReport (Some schema) variables location directives) in
        rw (sym are.given_is, sym are.definitions_are)
        (checks_after r _ _ Q old mid new
        (wider names_given given)
        (checks_words r _ _ (IsDiagnostic (MissingArgumentReport arguments)) Q mid new (λ h. h, λ h. h) names_missing required))
