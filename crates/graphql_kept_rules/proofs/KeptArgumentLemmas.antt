-- Arguments hold by definitions that keep those by which they held. Specification: 5.4 Arguments, 5.8.5 All Variable Usages Are Allowed.
use Rattle.std.proofs.Common.{◌≡◌, ◌∙◌, ℕ, List, Option, Some, sym, ap, subst}
use Rattle.std.specs.Prelude.{◌≢◌, All, Any, Contains, IsSome, IsSomeAnd, IsTrue, find, is_some}
use Rattle.std.specs.List.{AllZip}
use Rattle.std.specs.Str.{bytes_eq}
use Rattle.std.proofs.lemmas.List.Elements.{All-contains}
use Rattle.graphql_nodes.specs.Names.{NameText, SameName, same_name}
use Rattle.graphql_nodes.proofs.NameLemmas.{same_text}
use Rattle.graphql_nodes.specs.declared.nodes.Node.{Node}
use Rattle.graphql_documents.proofs.ListLemmas.{each_standing}
use Rattle.graphql_documents.specs.Definitions.{definition_named, variable_named}
use Rattle.graphql_documents.specs.Directives.{argument_named}
use Rattle.graphql_documents.specs.Schemas.{IsInputObject, is_required}
use Rattle.graphql_documents.specs.TypeReferences.{inner_named_type}
use Rattle.graphql_documents.specs.declared.documents.components.Component.{Component}
use Rattle.graphql_documents.specs.declared.documents.definitions.InputValueDefinition.{InputValueDefinition}
use Rattle.graphql_documents.specs.declared.documents.definitions.VariableDefinition.{VariableDefinition}
use Rattle.graphql_documents.specs.declared.documents.directives.Argument.{Argument}
use Rattle.graphql_documents.specs.declared.documents.schemas.InputObjectType.{InputObjectType}
use Rattle.graphql_documents.specs.declared.documents.schemas.Schema.{Schema}
use Rattle.graphql_documents.specs.declared.documents.values.Value.{Value}
use Rattle.graphql_documents.specs.declared.documents.values.Value.TheVariants as literal
use Rattle.graphql_specification.specs.Arguments.{ArgumentNamesHold, ArgumentValueHolds, ArgumentValuesHold, ArgumentsHold, IsDefined, IsProvided, RequiredArgumentIsProvided, ValueHoldsBy}
use Rattle.graphql_specification.specs.VariableUsages.{UsageHolds}
use Rattle.graphql_document_building.specs.SameLeaves.{SameArgument, SameArguments, SameContents, SameVariable}
use Rattle.graphql_schema_laws.specs.InputFields.{InputObjectsHaveFieldsOfMaps}
use Rattle.graphql_sameness_laws.proofs.ArgumentLemmas.{distinct_names_too, usage_allowed_too}
use Rattle.graphql_sameness_laws.proofs.LeafLemmas.{argument_back, input_value_itself, variable_back}
use Rattle.graphql_sameness_laws.proofs.NamedLemmas.{argument_alike, variable_alike}
use Rattle.graphql_sameness_laws.proofs.ValueLemmas.{contents_back, null_too, variable_too}
use Rattle.graphql_sameness_laws.proofs.ZipLemmas.{other_side, some_and, zip_all, zip_back, zip_contains}
use Rattle.graphql_schema_changes.specs.Keeps.{KeepsArguments, KeepsInput, KeepsInputValue}
use Rattle.graphql_kept_rules.proofs.FoundLemmas.{found_in, one_definition, one_some, some_and_found, some_found}
use Rattle.graphql_kept_rules.proofs.KeptValueLemmas.{accepts_still}
use Rattle.graphql_kept_rules.proofs.LocationLemmas.{usage_stays}

-- ==== definitions

module _ (ds es : List (Node InputValueDefinition)) (keeps : KeepsArguments ds es) where
  -- an argument of the name is defined after as before
  pub record StillDefined (name : NameText) : Type 0 where
    pub d : Node InputValueDefinition
    pub e : Node InputValueDefinition
    pub stands : Contains ds d
    pub was : definition_named name ds ≡ Some d
    pub is : definition_named name es ≡ Some e
    pub kept : KeepsInputValue d.value.value e.value.value

  pub still_defined : (name : NameText) → IsSome (definition_named name ds) → StillDefined name
  still_defined name h =
      let d = some_found (definition_named name ds) h in
      let stands = found_in (λ (x : Node InputValueDefinition). same_name x.value.value.name name) ds d.0 d.1 in
      let e = some_and_found (definition_named d.0.value.value.name es) (λ b. KeepsInputValue d.0.value.value b.value.value)
      (All-contains (λ a. IsSomeAnd (definition_named a.value.value.name es) (λ b. KeepsInputValue a.value.value b.value.value)) ds d.0 keeps.kept stands.0) in
      record {
        d = d.0;
        e = e.0;
        stands = stands.0;
        was = d.1;
        is = sym (one_definition es d.0.value.value.name name stands.1) ∙ e.1;
        kept = e.2;
      }

-- ==== names

provided_under : (xs : List (Node Argument)) (a b : NameText) → SameName a b → IsProvided xs a → IsProvided xs b
provided_under xs a b same h =
    subst (λ (text : List ℕ). IsSomeAnd (find (λ (x : Node Argument). bytes_eq x.value.value.name.text text) xs) (λ x. x.value.value.value.value.value ≢ literal.Null))
    (same_text a b same) h

provided_too : (xs ys : List (Node Argument)) → SameArguments xs ys → (name : NameText) → IsProvided xs name → IsProvided ys name
provided_too xs ys same name h =
    some_and SameArgument (λ a. a.value.value.value.value.value ≢ literal.Null) (λ a. a.value.value.value.value.value ≢ literal.Null)
    (λ x y p not_null null. not_null (null_too y.value.value.value.value.value x.value.value.value.value.value (contents_back p.value.contents) null))
    (argument_named name xs) (argument_named name ys) (argument_alike name xs ys same) h

module _ (ds es : List (Node InputValueDefinition)) (keeps : KeepsArguments ds es) (xs ys : List (Node Argument)) (same : SameArguments xs ys) where
  defined_still : (x y : Node Argument) → SameArgument x y → IsDefined ds x → IsDefined es y
  defined_still x y p h =
      let here = still_defined ds es keeps x.value.value.name h in
      subst (λ n. IsSome (definition_named n es)) p.name (ap (λ (o : Option (Node InputValueDefinition)). is_some o) here.is)

  pub names_still : ArgumentNamesHold ds xs → ArgumentNamesHold es ys
  names_still h = record {
    defined = zip_all SameArgument (IsDefined ds) (IsDefined es) defined_still xs ys same h.defined;
    required = each_standing (RequiredArgumentIsProvided ys) es (λ e stands required.
        let found = All-contains (λ b. IsTrue (is_required b.value.value) → Any (λ a. SameName a.value.value.name b.value.value.name × IsTrue (is_required a.value.value)) ds)
        es e keeps.required stands required in
        let given = All-contains (RequiredArgumentIsProvided xs) ds found.1 h.required (found.0, found.2, found.3) found.4.1 in
        provided_too xs ys same e.value.value.name (provided_under xs found.1.value.value.name e.value.value.name found.4.0 given));
  }

-- ==== values

module _ (old new : Schema) (Input : NameText → Type 0) (inputs : (name : NameText) → Input name → KeepsInput old new name)
    (entries : (name : NameText) (d : Node InputObjectType) (field : NameText × Component InputValueDefinition) → Input name → IsInputObject old name d →
    Contains d.value.value.fields.entries field → Input (inner_named_type field.1.node.value.value.ty.value.value))
    (unique : InputObjectsHaveFieldsOfMaps new) (variables others : List (Node VariableDefinition)) (alike : AllZip SameVariable variables others) where
  usage_still : (d e : Node InputValueDefinition) (v w : Value) → KeepsInputValue d.value.value e.value.value → SameContents v w →
      UsageHolds variables d.value.value v → UsageHolds others e.value.value w
  usage_still d e v w keeps same holds y is =
      let back = zip_back SameVariable SameVariable variable_back variables others alike in
      let x = other_side SameVariable (variable_named is.0 others) (variable_named is.0 variables) y (variable_alike is.0 others variables back) is.2 in
      usage_allowed_too x.0 y e e (variable_back y x.0 x.2) (input_value_itself e)
      (usage_stays x.0.value.value d.value.value e.value.value keeps (holds x.0 (is.0, variable_too w v is.0 (contents_back same) is.1, x.1)))

  value_still : (d e : Node InputValueDefinition) (v w : Value) → KeepsInputValue d.value.value e.value.value → SameContents v w → Input (inner_named_type d.value.value.ty.value.value) →
      ArgumentValueHolds old variables d.value.value v → ArgumentValueHolds new others e.value.value w
  value_still d e v w keeps same input holds = record {
    usage = usage_still d e v w keeps same holds.usage;
    accepted = accepts_still old new Input inputs entries unique variables others alike holds.accepted e.value.value.ty.value.value w keeps.ty same input;
  }

  module _ (ds es : List (Node InputValueDefinition)) (keeps : KeepsArguments ds es)
      (typed : (a : Node InputValueDefinition) → Contains ds a → Input (inner_named_type a.value.value.ty.value.value))
      (xs ys : List (Node Argument)) (same : SameArguments xs ys) where
    pub values_still : All (IsDefined ds) xs → ArgumentValuesHold old variables ds xs → ArgumentValuesHold new others es ys
    values_still defined holds =
        each_standing (ValueHoldsBy new others es) ys (λ y stands e named.
        let x = zip_contains SameArgument ys xs y (zip_back SameArgument SameArgument argument_back xs ys same) stands in
        let here = still_defined ds es keeps x.0.value.value.name (All-contains (IsDefined ds) xs x.0 defined x.1) in
        let one : here.e ≡ e = one_some (definition_named x.0.value.value.name es) here.e e here.is (subst (λ n. definition_named n es ≡ Some e) x.2.name named) in
        let before = All-contains (ValueHoldsBy old variables ds) xs x.0 holds x.1 here.d here.was in
        value_still here.d e x.0.value.value.value.value.value y.value.value.value.value.value
        (subst (λ (z : Node InputValueDefinition). KeepsInputValue here.d.value.value z.value.value) one here.kept) (contents_back x.2.value.contents)
        (typed here.d here.stands) before)

    pub arguments_still : ArgumentsHold old variables ds xs → ArgumentsHold new others es ys
    arguments_still h = record {
      distinct = distinct_names_too xs ys same h.distinct;
      names = names_still ds es keeps xs ys same h.names;
      values = values_still h.names.defined h.values;
    }
