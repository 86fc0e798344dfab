-- Arguments that are the same agree with the same definitions. Specification: 5.4 Arguments, 5.8.5 All Variable Usages Are Allowed.
use Rattle.std.proofs.Common.{◌≡◌, ◌∙◌, ◌&&◌, inl, inr, Bool, true, false, not, List, Some, sym, ap₂, subst}
use Rattle.std.specs.Prelude.{◌≢◌, IsSome, MatchBool}
use Rattle.std.specs.List.{AllZip}
use Rattle.graphql_nodes.specs.Names.{NameText, same_name}
use Rattle.graphql_nodes.specs.declared.nodes.Node.{Node}
use Rattle.graphql_documents.specs.Definitions.{definition_named, variable_named}
use Rattle.graphql_documents.specs.Directives.{argument_named}
use Rattle.graphql_documents.specs.TypeReferences.{nullable}
use Rattle.graphql_documents.specs.declared.documents.definitions.InputValueDefinition.{InputValueDefinition}
use Rattle.graphql_documents.specs.declared.documents.definitions.VariableDefinition.{VariableDefinition}
use Rattle.graphql_documents.specs.declared.documents.directives.Argument.{Argument}
use Rattle.graphql_documents.specs.declared.documents.schemas.Schema.{Schema}
use Rattle.graphql_documents.specs.declared.documents.values.Value.{Value}
use Rattle.graphql_documents.specs.declared.documents.values.Value.TheVariants as literal
use Rattle.graphql_specification.specs.Arguments.{ArgumentNamesHold, ArgumentValuesHold, ArgumentsHold, HasDistinctNames, IsDefined, IsProvided, RequiredArgumentIsProvided, ValueHoldsBy}
use Rattle.graphql_specification.specs.VariableUsages.{HasNonNullDefault, IsUsageAllowed, UsageHolds, needs_default}
use Rattle.graphql_document_building.specs.SameLeaves.{SameArgument, SameArguments, SameContents, SameInputValue, SameInputValues, SameValue, SameVariable}
use Rattle.graphql_building_laws.specs.SameSchemas.{SameSchema}
use Rattle.graphql_sameness_laws.proofs.AcceptLemmas.{accepts_too}
use Rattle.graphql_sameness_laws.proofs.LeafLemmas.{input_value_back, variable_back}
use Rattle.graphql_sameness_laws.proofs.NamedLemmas.{argument_alike, both_required, default_alike, definition_named_alike, variable_alike}
use Rattle.graphql_sameness_laws.proofs.TypeLemmas.{both_assignable, one_null, one_nullable}
use Rattle.graphql_sameness_laws.proofs.ValueLemmas.{contents_back, null_too, variable_too}
use Rattle.graphql_sameness_laws.proofs.ZipLemmas.{other_side, some_alike, some_and, zip_all, zip_all_pairs, zip_back}

-- ==== usages of variables

pub match_too : (s t : Bool) (P Q R S : Type 0) → s ≡ t → (P → R) → (Q → S) → MatchBool s P Q → MatchBool t R S
match_too true true P Q R S e first second h = first h
match_too false false P Q R S e first second h = second h
match_too true false P Q R S e first second h = absurd (let no : ⊥ = cc in no)
match_too false true P Q R S e first second h = absurd (let no : ⊥ = cc in no)

pub non_null_default_too : (v w : Node VariableDefinition) → SameVariable v w → HasNonNullDefault v.value.value → HasNonNullDefault w.value.value
non_null_default_too v w same =
    some_and SameValue (λ x. x.value.value ≢ literal.Null) (λ x. x.value.value ≢ literal.Null)
    (λ x y p h null. h (null_too y.value.value x.value.value (contents_back p.contents) null))
    v.value.value.default_value w.value.value.default_value (default_alike _ _ same.default_value)

pub usage_allowed_too : (v w : Node VariableDefinition) (d e : Node InputValueDefinition) → SameVariable v w → SameInputValue d e →
    IsUsageAllowed v.value.value d.value.value → IsUsageAllowed w.value.value e.value.value
usage_allowed_too v w d e same alike =
    let here = v.value.value.ty.value.value in
    let there = w.value.value.ty.value.value in
    let place = d.value.value.ty.value.value in
    let spot = e.value.value.ty.value.value in
    match_too (needs_default v.value.value d.value.value) (needs_default w.value.value e.value.value) _ _ _ _
    (ap₂ (λ s t. s && not t) (one_null place spot alike.ty.written) (one_null here there same.ty.written))
    (λ h. (
      elim h.0 [
        | inl own ↦ inl (non_null_default_too v w same own)
        | inr given ↦ inr (sym (some_alike SameValue d.value.value.default_value e.value.value.default_value (default_alike _ _ alike.default_value)) ∙ given)
      ],
      sym (both_assignable here (nullable place) there (nullable spot) same.ty.written (one_nullable place spot alike.ty.written)) ∙ h.1,
    ))
    (λ h. sym (both_assignable here place there spot same.ty.written alike.ty.written) ∙ h)

module _ (variables others : List (Node VariableDefinition)) (alike : AllZip SameVariable variables others) where
  pub usage_holds_too : (d e : Node InputValueDefinition) (v w : Value) → SameInputValue d e → SameContents v w →
      UsageHolds variables d.value.value v → UsageHolds others e.value.value w
  usage_holds_too d e v w same contents holds y is =
      let back = zip_back SameVariable SameVariable variable_back variables others alike in
      let x = other_side SameVariable (variable_named is.0 others) (variable_named is.0 variables) y (variable_alike is.0 others variables back) is.2 in
      usage_allowed_too x.0 y d e (variable_back y x.0 x.2) same
      (holds x.0 (is.0, variable_too w v is.0 (contents_back contents) is.1, x.1))

-- ==== names of arguments

pub distinct_names_too : (xs ys : List (Node Argument)) → SameArguments xs ys → HasDistinctNames xs → HasDistinctNames ys
distinct_names_too xs ys same =
    zip_all_pairs SameArgument (λ a b. same_name a.value.value.name b.value.value.name ≡ false) (λ a b. same_name a.value.value.name b.value.value.name ≡ false)
    (λ x y u v p q h. sym (ap₂ same_name p.name q.name) ∙ h) xs ys same

module _ (ds es : List (Node InputValueDefinition)) (definitions : SameInputValues ds es) (xs ys : List (Node Argument)) (same : SameArguments xs ys) where
  defined_too : (x y : Node Argument) → SameArgument x y → IsDefined ds x → IsDefined es y
  defined_too x y p h =
      subst (λ n. IsSome (definition_named n es)) p.name
      (sym (some_alike SameInputValue _ _ (definition_named_alike x.value.value.name ds es definitions)) ∙ h)

  provided_too : (name other : NameText) → name ≡ other → IsProvided xs name → IsProvided ys other
  provided_too name other e h =
      subst (IsProvided ys) e
      (some_and SameArgument (λ a. a.value.value.value.value.value ≢ literal.Null) (λ a. a.value.value.value.value.value ≢ literal.Null)
      (λ x y p not_null null. not_null (null_too y.value.value.value.value.value x.value.value.value.value.value (contents_back p.value.contents) null))
      (argument_named name xs) (argument_named name ys) (argument_alike name xs ys same) h)

  pub argument_names_too : ArgumentNamesHold ds xs → ArgumentNamesHold es ys
  argument_names_too h = record {
    defined = zip_all SameArgument (IsDefined ds) (IsDefined es) defined_too xs ys same h.defined;
    required = zip_all SameInputValue (RequiredArgumentIsProvided xs) (RequiredArgumentIsProvided ys)
        (λ d e p given required. provided_too d.value.value.name e.value.value.name p.name (given (both_required d e p ∙ required))) ds es definitions h.required;
  }

-- ==== values of arguments

module _ (a b : Schema) (schemas : SameSchema a b) (variables others : List (Node VariableDefinition)) (alike : AllZip SameVariable variables others)
    (ds es : List (Node InputValueDefinition)) (definitions : SameInputValues ds es) (xs ys : List (Node Argument)) (same : SameArguments xs ys) where
  value_holds_too : (x y : Node Argument) → SameArgument x y → ValueHoldsBy a variables ds x → ValueHoldsBy b others es y
  value_holds_too x y p holds e named =
      let back = zip_back SameInputValue SameInputValue input_value_back ds es definitions in
      let d = other_side SameInputValue (definition_named y.value.value.name es) (definition_named y.value.value.name ds) e
      (definition_named_alike y.value.value.name es ds back) named in
      let here = holds d.0 (subst (λ n. definition_named n ds ≡ Some d.0) (sym p.name) d.1) in
      let definition = input_value_back e d.0 d.2 in
      record {
        usage = usage_holds_too variables others alike d.0 e _ _ definition p.value.contents here.usage;
        accepted = accepts_too a b schemas variables others alike here.accepted e.value.value.ty.value.value y.value.value.value.value.value
            definition.ty.written p.value.contents;
      }

  pub argument_values_too : ArgumentValuesHold a variables ds xs → ArgumentValuesHold b others es ys
  argument_values_too = zip_all SameArgument (ValueHoldsBy a variables ds) (ValueHoldsBy b others es) value_holds_too xs ys same

  pub arguments_too : ArgumentsHold a variables ds xs → ArgumentsHold b others es ys
  arguments_too h = record {
    distinct = distinct_names_too xs ys same h.distinct;
    names = argument_names_too ds es definitions xs ys same h.names;
    values = argument_values_too h.values;
  }
