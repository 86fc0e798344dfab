-- The messages of what breaks a rule of subscriptions, of `@defer` or of merging fields.
use Rattle.std.specs.Prelude.{ℕ, List, ◌++◌, codes, Option, None, Some, string_bytes}
use Rattle.graphql_coordinates.specs.Coordinates.{field_argument_text, type_attribute_text}
use Rattle.graphql_diagnostics.specs.declared.build_errors.BuildError.{BuildError}
use Rattle.graphql_diagnostics.specs.declared.build_errors.BuildError.TheVariants as error
use Rattle.graphql_diagnostics.specs.Messages.{details_text}
use Rattle.graphql_diagnostics.specs.declared.details.Details.{Details}
use Rattle.graphql_diagnostics.specs.declared.details.Details.TheVariants.{Build}
use Rattle.graphql_documents.specs.TypeReferences.{type_text}
use Rattle.graphql_nodes.specs.Names.{NameText}
use Rattle.graphql_nodes.specs.OperationTypes.{operation_type_text}

-- what a message calls a subscription
abbrev pub subscription_text : Option NameText → List ℕ
subscription_text None = codes "anonymous subscription"
subscription_text (Some name) = codes "subscription `" ++ (name.text ++ codes "`")

-- the message of an error
abbrev pub build_error_message : BuildError → List ℕ
build_error_message (error.SubscriptionUsesIntrospection name field) =
    subscription_text name ++ (codes " can not have an introspection field as a root field: " ++ field.text)
build_error_message (error.SubscriptionUsesConditionalSelection name) = subscription_text name ++ codes " can not specify @skip or @include on root fields"
build_error_message (error.SubscriptionUsesMultipleFields name fields) = subscription_text name ++ codes " can only have one root field"
build_error_message error.DeferLabelMustNotBeVariable = codes "the label of @defer must not be a variable"
build_error_message (error.DuplicateDeferLabel label original_location) =
    codes "the label \"" ++ (string_bytes label ++ codes "\" of @defer is used multiple times")
build_error_message (error.DeferOnRootMutationOrSubscriptionField operation_type) =
    codes "@defer can not be used on root fields of a " ++ operation_type_text operation_type
build_error_message error.DeferInSubscriptionMustBeConditional =
    codes "@defer can not be used in a subscription, unless its `if` is a variable or false"
build_error_message (error.ConflictingFieldName alias original_location original conflicting_location conflicting) =
    codes "fields \"" ++ (alias.text ++ (codes "\" conflict: " ++ (type_attribute_text original ++ (codes " and " ++ (type_attribute_text conflicting ++ codes " are different fields")))))
build_error_message (error.ConflictingFieldArgument alias original_location original original_value conflicting_location conflicting conflicting_value) =
    codes "fields \"" ++ (alias.text ++ (codes "\" conflict: the argument " ++ (field_argument_text original ++ codes " differs")))
build_error_message (error.ConflictingFieldType alias original_location original original_type conflicting_location conflicting conflicting_type) =
    codes "fields \"" ++ (alias.text ++ (codes "\" conflict: " ++ (type_attribute_text original ++ (codes " is of type " ++ (type_text original_type ++ (codes " and " ++
    (type_attribute_text conflicting ++ (codes " of type " ++ type_text conflicting_type))))))))

-- what counts of a diagnostic where a list has a bound: its message, or of a broken rule of building the one that texts are shown
abbrev pub counted_message : Details → List ℕ
counted_message (Build e) = build_error_message e
counted_message details = details_text details
