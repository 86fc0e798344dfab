-- The root of a subscription by the response keys of its fields: when it holds, and what a diagnostic says of it. Specification: 5.2.3.1
-- Single Root Field.
use Rattle.std.specs.Prelude.{◌≡◌, List, [], ◌∷◌, Option, IsFalse, Vec}
use Rattle.std.specs.declared.alloc.Global.{Global}
use Rattle.graphql_nodes.specs.Names.{NameText}
use Rattle.graphql_documents.specs.Selections.{Fragments, InExpandedSet, directives_of, fragments_of}
use Rattle.graphql_specification.specs.CollectFields.{CollectedFrom, CollectsFrom}
use Rattle.graphql_specification.specs.MergedSets.{keys_of}
use Rattle.graphql_specification.specs.Merging.{FieldSelection, SameKey}
use Rattle.graphql_specification.specs.Subscriptions.{HasConditionalSelection, HasIntrospection, has_condition, is_introspection}
use Rattle.graphql_documents.specs.declared.documents.executables.ExecutableDocument.{ExecutableDocument}
use Rattle.graphql_documents.specs.declared.documents.executables.Field.{Field}
use Rattle.graphql_documents.specs.declared.documents.executables.Operation.{Operation}
use Rattle.graphql_documents.specs.declared.documents.executables.Selection.TheVariants as kind
use Rattle.graphql_documents.specs.declared.documents.executables.Selection.{Selection}
use Rattle.graphql_documents.specs.declared.documents.executables.SelectionSet.{SelectionSet}
use Rattle.graphql_documents.specs.declared.documents.schemas.Schema.{Schema}
use Rattle.graphql_nodes.specs.declared.nodes.Node.{Node}
use Rattle.graphql_nodes.specs.declared.operation_types.OperationType.TheVariants.{Subscription}
use Rattle.graphql_nodes.specs.declared.spans.SourceSpan.{SourceSpan}
use Rattle.graphql_diagnostics.specs.declared.build_errors.BuildError.TheVariants as build
use Rattle.graphql_diagnostics.specs.declared.details.Details.TheVariants as details
use Rattle.graphql_diagnostics.specs.declared.details.Details.{Details}

-- the grouped field set of the set, for objects of its own type, has one response key at most: any two fields that are collected have the
-- same key. Specification: 5.2.3.1 Single Root Field; 6.3.2 Field Collection, CollectFields
abbrev pub HasOneResponseKey : Schema → Fragments → SelectionSet → Type 0
HasOneResponseKey schema fragments set =
    (x y : FieldSelection) → CollectedFrom schema fragments set.ty set x → CollectedFrom schema fragments set.ty set y → SameKey x y

-- a subscription with this set holds
pub record SubscriptionRootHolds (schema : Schema) (fragments : Fragments) (set : SelectionSet) : Type 0 where
  pub no_introspection : (f : Node Field) → InExpandedSet fragments set (kind.Field f) → IsFalse (is_introspection f.value.value.name)
  pub no_condition : (s : Selection) → InExpandedSet fragments set s → IsFalse (has_condition (directives_of s))
  pub one_response_key : HasOneResponseKey schema fragments set

-- an operation that is a subscription holds as one
abbrev pub OperationRootHolds : Schema → ExecutableDocument → Operation → Type 0
OperationRootHolds schema document o = o.operation_type ≡ Subscription → SubscriptionRootHolds schema (fragments_of document) o.selection_set

-- the root of a subscription has several response keys: reported at the operation, with the keys in the order of their first fields
pub record HasSeveralResponseKeys (schema : Schema) (fragments : Fragments) (o : Node Operation) (name : Option NameText) (keys : List NameText) (at : Option SourceSpan) : Type 0 where
  pub collected : List FieldSelection
  pub several : ¬ HasOneResponseKey schema fragments o.value.value.selection_set
  pub walk : CollectsFrom schema fragments o.value.value.selection_set.ty [] (o.value.value.selection_set ∷ []) collected
  pub name_is : name ≡ o.value.value.name
  pub keys_are : keys ≡ keys_of collected
  pub at_is : at ≡ o.location

-- the diagnostic names a rule that an operation, which is a subscription, breaks at its root
pub data SubscriptionRootReport (schema : Schema) (fragments : Fragments) (o : Node Operation) : Details → Option SourceSpan → Type 0 where
  of_introspection : {name : Option NameText} {field : NameText} {at : Option SourceSpan} →
      o.value.value.operation_type ≡ Subscription → HasIntrospection fragments o name field at →
      SubscriptionRootReport schema fragments o (details.Build (build.SubscriptionUsesIntrospection name field)) at
  of_condition : {name : Option NameText} {at : Option SourceSpan} →
      o.value.value.operation_type ≡ Subscription → HasConditionalSelection fragments o name at →
      SubscriptionRootReport schema fragments o (details.Build (build.SubscriptionUsesConditionalSelection name)) at
  of_response_keys : {name : Option NameText} {keys : Vec NameText Global} {at : Option SourceSpan} →
      o.value.value.operation_type ≡ Subscription → HasSeveralResponseKeys schema fragments o name keys.items at →
      SubscriptionRootReport schema fragments o (details.Build (build.SubscriptionUsesMultipleFields name keys)) at
