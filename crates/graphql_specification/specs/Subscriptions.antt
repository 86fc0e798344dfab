-- The root fields of a subscription: when it holds, and what a diagnostic says of it. Specification: 5.2.3 Subscription Operation
-- Definitions.
use Rattle.std.specs.Prelude.{Bool, ◌||◌, codes, List, ◌+◌, [], ◌∷◌, ◌++◌, ◌≡◌, Some, None, IsFalse, IsTrue, ◌≤◌, All, AllPairs, length, sum_by, Option, find, map}
use Rattle.std.specs.Str.{bytes_eq}
use Rattle.std.specs.List.{list_any}
use Rattle.graphql_nodes.specs.Names.{NameText, same_name, SameName, DifferentNames}
use Rattle.graphql_documents.specs.Selections.{selections_of, Fragments, InExpandedSet, directives_of, fragments_of}
use Rattle.graphql_documents.specs.Walks.{PassesDepth, root_walk}
use Rattle.graphql_nodes.specs.declared.nodes.Node.{Node}
use Rattle.graphql_documents.specs.declared.documents.directives.Directive.{Directive}
use Rattle.graphql_documents.specs.declared.documents.executables.Selection.{Selection}
use Rattle.graphql_documents.specs.declared.documents.executables.Field.{Field}
use Rattle.graphql_documents.specs.declared.documents.executables.InlineFragment.{InlineFragment}
use Rattle.graphql_documents.specs.declared.documents.executables.FragmentSpread.{FragmentSpread}
use Rattle.graphql_documents.specs.declared.documents.executables.Fragment.{Fragment}
use Rattle.graphql_documents.specs.declared.documents.executables.SelectionSet.{SelectionSet}
use Rattle.graphql_nodes.specs.declared.operation_types.OperationType.TheVariants.{Subscription}
use Rattle.graphql_documents.specs.declared.documents.executables.Operation.{Operation}
use Rattle.graphql_documents.specs.declared.documents.executables.ExecutableDocument.{ExecutableDocument}
use Rattle.graphql_nodes.specs.declared.spans.SourceSpan.{SourceSpan}
use Rattle.graphql_diagnostics.specs.declared.build_errors.BuildError.{BuildError}
use Rattle.graphql_diagnostics.specs.declared.details.Details.{Details}
use Rattle.graphql_documents.specs.declared.documents.executables.Selection.TheVariants as kind
use Rattle.graphql_diagnostics.specs.declared.build_errors.BuildError.TheVariants as build
use Rattle.graphql_diagnostics.specs.declared.details.Details.TheVariants as details
use Rattle.graphql_nodes.specs.declared.operation_types.OperationType.TheVariants as operation
use Rattle.graphql_diagnostics.specs.declared.data.DiagnosticData.TheVariants as report

-- a field of introspection
abbrev pub is_introspection : NameText → Bool
is_introspection name =
    bytes_eq name.text (codes "__type") || bytes_eq name.text (codes "__schema") || bytes_eq name.text (codes "__typename")

-- `@skip` or `@include`
abbrev pub is_conditional : NameText → Bool
is_conditional name = bytes_eq name.text (codes "skip") || bytes_eq name.text (codes "include")

-- a directive among these is `@skip` or `@include`
abbrev pub has_condition : List (Node Directive) → Bool
has_condition directives = list_any (λ d. is_conditional d.value.value.name) directives

-- these fields are written among the selections, or in their inline fragments, in order
pub data RootFields : List Selection → List (Node Field) → Type 0 where
  no_selections : RootFields [] []
  root_field : (f : Node Field) {rest : List Selection} {fields : List (Node Field)} →
      RootFields rest fields → RootFields (kind.Field f ∷ rest) (f ∷ fields)
  root_inline_fragment : (i : Node InlineFragment) {rest : List Selection} {within fields : List (Node Field)} →
      RootFields (selections_of i.value.value.selection_set) within → RootFields rest fields →
      RootFields (kind.InlineFragment i ∷ rest) (within ++ fields)
  root_spread : (p : Node FragmentSpread) {rest : List Selection} {fields : List (Node Field)} →
      RootFields rest fields → RootFields (kind.FragmentSpread p ∷ rest) fields

-- these fields are visited by a walk over the selections and the fragments in them, depth first, where
-- these names of fragments were visited before; and the names visited by then
pub data WalkedFields (fragments : Fragments) : List NameText → List Selection → List (Node Field) → List NameText → Type 0 where
  walked_none : {seen : List NameText} → WalkedFields fragments seen [] [] seen
  walked_field : {seen visited : List NameText} {fields : List (Node Field)} (f : Node Field) (rest : List Selection) →
      WalkedFields fragments seen rest fields visited →
      WalkedFields fragments seen (kind.Field f ∷ rest) (f ∷ fields) visited
  walked_inline_fragment : {seen between visited : List NameText} {within fields : List (Node Field)} (i : Node InlineFragment) (rest : List Selection) →
      WalkedFields fragments seen (selections_of i.value.value.selection_set) within between →
      WalkedFields fragments between rest fields visited →
      WalkedFields fragments seen (kind.InlineFragment i ∷ rest) (within ++ fields) visited
  walked_known_spread : {seen visited : List NameText} {fields : List (Node Field)} (p : Node FragmentSpread) (rest : List Selection) →
      IsTrue (list_any (same_name p.value.value.fragment_name) seen) →
      WalkedFields fragments seen rest fields visited →
      WalkedFields fragments seen (kind.FragmentSpread p ∷ rest) fields visited
  walked_undefined_spread : {seen visited : List NameText} {fields : List (Node Field)} (p : Node FragmentSpread) (rest : List Selection) →
      fragments p.value.value.fragment_name ≡ None →
      WalkedFields fragments (p.value.value.fragment_name ∷ seen) rest fields visited →
      WalkedFields fragments seen (kind.FragmentSpread p ∷ rest) fields visited
  walked_spread : {seen between visited : List NameText} {d : Node Fragment} {within fields : List (Node Field)} (p : Node FragmentSpread) (rest : List Selection) →
      IsFalse (list_any (same_name p.value.value.fragment_name) seen) →
      fragments p.value.value.fragment_name ≡ Some d →
      WalkedFields fragments (p.value.value.fragment_name ∷ seen) (selections_of d.value.value.selection_set) within between →
      WalkedFields fragments between rest fields visited →
      WalkedFields fragments seen (kind.FragmentSpread p ∷ rest) (within ++ fields) visited

-- a fragment that a spread inside the set names, with the fields written in it
pub record SpreadFields (fragments : Fragments) (set : SelectionSet) (name : NameText) (fields : List (Node Field)) : Type 0 where
  pub spread : Node FragmentSpread
  pub definition : Node Fragment
  pub inside : InExpandedSet fragments set (kind.FragmentSpread spread)
  pub named : SameName spread.value.value.fragment_name name
  pub defined : fragments spread.value.value.fragment_name ≡ Some definition
  pub written : RootFields (selections_of definition.value.value.selection_set) fields

-- one field at most is written in the set and in the different fragments that are spread inside it
abbrev pub HasOneRootField : Fragments → SelectionSet → Type 0
HasOneRootField fragments set =
    (own : List (Node Field)) (spread : List (NameText × List (Node Field))) →
    RootFields (selections_of set) own →
    All (λ part. SpreadFields fragments set part.0 part.1) spread →
    AllPairs (λ a b. DifferentNames a.0 b.0) spread →
    length own + sum_by (λ part. length part.1) spread ≤ 1

-- a subscription with this set holds
pub record SubscriptionHolds (fragments : Fragments) (set : SelectionSet) : Type 0 where
  pub no_introspection : (f : Node Field) → InExpandedSet fragments set (kind.Field f) → IsFalse (is_introspection f.value.value.name)
  pub no_condition : (s : Selection) → InExpandedSet fragments set s → IsFalse (has_condition (directives_of s))
  pub one_field : HasOneRootField fragments set

-- an operation that is a subscription holds as one
abbrev pub OperationSubscriptionHolds : ExecutableDocument → Operation → Type 0
OperationSubscriptionHolds document o = o.operation_type ≡ Subscription → SubscriptionHolds (fragments_of document) o.selection_set

-- a field of introspection is a root field of a subscription: reported at the field
pub record HasIntrospection (fragments : Fragments) (o : Node Operation) (name : Option NameText) (field : NameText) (at : Option SourceSpan) : Type 0 where
  pub f : Node Field
  pub inside : InExpandedSet fragments o.value.value.selection_set (kind.Field f)
  pub introspects : IsTrue (is_introspection f.value.value.name)
  pub name_is : name ≡ o.value.value.name
  pub field_is : field ≡ f.value.value.name
  pub at_is : at ≡ f.location

-- a root selection of a subscription has a condition: reported at its first one
pub record HasConditionalSelection (fragments : Fragments) (o : Node Operation) (name : Option NameText) (at : Option SourceSpan) : Type 0 where
  pub s : Selection
  pub d : Node Directive
  pub inside : InExpandedSet fragments o.value.value.selection_set s
  pub first_is : find (λ x. is_conditional x.value.value.name) (directives_of s) ≡ Some d
  pub name_is : name ≡ o.value.value.name
  pub at_is : at ≡ d.location

-- a subscription has several root fields: reported at the operation, with their names in order
pub record HasSeveralRootFields (fragments : Fragments) (o : Node Operation) (name : Option NameText) (fields : List NameText) (at : Option SourceSpan) : Type 0 where
  pub walked : List (Node Field)
  pub visited : List NameText
  pub several : ¬ HasOneRootField fragments o.value.value.selection_set
  pub walk : WalkedFields fragments [] (selections_of o.value.value.selection_set) walked visited
  pub name_is : name ≡ o.value.value.name
  pub fields_are : fields ≡ map (λ f. f.value.value.name) walked
  pub at_is : at ≡ o.location

-- the diagnostic names a rule of subscriptions that an operation breaks
abbrev pub SubscriptionErrorReport : Fragments → Node Operation → BuildError → Option SourceSpan → Type 0
SubscriptionErrorReport fragments o (build.SubscriptionUsesIntrospection name field) at = HasIntrospection fragments o name field at
SubscriptionErrorReport fragments o (build.SubscriptionUsesConditionalSelection name) at = HasConditionalSelection fragments o name at
SubscriptionErrorReport fragments o (build.SubscriptionUsesMultipleFields name fields) at = HasSeveralRootFields fragments o name fields.items at
SubscriptionErrorReport fragments o _ at = ⊥

-- the diagnostic names a rule of subscriptions that an operation, which is one, breaks
pub data SubscriptionReport (fragments : Fragments) (o : Node Operation) : Details → Option SourceSpan → Type 0 where
  of_subscription : {e : BuildError} {at : Option SourceSpan} →
      o.value.value.operation_type ≡ operation.Subscription → SubscriptionErrorReport fragments o e at →
      SubscriptionReport fragments o (details.Build e) at

-- a diagnostic of a limit is true of an operation: it is a subscription, and the walk over its root passes its
-- limit; reported without a place
pub data SubscriptionLimit (fragments : Fragments) (o : Operation) : Details → Option SourceSpan → Type 0 where
  subscription_walk_passes : o.operation_type ≡ operation.Subscription → PassesDepth fragments root_walk o.selection_set →
      SubscriptionLimit fragments o (details.Diagnostic report.RecursionError) None
