-- What is said of the root of a subscription: at one of its selections, and of its response keys.
use Rattle.std.proofs.Common.{◌≡◌, ◌↔◌, ◌<◌, ◌≤◌, ◌++◌, Bool, Bor, List, [], ◌∷◌, Option, Some, None, IsTrue, IsFalse, All, refl, sym, ◌∙◌, ap, subst, find, length, map, arith}
use Rattle.std.proofs.lemmas.List.Elements.{All-contains, All-weaker}
use Rattle.std.specs.Prelude.{Vec, Result, OnErr, OnOk}
use Rattle.std.specs.declared.alloc.Global.{Global}
use mathlib.Core.Logic.{inl, inr}
use Rattle.graphql_nodes.specs.Names.{NameText}
use Rattle.graphql_documents.specs.Selections.{Fragments, InExpandedSet, directives_of, fragments_of}
use Rattle.graphql_documents.specs.Walks.{HasListed, PassesDepth, root_walk}
use Rattle.graphql_specification.specs.CollectFields.{CollectsFrom}
use Rattle.graphql_specification.specs.MergedSets.{keys_of}
use Rattle.graphql_specification.specs.Merging.{FieldSelection}
use Rattle.graphql_specification.specs.Subscriptions.{is_conditional, is_introspection, subscription_walk_passes}
use Rattle.graphql_diagnostics.specs.Diagnostics.{IsLimitEntry, limit_of_walk}
use Rattle.graphql_diagnostics.specs.Reports.{Reports, ReportsWithin}
use Rattle.graphql_diagnostics.specs.declared.data.DiagnosticData.TheVariants as report
use Rattle.graphql_diagnostics.specs.declared.lists.DiagnosticEntry.{DiagnosticEntry}
use Rattle.graphql_diagnostics.specs.declared.build_errors.BuildError.TheVariants as build
use Rattle.graphql_diagnostics.specs.declared.details.Details.TheVariants as details
use Rattle.graphql_nodes.specs.declared.operation_types.OperationType.TheVariants.{Subscription}
use Rattle.graphql_documents.specs.declared.documents.directives.Directive.{Directive}
use Rattle.graphql_documents.specs.declared.documents.executables.ExecutableDocument.{ExecutableDocument}
use Rattle.graphql_documents.specs.declared.documents.executables.Field.{Field}
use Rattle.graphql_documents.specs.declared.documents.executables.Operation.{Operation}
use Rattle.graphql_documents.specs.declared.documents.executables.Selection.TheVariants as kind
use Rattle.graphql_documents.specs.declared.documents.executables.Selection.{Selection}
use Rattle.graphql_documents.specs.declared.documents.schemas.Schema.{Schema}
use Rattle.graphql_nodes.specs.declared.nodes.Node.{Node}
use Rattle.graphql_diagnostics.proofs.ReportLemmas.{ChecksList}
use Rattle.graphql_diagnostics.proofs.ReportWithinLemmas.{ChecksListWithin, checks_after_within, checks_limit, checks_within, checks_words_within, wider_within, within}
use Rattle.graphql_variables.proofs.FirstPlaceLemmas.{holds_on_ok}
use Rattle.graphql_variables.proofs.ReferenceLemmas.{all_referred}
use Rattle.graphql_operations.proofs.SubscriptionLemmas.{each_inside}
use Rattle.graphql_operations.specs.Subscriptions.{RootSelectionHolds}
use Rattle.graphql_document_rules.specs.RootSteps.{RootEntryReport, RootRuleReport}
use Rattle.graphql_document_rules.specs.SingleRootField.{HasOneResponseKey, OperationRootHolds, SubscriptionRootHolds, SubscriptionRootReport, of_condition, of_introspection, of_response_keys}
use Rattle.graphql_document_rules.proofs.KeyLemmas.{one_key_collected}

-- the diagnostics at a root selection
module _ (schema : Schema) (fragments : Fragments) (o : Node Operation) (s : Selection) (is_one : o.value.value.operation_type ≡ Subscription) (inside : InExpandedSet fragments o.value.value.selection_set s) where
  pub says_introspection : (f : Node Field) (name : Option NameText) (field : NameText) → s ≡ kind.Field f → IsTrue (is_introspection f.value.value.name) →
      name ≡ o.value.value.name → field ≡ f.value.value.name →
      SubscriptionRootReport schema fragments o (details.Build (build.SubscriptionUsesIntrospection name field)) f.location
  says_introspection f name field is introspection named field_is =
      of_introspection is_one (record {
        f = f;
        inside = subst (InExpandedSet fragments o.value.value.selection_set) is inside;
        introspects = introspection;
        name_is = named;
        field_is = field_is;
        at_is = refl;
      })

  pub says_condition : (d : Node Directive) (name : Option NameText) → find (λ d. is_conditional d.value.value.name) (directives_of s) ≡ Some d →
      name ≡ o.value.value.name → SubscriptionRootReport schema fragments o (details.Build (build.SubscriptionUsesConditionalSelection name)) d.location
  says_condition d name first named =
      of_condition is_one (record { s = s; d = d; inside = inside; first_is = first; name_is = named; at_is = refl })

-- what the walk over the root of a subscription has listed
module _ (schema : Schema) (document : ExecutableDocument) (o : Node Operation) (xs : List (Bor Selection)) (complete : Bool)
    (h : HasListed (InExpandedSet (fragments_of document) o.value.value.selection_set) (PassesDepth (fragments_of document) root_walk o.value.value.selection_set) (map (λ s. s.now) xs) complete) where
  inside : All (λ (s : Bor Selection). InExpandedSet (fragments_of document) o.value.value.selection_set s.now) xs
  inside = each_inside document o xs complete h

  -- they were checked, at hand in another list
  pub roots_checked : (ys : List (Bor Selection)) → ys ≡ xs → (old new : List DiagnosticEntry) →
      (All (λ s. InExpandedSet (fragments_of document) o.value.value.selection_set s.now) ys →
      Reports (All (λ s. RootSelectionHolds s.now) ys) (RootRuleReport schema (fragments_of document) o) old new) →
      Reports (All (λ s. RootSelectionHolds s.now) xs) (RootRuleReport schema (fragments_of document) o) old new
  roots_checked ys same old new checked =
      subst (λ (l : List (Bor Selection)). Reports (All (λ s. RootSelectionHolds s.now) l) (RootRuleReport schema (fragments_of document) o) old new) same
      (checked (subst (λ (l : List (Bor Selection)). All (λ s. InExpandedSet (fragments_of document) o.value.value.selection_set s.now) l) (sym same) inside))

  -- they hold where the subscription does
  listed_hold : SubscriptionRootHolds schema (fragments_of document) o.value.value.selection_set → All (λ (s : Bor Selection). RootSelectionHolds s.now) xs
  listed_hold holds =
      All-weaker (λ (s : Bor Selection). InExpandedSet (fragments_of document) o.value.value.selection_set s.now) (λ (s : Bor Selection). RootSelectionHolds s.now)
      (λ s inside'. (
        λ f is. holds.no_introspection f (subst (InExpandedSet (fragments_of document) o.value.value.selection_set) is inside'),
        holds.no_condition s.now inside',
      ))
      xs inside

  -- where they are all, and the fields that are collected have one key, the subscription holds
  all_hold : IsTrue complete → All (λ (s : Bor Selection). RootSelectionHolds s.now) xs → HasOneResponseKey schema (fragments_of document) o.value.value.selection_set →
      SubscriptionRootHolds schema (fragments_of document) o.value.value.selection_set
  all_hold done all one =
      let at : All RootSelectionHolds (map (λ (s : Bor Selection). s.now) xs) = (all_referred RootSelectionHolds xs).0 all in
      record {
        no_introspection = λ f inside'. (All-contains RootSelectionHolds _ (kind.Field f) at (h.all done (kind.Field f) inside')).0 f refl;
        no_condition = λ s inside'. (All-contains RootSelectionHolds _ s at (h.all done s inside')).1;
        one_response_key = one;
      }

  module _ (is_one : o.value.value.operation_type ≡ Subscription) (old mid new : List DiagnosticEntry)
      (checked : Reports (All (λ s. RootSelectionHolds s.now) xs) (RootRuleReport schema (fragments_of document) o) old mid) where
    first : ReportsWithin IsLimitEntry (All (λ s. RootSelectionHolds s.now) xs) (RootEntryReport schema (fragments_of document) o) old mid
    first = wider_within IsLimitEntry (λ e says. inl says) (within IsLimitEntry checked)

    -- then the response keys are checked, or the limit is reported
    pub keys_checked : {T E : Type 0} (r : Result T E) → IsTrue complete →
        ChecksList r (HasOneResponseKey schema (fragments_of document) o.value.value.selection_set) (RootRuleReport schema (fragments_of document) o) mid new →
        ChecksListWithin IsLimitEntry r (OperationRootHolds schema document o.value.value) (RootEntryReport schema (fragments_of document) o) old new
    keys_checked r done keys =
        let Roots = All (λ (s : Bor Selection). RootSelectionHolds s.now) xs in
        let One = HasOneResponseKey schema (fragments_of document) o.value.value.selection_set in
        let Q = RootEntryReport schema (fragments_of document) o in
        let both = checks_after_within IsLimitEntry r Roots One Q old mid new first
        (checks_within IsLimitEntry r One (RootRuleReport schema (fragments_of document) o) Q mid new (λ e says. inl says) keys) in
        let same : (Roots × One) ↔ OperationRootHolds schema document o.value.value = (
          λ p is. all_hold done p.0 p.1,
          λ holds. (listed_hold (holds is_one), (holds is_one).one_response_key),
        ) in
        checks_words_within IsLimitEntry r (Roots × One) (OperationRootHolds schema document o.value.value) Q Q old new
        (holds_on_ok r ((Roots × One) ↔ OperationRootHolds schema document o.value.value) same) (λ e q. q) both

    pub bound_reported : {T E : Type 0} (r : Result T E) → IsFalse complete →
        OnOk r (new ≡ mid ++ record { location = None; details = details.Diagnostic report.RecursionError } ∷ []) → OnErr r (new ≡ mid) →
        ChecksListWithin IsLimitEntry r (OperationRootHolds schema document o.value.value) (RootEntryReport schema (fragments_of document) o) old new
    bound_reported r cut ok err =
        let Roots = All (λ (s : Bor Selection). RootSelectionHolds s.now) xs in
        let Holds = OperationRootHolds schema document o.value.value in
        let Q = RootEntryReport schema (fragments_of document) o in
        let both = checks_after_within IsLimitEntry r Roots Holds Q old mid new first
        (checks_limit IsLimitEntry r Holds Q mid new _ ok err limit_of_walk (inr (subscription_walk_passes is_one (h.bound cut)))) in
        let same : (Roots × Holds) ↔ Holds = (λ p. p.1, λ holds. (listed_hold (holds is_one), holds)) in
        checks_words_within IsLimitEntry r (Roots × Holds) Holds Q Q old new (holds_on_ok r ((Roots × Holds) ↔ Holds) same) (λ e q. q) both

-- the keys of the fields that were collected at the root
module _ (schema : Schema) (document : ExecutableDocument) (o : Node Operation) (fields : List FieldSelection)
    (walk : CollectsFrom schema (fragments_of document) o.value.value.selection_set.ty [] (o.value.value.selection_set ∷ []) fields) (names : List NameText) (named : names ≡ keys_of fields) where
  number_is : length names ≡ length (keys_of fields)
  number_is = ap (λ (l : List NameText). length l) named

  pub few_keys : length names ≤ 1 → HasOneResponseKey schema (fragments_of document) o.value.value.selection_set
  few_keys few = (one_key_collected schema document o.value.value.selection_set fields walk).0 (omega (arith, few, number_is))

  pub several_keys : 1 < length names → ¬ HasOneResponseKey schema (fragments_of document) o.value.value.selection_set
  several_keys many one = let few = (one_key_collected schema document o.value.value.selection_set fields walk).1 one in omega (arith, few, many, number_is)

  pub says_several : (list : Vec NameText Global) (name : Option NameText) → list.items ≡ names → o.value.value.operation_type ≡ Subscription → 1 < length names → name ≡ o.value.value.name →
      SubscriptionRootReport schema (fragments_of document) o (details.Build (build.SubscriptionUsesMultipleFields name list)) o.location
  says_several list name items is_one many named_so =
      of_response_keys is_one (record {
        collected = fields;
        several = several_keys many;
        walk = walk;
        name_is = named_so;
        keys_are = items ∙ named;
        at_is = refl;
      })

-- a diagnostic of a subscription is a true one
pub says : (schema : Schema) (fragments : Fragments) (o : Node Operation) (e : DiagnosticEntry) → RootRuleReport schema fragments o e → RootEntryReport schema fragments o e
says schema fragments o e said = inl said
