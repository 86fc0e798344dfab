-- What the rules of `@defer` say of one operation, and what their reports and limits say of it.
use Rattle.std.proofs.Common.{ℕ, ◌<◌, length, get_or, ◌≡◌, ◌↔◌, ◌⊎◌, inl, inr, Bool, true, false, List, [], ◌∷◌, ◌++◌, map, refl, sym, ◌∙◌, ap, subst, All, Contains, IsTrue}
use Rattle.std.specs.Prelude.{◌≢◌, Err, Ok, OnErr, OnOk, Option, Result, filter}
use Rattle.std.specs.Borrow.{Bor}
use Rattle.std.proofs.lemmas.List.Elements.{All-append, All-cons, All-contains, All-filter, All-head, All-nil, filter_passes}
use Rattle.graphql_specification.specs.Defer.{DefersCanBeDisabled, HasNoDeferAtRoot, OperationDeferHolds, defers, DeferReport, of_defer, DeferLimit, condition_walk_passes, defer_root_walk_passes}
use Rattle.graphql_documents.specs.Executables.{operations_of}
use Rattle.graphql_documents.specs.Selections.{Fragments, InExpandedSet, directives_of, fragments_of}
use Rattle.graphql_documents.specs.Walks.{HasListed}
use Rattle.graphql_diagnostics.specs.declared.details.Details.{Details}
use Rattle.graphql_diagnostics.specs.declared.lists.DiagnosticEntry.{DiagnosticEntry}
use Rattle.graphql_nodes.specs.declared.operation_types.OperationType.TheVariants as operation_type
use Rattle.graphql_nodes.specs.declared.operation_types.OperationType.{OperationType}
use Rattle.graphql_documents.specs.declared.documents.directives.Directive.{Directive}
use Rattle.graphql_documents.specs.declared.documents.executables.ExecutableDocument.{ExecutableDocument}
use Rattle.graphql_documents.specs.declared.documents.executables.Field.{Field}
use Rattle.graphql_documents.specs.declared.documents.executables.FragmentSpread.{FragmentSpread}
use Rattle.graphql_documents.specs.declared.documents.executables.InlineFragment.{InlineFragment}
use Rattle.graphql_documents.specs.declared.documents.executables.Operation.{Operation}
use Rattle.graphql_documents.specs.declared.documents.executables.Selection.TheOpen as layer
use Rattle.graphql_documents.specs.declared.documents.executables.Selection.TheVariants as kind
use Rattle.graphql_documents.specs.declared.documents.executables.Selection.{Selection}
use Rattle.graphql_documents.specs.declared.documents.executables.SelectionSet.{SelectionSet}
use Rattle.graphql_nodes.specs.declared.nodes.Node.{Node}
use Rattle.graphql_nodes.specs.declared.spans.SourceSpan.{SourceSpan}
use Rattle.graphql_documents.proofs.ListLemmas.{All-append_right, each_standing, kept_by_filter, stands_mapped}
use Rattle.graphql_diagnostics.specs.Reports.{KeepsReports}
use Rattle.graphql_diagnostics.proofs.ReportLemmas.{appended_then}
use Rattle.graphql_diagnostics.proofs.ReportWithinLemmas.{ChecksListWithin}
use Rattle.graphql_laws.proofs.SizeLemmas.{Kind, is_field, is_inline, is_spread, kind_of}
use Rattle.graphql_variables.proofs.ReferenceLemmas.{all_referred}
use Rattle.graphql_operations.specs.OperationDefers.{SelectionsDeferReport, HoldsAt, IsVisited, Meets, MeetsIfDeferred, OperationDeferLimit, OperationDeferReport, DeferRuleReport, RuleHolds, RuleLimit, is_defer, is_fixed, is_no_field, open_walk_passes, root_walk_passes, stands_at_root}
use Rattle.graphql_operations.specs.declared.defer.rules.DeferRule.TheVariants as rule
use Rattle.graphql_operations.specs.declared.defer.rules.DeferRule.{DeferRule}

-- what holds of all that pass a test holds of all that a filter keeps
passing : {X : Type 0} (p : X → Bool) (P : X → Type 0) (xs : List X) → All (λ x. IsTrue (p x) → P x) xs ↔ All P (filter p xs)
passing p P xs = (
  λ all. each_standing P (filter p xs)
      (λ x in'. All-contains (λ y. IsTrue (p y) → P y) (filter p xs) x (All-filter p (λ y. IsTrue (p y) → P y) xs all) in'
      (All-contains (λ y. p y ≡ true) (filter p xs) x (filter_passes p xs) in')),
  λ all. each_standing (λ x. IsTrue (p x) → P x) xs (λ x in' is. All-contains P (filter p xs) x all (kept_by_filter p xs x in' is)),
)

-- an element is where it is found
pub item_stands : {X : Type 0} (xs : List X) (i : ℕ) (x : X) → i < length xs → x ≡ get_or xs i x → Contains xs x
item_stands xs i x within is = (i, within, sym is)

pub not_false : (b : Bool) → IsTrue b → b ≡ false → ⊥
not_false b is is_not = let no : ⊥ = cc in no

-- a check that ends by pushing a diagnostic of a limit behind its others
pub checks_to_limit : {Entry T E : Type 0} (IsOfLimit : Entry → Type 0) (r : Result T E) (P : Type 0) (Q : Entry → Type 0) (old mid new : List Entry) (e : Entry) →
    KeepsReports Q old mid → OnOk r (new ≡ mid ++ e ∷ []) → OnErr r (new ≡ mid) → IsOfLimit e → Q e → ChecksListWithin IsOfLimit r P Q old new
checks_to_limit IsOfLimit (Ok x) P Q old mid new e k ok err limit q = record {
  added = k.added ++ e ∷ [];
  appended = appended_then old mid new k.added (e ∷ []) k.appended ok;
  silent = λ none. absurd (All-head (λ y. ¬ IsOfLimit y) e [] (All-append_right (λ y. ¬ IsOfLimit y) k.added (e ∷ []) none) limit);
  each = All-append Q k.added (e ∷ []) k.each (All-cons Q e [] q (All-nil Q));
}
checks_to_limit IsOfLimit (Err x) P Q old mid new e k ok err limit q = subst (KeepsReports Q old) (sym err) k

pub answered : {T E : Type 0} (r : Result T E) {P : Type 0} → P → OnOk r P
answered (Ok x) p = p
answered (Err x) p = tt

-- the directives that are `@defer` meet a rule
pub all_deferred : (r : DeferRule) (directives : List (Node Directive)) → All (MeetsIfDeferred r) directives ↔ All (Meets r) (defers directives)
all_deferred r directives = passing is_defer (Meets r) directives

-- nothing is true of none, and only of none
none_at_all : {X : Type 0} (xs : List X) → All (λ x. ⊥) xs ↔ (xs ≡ [])
none_at_all [] = (λ all. refl, λ is. All-nil (λ x. ⊥))
none_at_all (x ∷ xs) = (λ all. absurd (All-head (λ x. ⊥) x xs all), λ (is : x ∷ xs ≡ []). absurd (let no : ⊥ = cc in no))

-- the directives of each kind of selection, and whether it is a field
abbrev directives_in : layer.Selection-F Selection Field InlineFragment SelectionSet → List (Node Directive)
directives_in o = elim o [
  | layer.Field f ↦ f.value.value.directives.items
  | layer.FragmentSpread p ↦ p.value.value.directives.items
  | layer.InlineFragment i ↦ i.value.value.directives.items
]

abbrev no_field_in : layer.Selection-F Selection Field InlineFragment SelectionSet → Bool
no_field_in o = elim o [
  | layer.Field f ↦ false
  | layer.FragmentSpread p ↦ true
  | layer.InlineFragment i ↦ true
]

inline_directives : (i : Node InlineFragment) → directives_of (kind.InlineFragment i) ≡ i.value.value.directives.items
inline_directives i = ap directives_in (kind.outs-InlineFragment i)

spread_directives : (p : Node FragmentSpread) → directives_of (kind.FragmentSpread p) ≡ p.value.value.directives.items
spread_directives p = ap directives_in (kind.outs-FragmentSpread p)

inline_no_field : (i : Node InlineFragment) → IsTrue (is_no_field (kind.InlineFragment i))
inline_no_field i = ap no_field_in (kind.outs-InlineFragment i)

spread_no_field : (p : Node FragmentSpread) → IsTrue (is_no_field (kind.FragmentSpread p))
spread_no_field p = ap no_field_in (kind.outs-FragmentSpread p)

field_no_more : (f : Node Field) → ¬ IsTrue (is_no_field (kind.Field f))
field_no_more f is = let no : false ≡ true = sym (ap no_field_in (kind.outs-Field f)) ∙ is in let none : ⊥ = cc in none

not_field : (s : Selection) → IsTrue (is_no_field s) → (f : Node Field) → s ≢ kind.Field f
not_field s is f e = field_no_more f (subst (λ t. IsTrue (is_no_field t)) e is)

-- the rules in their own words
module _ (fragments : Fragments) (set : SelectionSet) (t : OperationType) where
  holds_at : HasNoDeferAtRoot fragments set → {s : Selection} → Kind s → InExpandedSet fragments set s → HoldsAt (rule.NotAtRoot t) s
  holds_at holds (is_field f) inside concerned = absurd (field_no_more f concerned)
  holds_at holds (is_spread p) inside concerned =
      subst (λ l. All (Meets (rule.NotAtRoot t)) (defers l)) (sym (spread_directives p)) ((none_at_all (defers p.value.value.directives.items)).1 (holds.1 p inside))
  holds_at holds (is_inline i) inside concerned =
      subst (λ l. All (Meets (rule.NotAtRoot t)) (defers l)) (sym (inline_directives i)) ((none_at_all (defers i.value.value.directives.items)).1 (holds.0 i inside))

  root_rule : RuleHolds (rule.NotAtRoot t) fragments set ↔ HasNoDeferAtRoot fragments set
  root_rule = (
    λ all. (
      λ i inside. (none_at_all (defers i.value.value.directives.items)).0
          (subst (λ l. All (Meets (rule.NotAtRoot t)) (defers l)) (inline_directives i) (all (kind.InlineFragment i) inside (inline_no_field i))),
      λ p inside. (none_at_all (defers p.value.value.directives.items)).0
          (subst (λ l. All (Meets (rule.NotAtRoot t)) (defers l)) (spread_directives p) (all (kind.FragmentSpread p) inside (spread_no_field p))),
    ),
    λ holds s inside. holds_at holds (kind_of s) inside,
  )

  pub root_rule_where : t ≢ operation_type.Query → RuleHolds (rule.NotAtRoot t) fragments set ↔ (t ≢ operation_type.Query → HasNoDeferAtRoot fragments set)
  root_rule_where other = (λ all asked. root_rule.0 all, λ holds. root_rule.1 (holds other))

  pub condition_rule_where : t ≡ operation_type.Subscription →
      RuleHolds rule.CanBeDisabled fragments set ↔ (t ≡ operation_type.Subscription → DefersCanBeDisabled fragments set)
  condition_rule_where is = (λ all asked s visited. all s visited refl, λ holds s visited concerned. holds is s visited)

pub no_query : (t : OperationType) → (t ≡ operation_type.Mutation) ⊎ (t ≡ operation_type.Subscription) → t ≢ operation_type.Query
no_query t (inl is) other = let no : operation_type.Mutation ≡ operation_type.Query = sym is ∙ other in let none : ⊥ = cc in none
no_query t (inr is) other = let no : operation_type.Subscription ≡ operation_type.Query = sym is ∙ other in let none : ⊥ = cc in none

-- both rules
pub operation_holds : (fragments : Fragments) (o : Operation) →
    ((o.operation_type ≢ operation_type.Query → HasNoDeferAtRoot fragments o.selection_set) ×
    (o.operation_type ≡ operation_type.Subscription → DefersCanBeDisabled fragments o.selection_set)) ↔ OperationDeferHolds fragments o
operation_holds fragments o = (λ p. record { root = p.0; conditions = p.1 }, λ h. (h.root, h.conditions))

-- a walk over what a rule is asked of decides it, and what is reported there is true
module _ (r : DeferRule) (fragments : Fragments) (set : SelectionSet) {Passes : Type 0} {complete : Bool} (xs : List (Bor Selection))
    (h : HasListed (IsVisited r fragments set) Passes (map (λ s. s.now) xs) complete) where
  pub rule_decided : IsTrue complete → All (λ s. HoldsAt r s.now) xs ↔ RuleHolds r fragments set
  rule_decided done = (
    λ all s visited. All-contains (HoldsAt r) (map (λ b. b.now) xs) s ((all_referred (HoldsAt r) xs).0 all) (h.all done s visited),
    λ holds. (all_referred (HoldsAt r) xs).1
        (each_standing (HoldsAt r) (map (λ b. b.now) xs) (λ s in'. holds s (All-contains (IsVisited r fragments set) (map (λ b. b.now) xs) s h.each in'))),
  )

  pub rule_broken : (e : DiagnosticEntry) → SelectionsDeferReport r xs e → DeferRuleReport r fragments set e
  rule_broken e b =
      (b.0.now, All-contains (IsVisited r fragments set) (map (λ b. b.now) xs) b.0.now h.each (stands_mapped (λ (b : Bor Selection). b.now) xs b.0 b.1), b.2)

-- the diagnostics and limits of the rules, as those of an operation
module _ (fragments : Fragments) (o : Operation) (e : DiagnosticEntry) where
  abbrev CheckedEntryReport : Type 0
  CheckedEntryReport = OperationDeferReport fragments o e.details e.location ⊎ OperationDeferLimit fragments o e.details e.location

  pub root_said : o.operation_type ≢ operation_type.Query →
      DeferRuleReport (rule.NotAtRoot o.operation_type) fragments o.selection_set e ⊎ RuleLimit (rule.NotAtRoot o.operation_type) fragments o.selection_set e → CheckedEntryReport
  root_said other (inl b) =
      let breaks = b.2.1 in
      inl (rw (breaks.details_are, breaks.at_is) (stands_at_root (record {
        s = b.0;
        d = breaks.d;
        not_query = other;
        inside = b.1;
        no_field = not_field b.0 b.2.0;
        deferred = breaks.deferred;
        type_is = refl;
        at_is = refl;
      })))
  root_said other (inr l) = inr (rw (l.details_are, l.at_is) (root_walk_passes other l.passes))

  pub condition_said : o.operation_type ≡ operation_type.Subscription →
      DeferRuleReport rule.CanBeDisabled fragments o.selection_set e ⊎ RuleLimit rule.CanBeDisabled fragments o.selection_set e → CheckedEntryReport
  condition_said is (inl b) =
      let breaks = b.2.1 in
      inl (rw (breaks.details_are, breaks.at_is) (is_fixed (record {
        s = b.0;
        d = breaks.d;
        is_subscription = is;
        is_open = b.1;
        deferred = breaks.deferred;
        fixed = breaks.breaks;
        at_is = refl;
      })))
  condition_said is (inr l) = inr (rw (l.details_are, l.at_is) (open_walk_passes is l.passes))

-- the diagnostics and limits of an operation, as those of its document
module _ (document : ExecutableDocument) (o : Node Operation) (in' : Contains (operations_of document) o) where
  of_the_report : {said : Details} {at : Option SourceSpan} → OperationDeferReport (fragments_of document) o.value.value said at → DeferReport document said at
  of_the_report (stands_at_root h) = of_defer (o, in', h)
  of_the_report (is_fixed h) = of_defer (o, in', h)

  of_the_limit : {said : Details} {at : Option SourceSpan} → OperationDeferLimit (fragments_of document) o.value.value said at → DeferLimit document said at
  of_the_limit (root_walk_passes other p) = defer_root_walk_passes in' other p
  of_the_limit (open_walk_passes is p) = condition_walk_passes in' is p

  pub of_an_operations_defer : (e : DiagnosticEntry) → CheckedEntryReport (fragments_of document) o.value.value e →
      DeferReport document e.details e.location ⊎ DeferLimit document e.details e.location
  of_an_operations_defer e (inl r) = inl (of_the_report r)
  of_an_operations_defer e (inr l) = inr (of_the_limit l)
