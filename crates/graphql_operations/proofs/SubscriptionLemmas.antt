-- What is said of a subscription: at one of its root selections, and of the number of its root fields.
use Rattle.std.proofs.Common.{◌≡◌, ◌↔◌, ◌+◌, ◌<◌, ◌≤◌, ◌||◌, ◌++◌, ℕ, Bool, true, false, cond, Bor, List, [], ◌∷◌, Option, Some, None, IsTrue, IsFalse, All, Contains, refl, sym, ◌∙◌, ap, subst, find, get_or, length, map, take, arith}
use Rattle.std.specs.List.{cons_option, list_any}
use Rattle.std.proofs.lemmas.List.{append-nil, length-map, map-append}
use Rattle.std.proofs.lemmas.List.Elements.{All-contains, All-weaker, Contains-get_or, filter_map-append}
use Rattle.std.specs.Prelude.{Vec, Result, OnErr, OnOk}
use Rattle.std.specs.declared.alloc.Global.{Global}
use mathlib.Core.Logic.{inl, inr}
use Rattle.graphql_nodes.specs.Names.{NameText}
use Rattle.graphql_documents.specs.Selections.{Fragments, InExpandedSet, directives_of, fragments_of, selections_of, field_of, fields_among}
use Rattle.graphql_specification.specs.Subscriptions.{SubscriptionReport, of_subscription, HasOneRootField, SubscriptionHolds, WalkedFields, is_conditional, is_introspection, OperationSubscriptionHolds, subscription_walk_passes}
use Rattle.graphql_documents.specs.Walks.{HasListed, PassesDepth, root_walk}
use Rattle.graphql_diagnostics.specs.Diagnostics.{IsLimitEntry, limit_of_walk}
use Rattle.graphql_diagnostics.specs.Reports.{Reports, ReportsWithin}
use Rattle.graphql_diagnostics.specs.declared.data.DiagnosticData.TheVariants as report
use Rattle.graphql_diagnostics.specs.declared.lists.DiagnosticEntry.{DiagnosticEntry}
use Rattle.graphql_diagnostics.specs.declared.build_errors.BuildError.TheVariants as build
use Rattle.graphql_diagnostics.specs.declared.details.Details.TheVariants as details
use Rattle.graphql_nodes.specs.declared.operation_types.OperationType.TheVariants.{Subscription}
use Rattle.graphql_documents.specs.declared.documents.directives.Directive.{Directive}
use Rattle.graphql_documents.specs.declared.documents.executables.ExecutableDocument.{ExecutableDocument}
use Rattle.graphql_documents.specs.declared.documents.executables.Field.{Field}
use Rattle.graphql_documents.specs.declared.documents.executables.Operation.{Operation}
use Rattle.graphql_documents.specs.declared.documents.executables.Selection.TheVariants as kind
use Rattle.graphql_documents.specs.declared.documents.executables.Selection.{Selection}
use Rattle.graphql_nodes.specs.declared.nodes.Node.{Node}
use Rattle.graphql_diagnostics.proofs.ReportLemmas.{ChecksList}
use Rattle.graphql_documents.proofs.ListLemmas.{more_is}
use Rattle.graphql_diagnostics.proofs.ReportWithinLemmas.{ChecksListWithin, checks_after_within, checks_limit, checks_within, checks_words_within, wider_within, within}
use Rattle.graphql_variables.proofs.FirstPlaceLemmas.{holds_on_ok}
use Rattle.graphql_variables.proofs.ReferenceLemmas.{all_referred}
use Rattle.graphql_documents.proofs.SelectionLemmas.{same_field}
use Rattle.graphql_laws.proofs.SubscriptionLaws.{walked_fields_decide}
use Rattle.graphql_operations.specs.Subscriptions.{IsNoIntrospection, IsUnconditional, RootSelectionHolds, SubscriptionRuleReport, SubscriptionEntryReport}

-- whether a test finds something
none_passes : {X : Type 0} (p : X → Bool) (xs : List X) → find p xs ≡ None → list_any p xs ≡ false
none_passes p [] e = refl
none_passes {X} p (x ∷ xs) e = by (p x) e (none_passes p xs) where
  by : (b : Bool) → cond b (Some x) (find p xs) ≡ None → (find p xs ≡ None → list_any p xs ≡ false) → b || list_any p xs ≡ false
  by true e h = absurd (let no : ⊥ = cc in no)
  by false e h = h e

one_passes : {X : Type 0} (p : X → Bool) (xs : List X) (x : X) → find p xs ≡ Some x → list_any p xs ≡ true
one_passes p [] x e = absurd (let no : ⊥ = cc in no)
one_passes {X} p (y ∷ ys) x e = by (p y) e (one_passes p ys x) where
  by : (b : Bool) → cond b (Some y) (find p ys) ≡ Some x → (find p ys ≡ Some x → list_any p ys ≡ true) → b || list_any p ys ≡ true
  by true e h = refl
  by false e h = h e

true_and_false : (b : Bool) → b ≡ true → b ≡ false → ⊥
true_and_false b t f = let no : ⊥ = cc in no

-- a selection without a condition, and one with a first
pub unconditional : (s : Selection) → find (λ d. is_conditional d.value.value.name) (directives_of s) ≡ None → IsUnconditional s
unconditional s e = none_passes (λ (d : Node Directive). is_conditional d.value.value.name) (directives_of s) e

pub conditional : (s : Selection) (d : Node Directive) → find (λ d. is_conditional d.value.value.name) (directives_of s) ≡ Some d → ¬ IsUnconditional s
conditional s d e f = true_and_false _ (one_passes (λ (d : Node Directive). is_conditional d.value.value.name) (directives_of s) d e) f

-- a field of introspection
pub introspects : (s : Selection) (f : Node Field) → s ≡ kind.Field f → IsTrue (is_introspection f.value.value.name) → ¬ IsNoIntrospection s
introspects s f is introspection none = true_and_false _ introspection (none f is)

-- a selection that is another field, or no field
pub no_introspection : (s : Selection) (f : Node Field) → s ≡ kind.Field f → IsFalse (is_introspection f.value.value.name) → IsNoIntrospection s
no_introspection s f is other g is' = subst (λ (h : Node Field). IsFalse (is_introspection h.value.value.name)) (same_field g f (sym is ∙ is')) other

-- the diagnostics at a root selection
module _ (fragments : Fragments) (o : Node Operation) (s : Selection) (is_one : o.value.value.operation_type ≡ Subscription) (inside : InExpandedSet fragments o.value.value.selection_set s) where
  pub says_introspection : (f : Node Field) (name : Option NameText) (field : NameText) → s ≡ kind.Field f → IsTrue (is_introspection f.value.value.name) →
      name ≡ o.value.value.name → field ≡ f.value.value.name →
      SubscriptionReport fragments o (details.Build (build.SubscriptionUsesIntrospection name field)) f.location
  says_introspection f name field is introspection named field_is =
      of_subscription is_one (record {
        f = f;
        inside = subst (InExpandedSet fragments o.value.value.selection_set) is inside;
        introspects = introspection;
        name_is = named;
        field_is = field_is;
        at_is = refl;
      })

  pub says_condition : (d : Node Directive) (name : Option NameText) → find (λ d. is_conditional d.value.value.name) (directives_of s) ≡ Some d →
      name ≡ o.value.value.name → SubscriptionReport fragments o (details.Build (build.SubscriptionUsesConditionalSelection name)) d.location
  says_condition d name first named =
      of_subscription is_one (record { s = s; d = d; inside = inside; first_is = first; name_is = named; at_is = refl })

-- the fields among references, one more
pub fields_more : (xs : List (Bor Selection)) (i : ℕ) (x : Bor Selection) → i < length xs → x ≡ get_or xs i x →
    fields_among (map (λ s. s.now) (take (i + 1) xs)) ≡ fields_among (map (λ s. s.now) (take i xs)) ++ cons_option (field_of x.now) []
fields_more xs i x within is =
    ap (λ (l : List (Bor Selection)). fields_among (map (λ s. s.now) l)) (more_is xs i x within is) ∙
    ap fields_among (map-append (λ (s : Bor Selection). s.now) (take i xs) (x ∷ [])) ∙
    filter_map-append field_of (map (λ (s : Bor Selection). s.now) (take i xs)) (x.now ∷ [])

-- what the walk over the root of a subscription has listed
module _ (document : ExecutableDocument) (o : Node Operation) (xs : List (Bor Selection)) (complete : Bool)
    (h : HasListed (InExpandedSet (fragments_of document) o.value.value.selection_set) (PassesDepth (fragments_of document) root_walk o.value.value.selection_set) (map (λ s. s.now) xs) complete) where
  -- each is a root selection
  pub each_inside : All (λ (s : Bor Selection). InExpandedSet (fragments_of document) o.value.value.selection_set s.now) xs
  each_inside = (all_referred (InExpandedSet (fragments_of document) o.value.value.selection_set) xs).1 h.each

  -- they were checked, at hand in another list
  pub roots_checked : (ys : List (Bor Selection)) → ys ≡ xs → (old new : List DiagnosticEntry) →
      (All (λ s. InExpandedSet (fragments_of document) o.value.value.selection_set s.now) ys →
      Reports (All (λ s. RootSelectionHolds s.now) ys) (SubscriptionRuleReport (fragments_of document) o) old new) →
      Reports (All (λ s. RootSelectionHolds s.now) xs) (SubscriptionRuleReport (fragments_of document) o) old new
  roots_checked ys same old new checked =
      subst (λ (l : List (Bor Selection)). Reports (All (λ s. RootSelectionHolds s.now) l) (SubscriptionRuleReport (fragments_of document) o) old new) same
      (checked (subst (λ (l : List (Bor Selection)). All (λ s. InExpandedSet (fragments_of document) o.value.value.selection_set s.now) l) (sym same) each_inside))

  -- they hold where the subscription does
  listed_hold : SubscriptionHolds (fragments_of document) o.value.value.selection_set → All (λ (s : Bor Selection). RootSelectionHolds s.now) xs
  listed_hold holds =
      All-weaker (λ (s : Bor Selection). InExpandedSet (fragments_of document) o.value.value.selection_set s.now) (λ (s : Bor Selection). RootSelectionHolds s.now)
      (λ s inside. (
        λ f is. holds.no_introspection f (subst (InExpandedSet (fragments_of document) o.value.value.selection_set) is inside),
        holds.no_condition s.now inside,
      ))
      xs each_inside

  -- where they are all, and one of them at most is a field, the subscription holds
  all_hold : IsTrue complete → All (λ (s : Bor Selection). RootSelectionHolds s.now) xs → HasOneRootField (fragments_of document) o.value.value.selection_set →
      SubscriptionHolds (fragments_of document) o.value.value.selection_set
  all_hold done all one =
      let at : All RootSelectionHolds (map (λ (s : Bor Selection). s.now) xs) = (all_referred RootSelectionHolds xs).0 all in
      record {
        no_introspection = λ f inside. (All-contains RootSelectionHolds _ (kind.Field f) at (h.all done (kind.Field f) inside)).0 f refl;
        no_condition = λ s inside. (All-contains RootSelectionHolds _ s at (h.all done s inside)).1;
        one_field = one;
      }

  module _ (is_one : o.value.value.operation_type ≡ Subscription) (old mid new : List DiagnosticEntry)
      (checked : Reports (All (λ s. RootSelectionHolds s.now) xs) (SubscriptionRuleReport (fragments_of document) o) old mid) where
    first : ReportsWithin IsLimitEntry (All (λ s. RootSelectionHolds s.now) xs) (SubscriptionEntryReport (fragments_of document) o) old mid
    first = wider_within IsLimitEntry (λ e says. inl says) (within IsLimitEntry checked)

    -- then the number of the fields is checked, or the limit is reported
    pub number_checked : {T E : Type 0} (r : Result T E) → IsTrue complete →
        ChecksList r (HasOneRootField (fragments_of document) o.value.value.selection_set) (SubscriptionRuleReport (fragments_of document) o) mid new →
        ChecksListWithin IsLimitEntry r (OperationSubscriptionHolds document o.value.value) (SubscriptionEntryReport (fragments_of document) o) old new
    number_checked r done number =
        let Roots = All (λ (s : Bor Selection). RootSelectionHolds s.now) xs in
        let One = HasOneRootField (fragments_of document) o.value.value.selection_set in
        let Q = SubscriptionEntryReport (fragments_of document) o in
        let both = checks_after_within IsLimitEntry r Roots One Q old mid new first
        (checks_within IsLimitEntry r One (SubscriptionRuleReport (fragments_of document) o) Q mid new (λ e says. inl says) number) in
        let same : (Roots × One) ↔ OperationSubscriptionHolds document o.value.value = (
          λ p is. all_hold done p.0 p.1,
          λ holds. (listed_hold (holds is_one), (holds is_one).one_field),
        ) in
        checks_words_within IsLimitEntry r (Roots × One) (OperationSubscriptionHolds document o.value.value) Q Q old new
        (holds_on_ok r ((Roots × One) ↔ OperationSubscriptionHolds document o.value.value) same) (λ e q. q) both

    pub bound_reported : {T E : Type 0} (r : Result T E) → IsFalse complete →
        OnOk r (new ≡ mid ++ record { location = None; details = details.Diagnostic report.RecursionError } ∷ []) → OnErr r (new ≡ mid) →
        ChecksListWithin IsLimitEntry r (OperationSubscriptionHolds document o.value.value) (SubscriptionEntryReport (fragments_of document) o) old new
    bound_reported r cut ok err =
        let Roots = All (λ (s : Bor Selection). RootSelectionHolds s.now) xs in
        let Holds = OperationSubscriptionHolds document o.value.value in
        let Q = SubscriptionEntryReport (fragments_of document) o in
        let both = checks_after_within IsLimitEntry r Roots Holds Q old mid new first
        (checks_limit IsLimitEntry r Holds Q mid new _ ok err limit_of_walk (inr (subscription_walk_passes is_one (h.bound cut)))) in
        let same : (Roots × Holds) ↔ Holds = (λ p. p.1, λ holds. (listed_hold (holds is_one), holds)) in
        checks_words_within IsLimitEntry r (Roots × Holds) Holds Q Q old new (holds_on_ok r ((Roots × Holds) ↔ Holds) same) (λ e q. q) both

-- the number of the fields that a walk over the root visited
module _ (document : ExecutableDocument) (o : Node Operation) (fields : List (Node Field)) (visited : List NameText)
    (walk : WalkedFields (fragments_of document) [] (selections_of o.value.value.selection_set) fields visited) (names : List NameText) (named : names ≡ map (λ f. f.value.value.name) fields) where
  number_is : length names ≡ length fields
  number_is = ap (λ (l : List NameText). length l) named ∙ length-map fields (λ (f : Node Field). f.value.value.name)

  pub few_fields : length names ≤ 1 → HasOneRootField (fragments_of document) o.value.value.selection_set
  few_fields few = (walked_fields_decide document o.value.value.selection_set fields visited walk).0 (omega (arith, few, number_is))

  pub several_fields : 1 < length names → ¬ HasOneRootField (fragments_of document) o.value.value.selection_set
  several_fields many one = let few = (walked_fields_decide document o.value.value.selection_set fields visited walk).1 one in omega (arith, few, many, number_is)

  pub says_several : (list : Vec NameText Global) (name : Option NameText) → list.items ≡ names → o.value.value.operation_type ≡ Subscription → 1 < length names → name ≡ o.value.value.name →
      SubscriptionReport (fragments_of document) o (details.Build (build.SubscriptionUsesMultipleFields name list)) o.location
  says_several list name items is_one many named_so =
      of_subscription is_one (record {
        walked = fields;
        visited = visited;
        several = several_fields many;
        walk = walk;
        name_is = named_so;
        fields_are = items ∙ named;
        at_is = refl;
      })

-- what holds of each reference holds of the next
pub each_next : {X : Type 0} (P : Bor X → Type 0) (xs : List (Bor X)) (i : ℕ) (x : Bor X) → i < length xs → x ≡ get_or xs i x → All P xs → P x
each_next P xs i x within is all = All-contains P xs x all (subst (Contains xs) (sym is) (Contains-get_or xs i x within))

-- the names of the fields among references: one more, or no more
module _ (xs : List (Bor Selection)) (i : ℕ) (x : Bor Selection) (within : i < length xs) (is : x ≡ get_or xs i x) where
  pub names_more : (f : Node Field) → Some f ≡ field_of x.now → (names new : List NameText) (name : NameText) →
      names ≡ map (λ f. f.value.value.name) (fields_among (map (λ s. s.now) (take i xs))) → new ≡ names ++ name ∷ [] → name ≡ f.value.value.name →
      new ≡ map (λ f. f.value.value.name) (fields_among (map (λ s. s.now) (take (i + 1) xs)))
  names_more f field names new name before pushed named =
      let N = λ (f : Node Field). f.value.value.name in
      let here : fields_among (map (λ (s : Bor Selection). s.now) (take (i + 1) xs)) ≡ fields_among (map (λ (s : Bor Selection). s.now) (take i xs)) ++ f ∷ [] =
      fields_more xs i x within is ∙ ap (λ o. fields_among (map (λ (s : Bor Selection). s.now) (take i xs)) ++ cons_option o []) (sym field) in
      pushed ∙ ap (λ l. l ++ name ∷ []) before ∙ ap (λ n. map N (fields_among (map (λ (s : Bor Selection). s.now) (take i xs))) ++ n ∷ []) named ∙
      sym (ap (map N) here ∙ map-append N (fields_among (map (λ (s : Bor Selection). s.now) (take i xs))) (f ∷ []))

  pub names_same : field_of x.now ≡ None → (names new : List NameText) →
      names ≡ map (λ f. f.value.value.name) (fields_among (map (λ s. s.now) (take i xs))) → new ≡ names →
      new ≡ map (λ f. f.value.value.name) (fields_among (map (λ s. s.now) (take (i + 1) xs)))
  names_same other names new before same =
      let old = fields_among (map (λ (s : Bor Selection). s.now) (take i xs)) in
      same ∙ before ∙ ap (map (λ (f : Node Field). f.value.value.name))
      (sym (fields_more xs i x within is ∙ ap (λ o. old ++ cons_option o []) other ∙ append-nil old))

-- a diagnostic of a subscription is a true one
pub says : (fragments : Fragments) (o : Node Operation) (e : DiagnosticEntry) → SubscriptionRuleReport fragments o e → SubscriptionEntryReport fragments o e
says fragments o e said = inl said
