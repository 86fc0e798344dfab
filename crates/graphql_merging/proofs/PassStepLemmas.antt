-- The facts that the code of a pass has at each step, in the words of passes.
use Rattle.std.proofs.Common.{rules, ◌≡◌, ◌↔◌, ℕ, ◌<◌, ◌≤◌, ◌+◌, ◌-◌, List, [], ◌∷◌, arith, get_or, length, map, take, refl, sym, ◌∙◌, ap, subst, All, Contains}
use Rattle.std.proofs.lemmas.List.{append-nil, map-append, nil_from_length}
use Rattle.std.proofs.lemmas.List.Elements.{All-contains, filter-append}
use Rattle.std.specs.Prelude.{filter, is_some, not, slice_get, ◌++◌, Bool, true, false, ◌==◌, ◌≢◌, Vec, IsTrue, IsFalse, if◌then◌else◌, max, sum_by}
use Rattle.std.specs.List.{Any, list_any}
use Rattle.std.specs.Cmp.Lexicographic.{pointwise}
use Rattle.std.specs.Vec.{vec_len}
use Rattle.std.specs.declared.alloc.Global.{Global}
use Rattle.graphql_specification.specs.MergedSets.{Expansion, IsGroup, MergedSet, nested_sets, ExpansionIsSeen, comparisons_of, groups_of}
use Rattle.graphql_specification.specs.Merging.{Pass, field_pass, shape_pass}
use Rattle.graphql_specification.specs.Merging as merging
use Rattle.graphql_diagnostics.specs.Reports.{KeepsReports}
use Rattle.graphql_documents.specs.Selections.{Fragments, selections_of}
use Rattle.graphql_diagnostics.specs.declared.lists.DiagnosticEntry.{DiagnosticEntry}
use Rattle.graphql_documents.specs.declared.documents.executables.Operation.{Operation}
use Rattle.graphql_documents.specs.declared.documents.executables.Selection.{Selection}
use Rattle.graphql_documents.specs.declared.documents.executables.SelectionSet.{SelectionSet}
use Rattle.graphql_nodes.specs.declared.nodes.Node.{Node}
use Rattle.graphql_documents.specs.declared.documents.schemas.Schema.{Schema}
use Rattle.graphql_documents.proofs.ListLemmas.{each_standing, more_is, stands_mapped}
use Rattle.graphql_diagnostics.proofs.ReportLemmas.{kept_wider}
use Rattle.graphql_laws.proofs.OrderedGroupLaws.{comparisons_of_groups, groups_listed}
use Rattle.graphql_variables.proofs.UseLemmas.{any_has, has_any}
use Rattle.graphql_merging.specs.NumberedFields.{listed, lists_of, selection_of}
use Rattle.graphql_merging.proofs.NumberedFieldLemmas.{compared_with_any, same_selection}
use Rattle.graphql_merging.specs.Passes.{IsConflict, IsConflictAmong, IsNew, counted}
use Rattle.graphql_merging.specs.declared.numbered_fields.NumberedField.{NumberedField}

-- the groups of the code are those of its list
module _ (schema : Schema) (pass : Pass) (list : List merging.FieldSelection) (groups : List (Vec NumberedField Global))
    (are : lists_of groups ≡ groups_of schema pass list) where
  pub each_group : All (IsGroup schema list pass) (lists_of groups)
  each_group =
      subst (All (IsGroup schema list pass)) (sym are)
      (each_standing (IsGroup schema list pass) (groups_of schema pass list) (λ group stands. (groups_listed schema list pass group).0 stands))

  pub conflicts_true : (fragments : Fragments) (operations : List (Node Operation)) {old new : List DiagnosticEntry} →
      MergedSet schema fragments operations pass list → KeepsReports (IsConflictAmong schema pass (lists_of groups)) old new →
      KeepsReports (IsConflict schema fragments operations pass) old new
  conflicts_true fragments operations merged kept =
      kept_wider (λ e conflict. record { list = list; merged = merged; conflict = subst (λ g. IsConflictAmong schema pass g e) are conflict }) kept

-- each group of a list is among them
pub group_among : (P : List merging.FieldSelection → Type 0) (groups : List (Vec NumberedField Global)) (group : Vec NumberedField Global) →
    All P (lists_of groups) → Contains groups group → P (listed group.items)
group_among P groups group all stands =
    All-contains P (lists_of groups) (listed group.items) all (stands_mapped (λ g. listed g.items) groups group stands)

-- how often the groups of a list are compared
pub counted_groups : (schema : Schema) (pass : Pass) (list : List merging.FieldSelection) (n : ℕ) →
    counted pass n (sum_by (λ group. length group - 1) (groups_of schema pass list)) ≡ counted pass n (comparisons_of list)
counted_groups schema shape_pass list n = ap (counted shape_pass n) (comparisons_of_groups schema list)
counted_groups schema field_pass list n = refl

-- a list that is not among the known is new
pub new_unknown : (known : List (List merging.FieldSelection)) (list : List merging.FieldSelection) →
    ¬ Any (merging.SameFields list) known → IsNew known list
new_unknown known list unknown =
    each_standing (λ l. ¬ merging.SameFields list l) known (λ l stands same. unknown (has_any (merging.SameFields list) known l stands same))

-- what was examined has the same fields as an expansion
pub expansion_known : (fragments : Fragments) (known : List (List merging.FieldSelection)) (sets : List SelectionSet) (list : List merging.FieldSelection) →
    Expansion fragments sets list → Any (merging.SameFields list) known → ExpansionIsSeen fragments known sets
expansion_known fragments known sets list expansion any =
    let h = any_has (merging.SameFields list) known any in
    record { fields = list; known = h.0; expansion = expansion; is_seen = h.1; same_fields = h.2 }

-- a vector that says that it is empty has no items, and another has
pub no_items : {X : Type 0} (v : Vec X Global) (b : Bool) → b ≡ (vec_len v == 0) → IsTrue b → v.items ≡ []
no_items v b is empty = nil_from_length v.items (search rules)

pub some_items : {X Y : Type 0} (f : X → Y) (v : Vec X Global) (b : Bool) → b ≡ (vec_len v == 0) → IsFalse b → map f v.items ≢ []
some_items {X} f v b is filled none = from v.items refl where
  from : (items : List X) → v.items ≡ items → ⊥
  from [] empty = let answered : IsTrue b = search rules in let no : ⊥ = cc in no
  from (x ∷ xs) has = let some : map f (x ∷ xs) ≡ [] = ap (map f) (sym has) ∙ none in let no : ⊥ = cc in no

-- what a count says where its limit was reached, and where it was not
pub count_at_limit : (b : Bool) (old new limit before highest : ℕ) → new ≡ (if b then old else old + 1) → highest ≡ (if b then limit + 1 else max before new) → IsTrue b →
    (new ≡ old) × (highest ≡ limit + 1)
count_at_limit b old new limit before highest count high is = (
  count ∙ ap (λ (x : Bool). if x then old else old + 1) is,
  high ∙ ap (λ (x : Bool). if x then limit + 1 else max before new) is,
)

pub count_below_limit : (b : Bool) (old new limit before highest : ℕ) → new ≡ (if b then old else old + 1) → highest ≡ (if b then limit + 1 else max before new) → IsFalse b →
    (new ≡ old + 1) × (highest ≡ max before new)
count_below_limit b old new limit before highest count high is = (
  count ∙ ap (λ (x : Bool). if x then old else old + 1) is,
  high ∙ ap (λ (x : Bool). if x then limit + 1 else max before new) is,
)

pub not_reachable : (b : Bool) (count limit : ℕ) {bound : ℕ} → IsTrue b ↔ (count ≡ limit) → IsFalse b → count ≤ limit → limit ≡ bound → count < bound
not_reachable b count limit reachable other within is =
    let apart = λ (at : count ≡ limit). (let true' = reachable.1 at in let no : ⊥ = cc in no) in
    omega (arith, apart, within, is)

-- the code's test of a new list finds no known one
pub not_known : (fields : List NumberedField) (known : List (Vec NumberedField Global)) → IsNew (lists_of known) (listed fields) →
    IsFalse (list_any (λ k. pointwise same_selection fields k.items) known)
not_known fields known is_new = by (list_any (λ k. pointwise same_selection fields k.items) known) refl where
  by : (b : Bool) → list_any (λ k. pointwise same_selection fields k.items) known ≡ b → IsFalse (list_any (λ k. pointwise same_selection fields k.items) known)
  by false other = other
  by true found =
      let h = any_has (merging.SameFields (listed fields)) (lists_of known) ((compared_with_any fields known).0 found) in
      absurd (All-contains (λ l. ¬ merging.SameFields (listed fields) l) (lists_of known) h.0 is_new h.1 h.2)

-- the sets of one field more: its own behind the others, if it selects something
nested_more : (fields : List NumberedField) (x : NumberedField) →
    nested_sets (listed (fields ++ x ∷ [])) ≡ nested_sets (listed fields) ++ nested_sets (listed (x ∷ []))
nested_more fields x =
    let selects = λ (set : SelectionSet). is_some (slice_get (selections_of set) 0) in
    ap (λ l. filter selects (map merging.set_of l)) (map-append selection_of fields (x ∷ [])) ∙
    ap (filter selects) (map-append merging.set_of (listed fields) (listed (x ∷ []))) ∙
    filter-append selects (map merging.set_of (listed fields)) (map merging.set_of (listed (x ∷ [])))

selects_something : (set : SelectionSet) (b : Bool) → b ≡ (vec_len set.selections == 0) → is_some (slice_get (selections_of set) 0) ≡ not b
selects_something set b is = from set.selections.items refl where
  from : (items : List Selection) → set.selections.items ≡ items → is_some (slice_get (selections_of set) 0) ≡ not b
  from [] none = let e : b ≡ true = search rules in rw (none, e) refl
  from (x ∷ xs) some = let e : b ≡ false = search rules in rw (some, e) refl

pub nested_one_more : (sets : List SelectionSet) (group : List NumberedField) (i : ℕ) (x : NumberedField) (b : Bool) → i < length group → x ≡ get_or group i x →
    b ≡ (vec_len x.field.now.value.value.selection_set.selections == 0) → sets ≡ nested_sets (listed (take i group)) →
    (IsFalse b → sets ++ x.field.now.value.value.selection_set ∷ [] ≡ nested_sets (listed (take (i + 1) group))) ×
    (IsTrue b → sets ≡ nested_sets (listed (take (i + 1) group)))
nested_one_more sets group i x b within item is known =
    let more = ap (λ l. nested_sets (listed l)) (more_is group i x within item) ∙ nested_more (take i group) x in
    let one = selects_something x.field.now.value.value.selection_set b is in (
      λ other. sym (more ∙ ap (λ l. l ++ nested_sets (listed (x ∷ []))) (sym known) ∙ ap (λ l. sets ++ l) (rw (one ∙ ap not other) refl)),
      λ empty. sym (more ∙ ap (λ l. l ++ nested_sets (listed (x ∷ []))) (sym known) ∙ ap (λ l. sets ++ l) (rw (one ∙ ap not empty) refl) ∙ append-nil sets),
    )

-- a known list with the same fields
pub known_with : (known : List (List merging.FieldSelection)) (list : List merging.FieldSelection) → Any (merging.SameFields list) known →
    (l : List merging.FieldSelection) × Contains known l × merging.SameFields list l
known_with known list any = any_has (merging.SameFields list) known any
