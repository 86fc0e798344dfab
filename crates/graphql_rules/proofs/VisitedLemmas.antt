-- Names of fragments that were visited, walk after walk.
use Rattle.std.proofs.Common.{◌≡◌, ◌⊎◌, inl, inr, List, [], ◌∷◌, ◌++◌, Bool, true, false, ◌||◌, not, if◌then◌else◌, Option, IsTrue, IsFalse, refl, sym, ap, ◌∙◌, subst, Contains}
use Rattle.std.proofs.lemmas.List.{append-nil, append_assoc}
use Rattle.std.proofs.lemmas.List.Elements.{All-nil, All-weaker, All-append, All-contains, Contains-append_left, Contains-append_right}
use Rattle.std.proofs.lemmas.List.Folds.{Any-from_list_any, list_any-append}
use Rattle.graphql_nodes.specs.Names.{NameText, SameName, same_name, stands_on, with_name}
use Rattle.graphql_documents.specs.Selections.{Fragments, Visits, IsSpreadFrom, ReachableOn, without}
use Rattle.graphql_documents.specs.declared.documents.schemas.Schema.{Schema}
use Rattle.graphql_documents.specs.declared.documents.executables.Selection.{Selection}
use Rattle.graphql_nodes.proofs.NameLemmas.{same_name_back, same_name_then}
use Rattle.graphql_variables.proofs.UseLemmas.{any_has}
use Rattle.graphql_rules.proofs.ReachableLemmas.{by_truth, found_without, reachable_among_more, reachable_wider, stays_without}

stands_by_parts : (a b : Bool) → IsTrue (a || b) → IsTrue a ⊎ IsTrue b
stands_by_parts true b h = inl refl
stands_by_parts false b h = inr h

stands_by_left : (a b : Bool) → IsTrue a → IsTrue (a || b)
stands_by_left true b h = refl
stands_by_left false b h = absurd (let no : ⊥ = cc in no)

-- what is on a list is on a longer one
pub stands_still : (old new more : List NameText) → new ≡ old ++ more → (name : NameText) → IsTrue (stands_on old name) → IsTrue (stands_on new name)
stands_still old new more grown name h =
    subst (λ l. IsTrue (stands_on l name)) (sym grown)
    (subst IsTrue (sym (list_any-append (same_name name) old more))
    (stands_by_left (stands_on old name) (stands_on more name) h))

pub stood_not : (old new more : List NameText) → new ≡ old ++ more → (name : NameText) → IsFalse (stands_on new name) → IsFalse (stands_on old name)
stood_not old new more grown name none =
    elim (by_truth (stands_on old name)) [
      | inl there ↦ let stays : IsTrue (stands_on new name) = stands_still old new more grown name there in absurd (let no : ⊥ = cc in no)
      | inr not_there ↦ not_there
    ]

module _ {schema : Option Schema} (fragments : Fragments) where
  -- a name that was visited by a walk is spread where the walk came by
  pub newly_visited : {parent : Option NameText} {xs : List Selection} {old new : List NameText} →
      Visits schema fragments parent xs old new →
      (name : NameText) → IsTrue (stands_on new name) → IsFalse (stands_on old name) →
      IsSpreadFrom schema (without old fragments) parent xs name
  newly_visited {parent} {xs} {old} {new} goes name there fresh =
      let parts = subst IsTrue (list_any-append (same_name name) old goes.further) (subst (λ l. IsTrue (stands_on l name)) goes.grown there) in
      elim (stands_by_parts (stands_on old name) (stands_on goes.further name) parts) [
        | inl before ↦ absurd (let no : ⊥ = cc in no)
        | inr further ↦
            let found = any_has (λ k. SameName name k) goes.further (Any-from_list_any (same_name name) goes.further further) in
            let spread = All-contains (IsSpreadFrom schema (without old fragments) parent xs) goes.further found.0 goes.spread found.1 in
            record {
              p = spread.p;
              here = spread.here;
              reachable_on = spread.reachable_on;
              named = same_name_then spread.p.value.value.fragment_name found.0 name spread.named (same_name_back name found.0 found.2);
            }
      ]

  -- nothing was visited
  pub goes_nowhere : {parent : Option NameText} {xs : List Selection} (old : List NameText) → Visits schema fragments parent xs old old
  goes_nowhere old = record { further = []; grown = sym (append-nil old); spread = All-nil _ }

  -- a walk from elsewhere that comes by the same spreads
  pub goes_as : {parent other : Option NameText} {xs ys : List Selection} {old new : List NameText} →
      ((name : NameText) → IsSpreadFrom schema (without old fragments) parent xs name → IsSpreadFrom schema (without old fragments) other ys name) →
      Visits schema fragments parent xs old new → Visits schema fragments other ys old new
  goes_as w goes = record { further = goes.further; grown = goes.grown; spread = All-weaker _ _ w goes.further goes.spread }

  -- what is reached without more fragments is reached without fewer
  pub without_fewer : {parent here : Option NameText} {xs : List Selection} {s : Selection} (old mid more : List NameText) → mid ≡ old ++ more →
      ReachableOn schema (without mid fragments) parent xs s here → ReachableOn schema (without old fragments) parent xs s here
  without_fewer old mid more grown =
      reachable_among_more (λ name d found.
      let is = found_without mid fragments name d found in
      stays_without old fragments name d (stood_not old mid more grown name is.0) is.1)

  pub spread_without_fewer : {parent : Option NameText} {xs : List Selection} (old mid more : List NameText) → mid ≡ old ++ more →
      (name : NameText) → IsSpreadFrom schema (without mid fragments) parent xs name → IsSpreadFrom schema (without old fragments) parent xs name
  spread_without_fewer old mid more grown name spread =
      record { p = spread.p; here = spread.here; reachable_on = without_fewer old mid more grown spread.reachable_on; named = spread.named }

  spread_wider : {parent : Option NameText} {xs ys : List Selection} (old : List NameText) →
      ((x : Selection) → Contains xs x → Contains ys x) →
      (name : NameText) → IsSpreadFrom schema (without old fragments) parent xs name → IsSpreadFrom schema (without old fragments) parent ys name
  spread_wider old more name spread = record { p = spread.p; here = spread.here; reachable_on = reachable_wider more spread.reachable_on; named = spread.named }

  -- one walk after another
  pub goes_then : {parent : Option NameText} {xs ys : List Selection} {old mid new : List NameText} →
      Visits schema fragments parent xs old mid → Visits schema fragments parent ys mid new →
      Visits schema fragments parent (xs ++ ys) old new
  goes_then {parent} {xs} {ys} {old} {mid} {new} a b =
      let From = IsSpreadFrom schema (without old fragments) parent in
      record {
        further = a.further ++ b.further;
        grown = b.grown ∙ ap (λ l. l ++ b.further) a.grown ∙ append_assoc old a.further b.further;
        spread = All-append (From (xs ++ ys)) a.further b.further
            (All-weaker (From xs) (From (xs ++ ys)) (spread_wider old (λ x in'. Contains-append_left xs ys x in')) a.further a.spread)
            (All-weaker (IsSpreadFrom schema (without mid fragments) parent ys) (From (xs ++ ys))
            (λ name spread. spread_wider old (λ x in'. Contains-append_right xs ys x in') name (spread_without_fewer old mid a.further a.grown name spread))
            b.further b.spread);
      }

not_true : (b : Bool) → not b ≡ true → b ≡ false
not_true true h = absurd (let no : ⊥ = cc in no)
not_true false h = refl

not_false : (b : Bool) → not b ≡ false → b ≡ true
not_false true h = refl
not_false false h = absurd (let no : ⊥ = cc in no)

-- a name that was visited for the first time, or was there
pub was_new : (old new : List NameText) (name : NameText) (is_new : Bool) → is_new ≡ not (stands_on old name) → new ≡ with_name old name → is_new ≡ true →
    IsFalse (stands_on old name) × (new ≡ old ++ name ∷ [])
was_new old new name is_new is names first =
    let fresh = not_true (stands_on old name) (sym is ∙ first) in
    (fresh, names ∙ ap (λ b. if b then old else old ++ name ∷ []) fresh)

pub was_there : (old new : List NameText) (name : NameText) (is_new : Bool) → is_new ≡ not (stands_on old name) → new ≡ with_name old name → is_new ≡ false →
    IsTrue (stands_on old name) × (new ≡ old)
was_there old new name is_new is names again =
    let there = not_false (stands_on old name) (sym is ∙ again) in
    (there, names ∙ ap (λ b. if b then old else old ++ name ∷ []) there)
