-- How checks of usages compose over the places where variables are used.
use Rattle.std.proofs.Common.{◌≡◌, ◌↔◌, ℕ, ◌+◌, ◌<◌, ◌≤◌, List, length, get_or, take, refl, sym, ◌∙◌, subst, All, Contains, Option, None, Some}
use Rattle.std.specs.Prelude.{Any, Result, IsErr, ◌⊎◌}
use Rattle.std.proofs.lemmas.List.Elements.{All-contains}
use Rattle.std.proofs.lemmas.Option.{same_Some}
use mathlib.Core.Logic.{inl, inr}
use Rattle.graphql_nodes.specs.declared.nodes.Node.{Node}
use Rattle.graphql_documents.specs.declared.documents.definitions.VariableDefinition.{VariableDefinition}
use Rattle.graphql_documents.proofs.ListLemmas.{each_standing}
use Rattle.graphql_diagnostics.specs.Reports.{KeepsReports, Reports}
use Rattle.graphql_diagnostics.proofs.ReportLemmas.{ChecksList, checks-err, checks_after, checks_words, holds, in_words, kept_by, kept_then, kept_wider, walked_all, walked_more, walked_none, wider}
use Rattle.graphql_variables.proofs.FirstPlaceLemmas.{next_at, next_stands}
use Rattle.graphql_variables.proofs.UseLemmas.{any_has, has_any}
use Rattle.graphql_usage_rules.specs.Parts.{InFound}
use Rattle.graphql_usage_rules.specs.Usages.{Usage}
use Rattle.graphql_usage_rules.specs.VariableMisuses.{MisuseReport, UsagesAreAllowed}
use Rattle.graphql_usage_rules.specs.declared.reports.VariableMisuse.{VariableMisuse}

module _ (variables : List (Node VariableDefinition)) where
  -- a call checks the usages at a place
  abbrev pub Checked : {T E : Type 0} → Result T E → (Usage → Type 0) → List VariableMisuse → List VariableMisuse → Type 0
  Checked r P old new = ChecksList r (UsagesAreAllowed variables P) (MisuseReport variables P) old new

  abbrev pub Reported : (Usage → Type 0) → List VariableMisuse → List VariableMisuse → Type 0
  Reported P old new = Reports (UsagesAreAllowed variables P) (MisuseReport variables P) old new

  abbrev pub Kept : (Usage → Type 0) → List VariableMisuse → List VariableMisuse → Type 0
  Kept P old new = KeepsReports (MisuseReport variables P) old new

  -- what is reported of a place is so of a wider one
  pub moved : {P Q : Usage → Type 0} → ((u : Usage) → P u → Q u) → (x : VariableMisuse) → MisuseReport variables P x → MisuseReport variables Q x
  moved to x report = record {
    usage = report.usage;
    used = to report.usage report.used;
    v = report.v;
    is_variable = report.is_variable;
    disallowed = report.disallowed;
    name_is = report.name_is;
    variable_type_is = report.variable_type_is;
    location_type_is = report.location_type_is;
    definition_location_is = report.definition_location_is;
    location_is = report.location_is;
  }

  -- the same usages in other words
  words : {P Q : Usage → Type 0} → ((u : Usage) → P u ↔ Q u) → UsagesAreAllowed variables P ↔ UsagesAreAllowed variables Q
  words w = (λ all u q. all u ((w u).1 q), λ all u p. all u ((w u).0 p))

  pub in_places : {T E : Type 0} (r : Result T E) (P Q : Usage → Type 0) (old new : List VariableMisuse) →
      ((u : Usage) → P u ↔ Q u) → Checked r P old new → Checked r Q old new
  in_places r P Q old new w c =
      checks_words r (UsagesAreAllowed variables P) (UsagesAreAllowed variables Q) (MisuseReport variables P) (MisuseReport variables Q) old new
      (words w) (moved (λ u p. (w u).0 p)) c

  pub reported_in : (P Q : Usage → Type 0) (old new : List VariableMisuse) → ((u : Usage) → P u ↔ Q u) → Reported P old new → Reported Q old new
  reported_in P Q old new w c = in_words (words w) (wider (moved (λ u p. (w u).0 p)) c)

  -- no usage
  pub none_used : (P : Usage → Type 0) → ((u : Usage) → ¬ P u) → UsagesAreAllowed variables P
  none_used P none u p = absurd (none u p)

  pub nothing_used : (P : Usage → Type 0) (old : List VariableMisuse) → ((u : Usage) → ¬ P u) → Reported P old old
  nothing_used P old none = holds (MisuseReport variables P) (UsagesAreAllowed variables P) old (none_used P none)

  -- two places
  both_allowed : (P Q : Usage → Type 0) → (UsagesAreAllowed variables P × UsagesAreAllowed variables Q) ↔ UsagesAreAllowed variables (λ u. P u ⊎ Q u)
  both_allowed P Q = (
    λ all u w. elim w [
      | inl p ↦ all.0 u p
      | inr q ↦ all.1 u q
    ],
    λ all. (λ u p. all u (inl p), λ u q. all u (inr q)),
  )

  pub then_checked : {T E : Type 0} (r : Result T E) (P Q : Usage → Type 0) (old mid new : List VariableMisuse) →
      Reported P old mid → Checked r Q mid new → Checked r (λ u. P u ⊎ Q u) old new
  then_checked r P Q old mid new a b =
      let Wide = MisuseReport variables (λ u. P u ⊎ Q u) in
      checks_words r (UsagesAreAllowed variables P × UsagesAreAllowed variables Q) (UsagesAreAllowed variables (λ u. P u ⊎ Q u)) Wide Wide old new
      (both_allowed P Q) (λ x q. q)
      (checks_after r (UsagesAreAllowed variables P) (UsagesAreAllowed variables Q) Wide old mid new (wider (moved (λ u p. inl p)) a)
      (checks_words r (UsagesAreAllowed variables Q) (UsagesAreAllowed variables Q) (MisuseReport variables Q) Wide mid new (λ u. u, λ u. u) (moved (λ u q. inr q)) b))

  -- a refusal at the first place, and at the second
  pub first_refused : {T E : Type 0} (r : Result T E) (P Q : Usage → Type 0) (old new : List VariableMisuse) →
      IsErr r → Kept P old new → Checked r (λ u. P u ⊎ Q u) old new
  first_refused r P Q old new e k = checks-err r _ _ old new e (kept_wider (moved (λ u p. inl p)) k)

  pub second_refused : {T E : Type 0} (r : Result T E) (P Q : Usage → Type 0) (old mid new : List VariableMisuse) →
      IsErr r → Reported P old mid → Kept Q mid new → Checked r (λ u. P u ⊎ Q u) old new
  second_refused r P Q old mid new e a k =
      checks-err r _ _ old new e (kept_then (kept_wider (moved (λ u p. inl p)) (kept_by a)) (kept_wider (moved (λ u q. inr q)) k))

  -- what was looked up is there, or is not
  pub found_checked : {T E X : Type 0} (r : Result T E) (found : Option X) (In : X → Usage → Type 0) (x : X) (old new : List VariableMisuse) →
      found ≡ Some x → Checked r (In x) old new → Checked r (InFound found In) old new
  found_checked r found In x old new is c =
      in_places r (In x) (InFound found In) old new
      (λ u. (λ p. (x, is, p), λ (y, some, p). subst (λ z. In z u) (same_Some y x (sym some ∙ is)) p)) c

  pub not_found : {X : Type 0} (found : Option X) (In : X → Usage → Type 0) (old : List VariableMisuse) →
      found ≡ None → Reported (InFound found In) old old
  not_found found In old none = nothing_used (InFound found In) old (λ u (x, some, p). let no : ⊥ = cc in no)

  -- a walk over a list of places
  module _ {X : Type 0} (In : X → Usage → Type 0) (xs : List X) where
    -- at one of them
    abbrev pub Among : Usage → Type 0
    Among u = Any (λ x. In x u) xs

    -- those so far hold
    abbrev pub WalkedTo : List X → List VariableMisuse → List VariableMisuse → Type 0
    WalkedTo done old new = Reports (All (λ x. UsagesAreAllowed variables (In x)) done) (MisuseReport variables Among) old new

    pub among : (x : X) → Contains xs x → (u : Usage) → In x u → Among u
    among x stands u p = has_any (λ x. In x u) xs x stands p

    pub all_allowed : All (λ x. UsagesAreAllowed variables (In x)) xs ↔ UsagesAreAllowed variables Among
    all_allowed = (
      λ all u any.
          let h = any_has (λ x. In x u) xs any in
          All-contains (λ x. UsagesAreAllowed variables (In x)) xs h.0 all h.1 u h.2,
      λ all. each_standing (λ x. UsagesAreAllowed variables (In x)) xs (λ x stands u p. all u (among x stands u p)),
    )

    pub places_none : (old : List VariableMisuse) → WalkedTo (take 0 xs) old old
    places_none old = walked_none (λ x. UsagesAreAllowed variables (In x)) (MisuseReport variables Among) xs old

    pub places_more : (i : ℕ) (x : X) (old mid new : List VariableMisuse) → i < length xs → x ≡ get_or xs i x →
        WalkedTo (take i xs) old mid → Reported (In x) mid new → WalkedTo (take (i + 1) xs) old new
    places_more i x old mid new within item a b =
        walked_more (λ x. UsagesAreAllowed variables (In x)) (MisuseReport variables Among) xs i x old mid new within item a
        (wider (moved (among x (next_stands (next_at xs i x within item)))) b)

    pub places_all : (i : ℕ) (old new : List VariableMisuse) → length xs ≤ i → WalkedTo (take i xs) old new → Reported Among old new
    places_all i old new past a =
        in_words all_allowed (walked_all (λ x. UsagesAreAllowed variables (In x)) (MisuseReport variables Among) xs i xs old new refl past a)

    pub place_refused : {T E : Type 0} (r : Result T E) (i : ℕ) (x : X) (old mid new : List VariableMisuse) → IsErr r → i < length xs → x ≡ get_or xs i x →
        WalkedTo (take i xs) old mid → Kept (In x) mid new → Checked r Among old new
    place_refused r i x old mid new e within item a k =
        checks-err r _ _ old new e (kept_then (kept_by a) (kept_wider (moved (among x (next_stands (next_at xs i x within item)))) k))
