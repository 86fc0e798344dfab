-- Where the uses of variables bring no report, all variables are used, and the other way round.
use Rattle.std.proofs.Common.{◌≡◌, ◌↔◌, Bool, true, false, List, [], ◌∷◌, map, refl, subst, All, Contains}
use Rattle.std.specs.Prelude.{◌⊎◌}
use Rattle.std.specs.List.{Any, fold, list_any}
use mathlib.Core.Logic.{inl, inr}
use Rattle.std.proofs.lemmas.List.Elements.{All-nil, All-cons, All-head, All-tail, All-contains, Contains-append_left, Contains-append_right, Contains-append_cases}
use Rattle.std.proofs.lemmas.List.Folds.{Any-from_list_any}
use Rattle.graphql_nodes.specs.Names.{NameText, SameName, same_name, with_name}
use Rattle.graphql_documents.specs.Selections.{Fragments}
use Rattle.graphql_specification.specs.Variables.{AreUnusedReports, AreUsesReports, are_unused, defined_names, is_bound, no_name, unused_name, used_name, VariablesAreUsed}
use Rattle.graphql_documents.specs.VariableUses.{UsesVariable}
use Rattle.graphql_diagnostics.specs.declared.lists.DiagnosticEntry.{DiagnosticEntry}
use Rattle.graphql_documents.specs.declared.documents.definitions.VariableDefinition.{VariableDefinition}
use Rattle.graphql_documents.specs.declared.documents.executables.Operation.{Operation}
use Rattle.graphql_nodes.specs.declared.nodes.Node.{Node}
use Rattle.graphql_documents.proofs.ListLemmas.{each_standing, made_of, none_stands, only_one, stands_behind, stands_first, stands_mapped}
use Rattle.graphql_nodes.proofs.NameLemmas.{same_name_back, same_name_itself}
use Rattle.graphql_documents.proofs.VariableUseLemmas.{uses_same}

-- a name of this text is in the list
abbrev HasName : List NameText → NameText → Type 0
HasName names n = (u : NameText) × Contains names u × SameName u n

-- what one more name changes
module _ (known : List NameText) (x : NameText) where
  kept_with : (n : NameText) → HasName known n → (b : Bool) → list_any (same_name x) known ≡ b → HasName (with_name known x) n
  kept_with n h true e = rw e h
  kept_with n (u, there, same) false e = rw e (u, Contains-append_left known (x ∷ []) u there, same)

  found : Any (λ y. same_name x y ≡ true) known → HasName known x
  found (k, y, within, is, same) = (y, (k, within, is), same_name_back x y same)

  itself_with : (b : Bool) → list_any (same_name x) known ≡ b → HasName (with_name known x) x
  itself_with true e = rw e (found (Any-from_list_any (same_name x) known e))
  itself_with false e = rw e (x, Contains-append_right known (x ∷ []) x (stands_first x []), same_name_itself x)

  before_or_last : (u : NameText) → Contains known u ⊎ Contains (x ∷ []) u → Contains known u ⊎ (u ≡ x)
  before_or_last u (inl before) = inl before
  before_or_last u (inr last) = inr (only_one x u last)

  only_with : (u : NameText) (b : Bool) → list_any (same_name x) known ≡ b → Contains (with_name known x) u → Contains known u ⊎ (u ≡ x)
  only_with u true e there = inl (rw e at there)
  only_with u false e there = before_or_last u (Contains-append_cases known (x ∷ []) u (rw e at there))

kept : (names known : List NameText) (n : NameText) → HasName known n → HasName (fold with_name known names) n
kept [] known n h = h
kept (x ∷ names) known n h = kept names (with_name known x) n (kept_with known x n h (list_any (same_name x) known) refl)

-- each name of a list is among its different names
among : (names known : List NameText) (n : NameText) → Contains names n → HasName (fold with_name known names) n
among [] known n there = absurd (none_stands n there)
among (x ∷ names) known n there = by (λ later. among names (with_name known x) n later) (Contains-append_cases (x ∷ []) names n there) where
  first : n ≡ x → HasName (fold with_name (with_name known x) names) n
  first is = rw is (kept names (with_name known x) x (itself_with known x (list_any (same_name x) known) refl))

  by : (Contains names n → HasName (fold with_name (with_name known x) names) n) → Contains (x ∷ []) n ⊎ Contains names n →
      HasName (fold with_name (with_name known x) names) n
  by more (inl here) = first (only_one x n here)
  by more (inr later) = more later

-- and the different names are names of the list
only : (names known : List NameText) (u : NameText) → Contains (fold with_name known names) u → Contains known u ⊎ Contains names u
only [] known u there = inl there
only (x ∷ names) known u there = by (only names (with_name known x) u there) where
  here : Contains known u ⊎ (u ≡ x) → Contains known u ⊎ Contains (x ∷ names) u
  here (inl before) = inl before
  here (inr is) = inr (rw is (stands_first x names))

  by : Contains (with_name known x) u ⊎ Contains names u → Contains known u ⊎ Contains (x ∷ names) u
  by (inl before) = here (only_with known x u (list_any (same_name x) known) refl before)
  by (inr later) = inr (stands_behind x names u later)

module _ (fragments : Fragments) (o : Operation) where
  abbrev name_of : Node VariableDefinition → NameText
  name_of v = v.value.value.name

  -- no report of these names: each is used, and the other way round
  each_used : {names : List NameText} {reports : List DiagnosticEntry} → AreUnusedReports fragments o names reports → reports ≡ [] →
      All (UsesVariable fragments o) names
  each_used no_name none = All-nil (UsesVariable fragments o)
  each_used (used_name {name = n} {names = names} used rest) none =
      All-cons (UsesVariable fragments o) n names used (each_used rest none)
  each_used (unused_name says rest) none = let no : ⊥ = cc in absurd no

  silent : (names : List NameText) → All (UsesVariable fragments o) names → AreUnusedReports fragments o names []
  silent [] all = no_name
  silent (n ∷ names) all =
      used_name (All-head (UsesVariable fragments o) n names all) (silent names (All-tail (UsesVariable fragments o) n names all))

  no_report : {reports : List DiagnosticEntry} → AreUsesReports fragments o reports → reports ≡ [] → All (UsesVariable fragments o) (defined_names o)
  no_report (are_unused h) none = each_used h none
  no_report (is_bound says) none = let no : ⊥ = cc in absurd no

  used_as_defined : All (UsesVariable fragments o) (defined_names o) → VariablesAreUsed fragments o
  used_as_defined all = each_standing (λ v. UsesVariable fragments o (name_of v)) o.variables.items (λ v there.
      let named = among (map name_of o.variables.items) [] (name_of v) (stands_mapped name_of o.variables.items v there) in
      uses_same fragments o named.0 (name_of v) named.2 (All-contains (UsesVariable fragments o) (defined_names o) named.0 all named.1))

  pub defined_as_used : VariablesAreUsed fragments o → All (UsesVariable fragments o) (defined_names o)
  defined_as_used all = each_standing (UsesVariable fragments o) (defined_names o) (λ u there.
      by u (only (map name_of o.variables.items) [] u there)) where
        by : (u : NameText) → Contains [] u ⊎ Contains (map name_of o.variables.items) u → UsesVariable fragments o u
        by u (inl none) = absurd (none_stands u none)
        by u (inr there) =
            let v = made_of name_of o.variables.items u there in
            subst (UsesVariable fragments o) v.2 (All-contains (λ v. UsesVariable fragments o (name_of v)) o.variables.items v.0 all v.1)

  pub none_reported : AreUsesReports fragments o [] ↔ VariablesAreUsed fragments o
  none_reported = (λ h. used_as_defined (no_report h refl), λ all. are_unused (silent (defined_names o) (defined_as_used all)))
