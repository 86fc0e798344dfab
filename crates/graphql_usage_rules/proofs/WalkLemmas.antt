-- Walks over places by an iterator: those that were done are a list of their own.
use Rattle.std.proofs.Common.{◌≡◌, ◌↔◌, List, [], ◌∷◌, ◌++◌, map, sym, subst, All, Contains}
use Rattle.std.specs.Prelude.{Any, Result, IsErr}
use Rattle.std.proofs.lemmas.List.Elements.{All-nil}
use Rattle.graphql_nodes.specs.declared.nodes.Node.{Node}
use Rattle.graphql_documents.specs.declared.documents.definitions.VariableDefinition.{VariableDefinition}
use Rattle.graphql_documents.proofs.ListLemmas.{made_of, stands_mapped}
use Rattle.graphql_diagnostics.proofs.ReportLemmas.{checks-err, done_more, holds, in_words, kept_by, kept_then, kept_wider, wider}
use Rattle.graphql_variables.proofs.UseLemmas.{any_has, has_any}
use Rattle.graphql_usage_rules.specs.Usages.{Usage}
use Rattle.graphql_usage_rules.specs.VariableMisuses.{MisuseReport, UsagesAreAllowed}
use Rattle.graphql_usage_rules.specs.declared.reports.VariableMisuse.{VariableMisuse}
use Rattle.graphql_usage_rules.proofs.PlaceLemmas.{Among, Checked, Kept, Reported, WalkedTo, all_allowed, among, in_places, moved, reported_in}

module _ (variables : List (Node VariableDefinition)) where
  module _ {X : Type 0} (In : X → Usage → Type 0) (xs : List X) where
    pub nothing_done : (old : List VariableMisuse) → WalkedTo variables In xs [] old old
    nothing_done old = holds (MisuseReport variables (Among variables In xs)) (All (λ x. UsagesAreAllowed variables (In x)) []) old (All-nil (λ x. UsagesAreAllowed variables (In x)))

    pub place_done : (done : List X) (x : X) (old mid new : List VariableMisuse) → Contains xs x →
        WalkedTo variables In xs done old mid → Reported variables (In x) mid new → WalkedTo variables In xs (done ++ x ∷ []) old new
    place_done done x old mid new stands a b =
        done_more (λ x. UsagesAreAllowed variables (In x)) (MisuseReport variables (Among variables In xs)) done x old mid new a
        (wider (moved variables (among variables In xs x stands)) b)

    pub done_refused : {T E : Type 0} (r : Result T E) (done : List X) (x : X) (old mid new : List VariableMisuse) → IsErr r → Contains xs x →
        WalkedTo variables In xs done old mid → Kept variables (In x) mid new → Checked variables r (Among variables In xs) old new
    done_refused r done x old mid new e stands a k =
        checks-err r _ _ old new e (kept_then (kept_by a) (kept_wider (moved variables (among variables In xs x stands)) k))

    pub all_done : (done : List X) (old new : List VariableMisuse) → xs ≡ done → WalkedTo variables In xs done old new → Reported variables (Among variables In xs) old new
    all_done done old new same a = in_words (all_allowed variables In xs) (subst (λ l. WalkedTo variables In xs l old new) (sym same) a)

  -- a walk over what is made of each of a list
  module _ {X Y : Type 0} (f : X → Y) (In : Y → Usage → Type 0) (xs : List X) where
    any_made : (u : Usage) → Any (λ x. In (f x) u) xs ↔ Any (λ y. In y u) (map f xs)
    any_made u = (
      λ any. let h = any_has (λ x. In (f x) u) xs any in has_any (λ y. In y u) (map f xs) (f h.0) (stands_mapped f xs h.0 h.1) h.2,
      λ any.
          let h = any_has (λ y. In y u) (map f xs) any in
          let made = made_of f xs h.0 h.1 in
          has_any (λ x. In (f x) u) xs made.0 made.1 (subst (λ y. In y u) (sym made.2) h.2),
    )

    pub made_checked : {T E : Type 0} (r : Result T E) (old new : List VariableMisuse) →
        Checked variables r (Among variables (λ x. In (f x)) xs) old new → Checked variables r (Among variables In (map f xs)) old new
    made_checked r old new c = in_places variables r (Among variables (λ x. In (f x)) xs) (Among variables In (map f xs)) old new any_made c

    pub made_reported : (old new : List VariableMisuse) →
        Reported variables (Among variables (λ x. In (f x)) xs) old new → Reported variables (Among variables In (map f xs)) old new
    made_reported old new c = reported_in variables (Among variables (λ x. In (f x)) xs) (Among variables In (map f xs)) old new any_made c
