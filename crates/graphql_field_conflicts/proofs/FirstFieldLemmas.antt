-- The first argument of each name: what one more argument adds, and what is known of those before one of them.
use Rattle.std.proofs.Common.{◌≡◌, Bool, true, false, cond, List, [], ◌∷◌, ◌++◌, Option, Some, None, inl, inr, refl, sym, ap, ◌∙◌, subst, append_assoc, All}
use Rattle.std.specs.Prelude.{IsSome, is_some}
use Rattle.std.proofs.lemmas.List.{append-nil}
use Rattle.std.proofs.lemmas.List.Elements.{All-head, All-tail}
use Rattle.graphql_documents.specs.Directives.{argument_named}
use Rattle.graphql_documents.specs.declared.documents.directives.Argument.{Argument}
use Rattle.graphql_nodes.specs.Names.{NameText}
use Rattle.graphql_nodes.specs.declared.nodes.Node.{Node}
use Rattle.graphql_field_conflicts.proofs.ArgumentComparisonLemmas.{behind_among, none_among}
use Rattle.graphql_field_conflicts.proofs.FirstNamedLemmas.{first_behind}
use Rattle.graphql_field_conflicts.specs.Comparisons.{HasArgument, IsReachable, StandAmong}
use Rattle.graphql_field_conflicts.specs.FirstFields.{firsts_behind}

abbrev name_of : Node Argument → NameText
name_of x = x.value.value.name

-- whether there is an argument of the name
abbrev knows : List (Node Argument) → Node Argument → Bool
knows xs x = is_some (argument_named (name_of x) xs)

-- one more argument is the first of its name where none before it has the name
pub firsts-push : (before xs : List (Node Argument)) (x : Node Argument) →
    firsts_behind before (xs ++ x ∷ []) ≡ firsts_behind before xs ++ cond (knows (before ++ xs) x) [] (x ∷ [])
firsts-push before [] x =
    append-nil (cond (knows before x) [] (x ∷ [])) ∙ ap (λ l. cond (knows l x) [] (x ∷ [])) (sym (append-nil before))
firsts-push before (y ∷ ys) x =
    ap (λ l. cond (knows before y) [] (y ∷ []) ++ l) (firsts-push (before ++ y ∷ []) ys x) ∙
    sym (append_assoc (cond (knows before y) [] (y ∷ [])) (firsts_behind (before ++ y ∷ []) ys) (cond (knows ((before ++ y ∷ []) ++ ys) x) [] (x ∷ []))) ∙
    ap (λ l. (cond (knows before y) [] (y ∷ []) ++ firsts_behind (before ++ y ∷ []) ys) ++ cond (knows l x) [] (x ∷ [])) (append_assoc before (y ∷ []) ys)

pub firsts_with_new : (xs : List (Node Argument)) (x : Node Argument) → argument_named x.value.value.name xs ≡ None →
    firsts_behind [] (xs ++ x ∷ []) ≡ firsts_behind [] xs ++ x ∷ []
firsts_with_new xs x new = firsts-push [] xs x ∙ ap (λ (o : Option (Node Argument)). firsts_behind [] xs ++ cond (is_some o) [] (x ∷ [])) new

pub firsts_with_known : (xs : List (Node Argument)) (x : Node Argument) → IsSome (argument_named x.value.value.name xs) →
    firsts_behind [] (xs ++ x ∷ []) ≡ firsts_behind [] xs
firsts_with_known xs x known =
    firsts-push [] xs x ∙ ap (λ b. firsts_behind [] xs ++ cond b [] (x ∷ [])) known ∙ append-nil (firsts_behind [] xs)

-- what stands before an argument that is the first of its name
pub record IsFirstBehind (before xs firsts : List (Node Argument)) (x : Node Argument) : Type 0 where
  pub mid : List (Node Argument)
  pub after : List (Node Argument)
  pub stands : xs ≡ mid ++ x ∷ after
  pub new : argument_named x.value.value.name (before ++ mid) ≡ None
  pub firsts_are : firsts_behind before mid ≡ firsts

nothing : (o : Option (Node Argument)) → is_some o ≡ false → o ≡ None
nothing None e = refl
nothing (Some x) e = absurd (let no : ⊥ = cc in no)

one_further : (before xs firsts : List (Node Argument)) (y x : Node Argument) (known : Bool) → knows before y ≡ known → IsFirstBehind (before ++ y ∷ []) xs firsts x →
    IsFirstBehind before (y ∷ xs) (cond known [] (y ∷ []) ++ firsts) x
one_further before xs firsts y x known is first = record {
  mid = y ∷ first.mid;
  after = first.after;
  stands = ap (λ l. y ∷ l) first.stands;
  new = ap (argument_named x.value.value.name) (sym (append_assoc before (y ∷ []) first.mid)) ∙ first.new;
  firsts_are = ap (λ b. cond b [] (y ∷ []) ++ firsts_behind (before ++ y ∷ []) first.mid) is ∙ ap (λ l. cond known [] (y ∷ []) ++ l) first.firsts_are;
}

pub first_behind_at : (before xs firsts : List (Node Argument)) (x : Node Argument) (rest : List (Node Argument)) →
    firsts_behind before xs ≡ firsts ++ x ∷ rest → IsFirstBehind before xs firsts x
first_behind_at before [] [] x rest e = absurd (let no : ⊥ = cc in no)
first_behind_at before [] (z ∷ zs) x rest e = absurd (let no : ⊥ = cc in no)
first_behind_at before (y ∷ ys) firsts x rest e = by (knows before y) refl firsts e (first_behind_at (before ++ y ∷ []) ys) where
  by : (known : Bool) → knows before y ≡ known → (firsts : List (Node Argument)) → cond known [] (y ∷ []) ++ firsts_behind (before ++ y ∷ []) ys ≡ firsts ++ x ∷ rest →
      ((firsts : List (Node Argument)) (x : Node Argument) (rest : List (Node Argument)) → firsts_behind (before ++ y ∷ []) ys ≡ firsts ++ x ∷ rest →
      IsFirstBehind (before ++ y ∷ []) ys firsts x) → IsFirstBehind before (y ∷ ys) firsts x
  by true is firsts e behind = one_further before ys firsts y x true is (behind firsts x rest e)
  by false is [] e behind =
      let same : y ≡ x = cc in
      subst (IsFirstBehind before (y ∷ ys) []) same
      (record { mid = []; after = ys; stands = refl; new = ap (argument_named y.value.value.name) (append-nil before) ∙ nothing (argument_named y.value.value.name before) is; firsts_are = refl })
  by false is (z ∷ zs) e behind =
      let same : y ≡ z = cc in
      let others : firsts_behind (before ++ y ∷ []) ys ≡ zs ++ x ∷ rest = cc in
      subst (λ w. IsFirstBehind before (y ∷ ys) (w ∷ zs) x) same (one_further before ys zs y x false is (behind zs x rest others))

module _ (others : List (Node Argument)) where
  abbrev Has : Node Argument → Type 0
  Has x = HasArgument others x.value.value.name x

  -- where the others have the first argument of each name, each of the arguments stands for them
  stand_behind : (before xs : List (Node Argument)) → StandAmong before others → All Has (firsts_behind before xs) → StandAmong (before ++ xs) others
  stand_behind before [] stand all = subst (λ l. StandAmong l others) (sym (append-nil before)) stand
  stand_behind before (y ∷ ys) stand all = by (knows before y) refl all (stand_behind (before ++ y ∷ []) ys) where
    whole : StandAmong ((before ++ y ∷ []) ++ ys) others → StandAmong (before ++ y ∷ ys) others
    whole = subst (λ l. StandAmong l others) (append_assoc before (y ∷ []) ys)

    by : (known : Bool) → knows before y ≡ known → All Has (cond known [] (y ∷ []) ++ firsts_behind (before ++ y ∷ []) ys) →
        (StandAmong (before ++ y ∷ []) others → All Has (firsts_behind (before ++ y ∷ []) ys) → StandAmong ((before ++ y ∷ []) ++ ys) others) →
        StandAmong (before ++ y ∷ ys) others
    by true is all behind = whole (behind (behind_among before y others stand (inl is)) all)
    by false is all behind =
        let rest = firsts_behind (before ++ y ∷ []) ys in
        whole (behind (behind_among before y others stand (inr (All-head Has y rest all))) (All-tail Has y rest all))

  pub firsts_stand : (xs : List (Node Argument)) → All Has (firsts_behind [] xs) → StandAmong xs others
  firsts_stand xs all = stand_behind [] xs (none_among others) all

  -- one of the first arguments is reached where the others have those before it
  pub first_reachable : (arguments xs rest firsts : List (Node Argument)) (x : Node Argument) (further : List (Node Argument)) →
      arguments ≡ xs ++ rest → firsts_behind [] xs ≡ firsts ++ x ∷ further → All Has firsts →
      IsReachable (λ before. StandAmong before others) arguments x
  first_reachable arguments xs rest firsts x further split are all =
      let at = first_behind_at [] xs firsts x further are in
      let stands : arguments ≡ at.mid ++ x ∷ (at.after ++ rest) =
      split ∙ ap (λ l. l ++ rest) at.stands ∙ append_assoc at.mid (x ∷ at.after) rest in
      record {
        before = at.mid;
        after = at.after ++ rest;
        stands = stands;
        holds = firsts_stand at.mid (subst (All Has) (sym at.firsts_are) all);
        first = subst (λ l. argument_named x.value.value.name l ≡ Some x) (sym stands) (first_behind name_of at.mid (at.after ++ rest) x at.new);
      }
