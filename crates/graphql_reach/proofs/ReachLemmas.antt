-- How many bytes operations reach, one after another.
use Rattle.std.proofs.Common.{◌≡◌, ◌+◌, ◌<◌, ℕ, List, [], ◌∷◌, ◌++◌, arith, sym, ap, ◌∙◌, subst, Bor, None, Option, Some, drop, get_or, length, take}
use Rattle.std.specs.Prelude.{Err, IfOk, IsSome, MatchOption, Ok, Result, sum_by}
use Rattle.std.specs.List.{IsDistinct}
use Rattle.std.specs.Map.{keys_of}
use Rattle.std.proofs.lemmas.List.{append_assoc, map-append, take-append-drop}
use Rattle.graphql_nodes.specs.Names.{NameText, same_name}
use Rattle.graphql_nodes.specs.declared.nodes.Node.{Node}
use Rattle.graphql_documents.proofs.ListLemmas.{more_is}
use Rattle.graphql_documents.specs.Selections.{fragments_of}
use Rattle.graphql_documents.specs.declared.documents.executables.ExecutableDocument.{ExecutableDocument}
use Rattle.graphql_documents.specs.declared.documents.executables.Operation.{Operation}
use Rattle.graphql_reach.specs.Reach.{HaveReach, IsFirstToPass, ReachAtMost, Reaches, bytes_at, nodes_at, no_operation, one_more}
use Rattle.graphql_reach.specs.Reached.{ReachesNames}
use Rattle.graphql_reach.specs.declared.reports.ReachReport.{ReachReport}
use Rattle.graphql_reach.proofs.CountLemmas.{each_is_found, entries_are_defined, entry_bytes, found_bytes, named_bytes, none_reached, reached_are_named, reached_at_most_all, reaches_named}

module _ (document : ExecutableDocument) where
  -- operations behind others reach what both reach
  pub reaches_both : {xs ys : List (Node Operation)} {a b : ℕ} → Reaches document xs a → Reaches document ys b → Reaches document (xs ++ ys) (a + b)
  reaches_both {b = b} no_operation second = subst (Reaches document _) (let e : b ≡ 0 + b = omega arith in e) second
  reaches_both {ys = ys} {b = b} (one_more {o = o} {rest = rest} {m = m} {n = n} fragments more) second =
      let e : (bytes_at o.location + m) + (n + b) ≡ ((bytes_at o.location + m) + n) + b = omega arith in
      subst (Reaches document (o ∷ (rest ++ ys))) e (one_more fragments (reaches_both more second))

  -- and nothing else
  pub record ReachApart (xs ys : List (Node Operation)) (n : ℕ) : Type 0 where
    pub a : ℕ
    pub b : ℕ
    pub first : Reaches document xs a
    pub second : Reaches document ys b
    pub is : n ≡ a + b

  pub reach_apart : (xs ys : List (Node Operation)) (n : ℕ) → Reaches document (xs ++ ys) n → ReachApart xs ys n
  reach_apart [] ys n reach = record { a = 0; b = n; first = no_operation; second = reach; is = omega arith }
  reach_apart (o ∷ xs) ys _ (one_more {m = m} {n = n} fragments more) =
      let h = reach_apart xs ys n more in
      record { a = (bytes_at o.location + m) + h.a; b = h.b; first = one_more fragments h.first; second = h.second; is = omega (arith, h.is) }

  pub have_both : {xs ys : List (Node Operation)} {a b : ℕ} → HaveReach document xs a → HaveReach document ys b → HaveReach document (xs ++ ys) (a + b)
  have_both {xs = xs} {ys = ys} first second = record {
    reach = reaches_both first.reach second.reach;
    at_most = λ n reach. let h = reach_apart xs ys n reach in omega (arith, h.is, first.at_most h.a h.first, second.at_most h.b h.second);
  }

  -- where there is no operation, nothing is reached
  pub none_reach : ReachAtMost document [] 0
  none_reach n no_operation = omega arith

  pub have_none : HaveReach document [] 0
  have_none = record { reach = no_operation; at_most = none_reach }

  -- one operation reaches at most its own definition and all fragments
  at_most_all : (o : Node Operation) → ReachAtMost document (o ∷ []) (bytes_at o.location + sum_by entry_bytes document.fragments.entries)
  at_most_all o _ (one_more fragments no_operation) = omega (arith, reached_at_most_all fragments)

  -- and at most the fragments of the names that it reaches
  at_most_named : (o : Node Operation) (names : List NameText) → ReachesNames (fragments_of document) o.value.value.selection_set names →
      ReachAtMost document (o ∷ []) (bytes_at o.location + named_bytes names document.fragments.entries)
  at_most_named o names reaches _ (one_more fragments no_operation) =
      omega (arith, reached_are_named document o.value.value.selection_set names reaches (entries_are_defined document) fragments)

  -- operations reach at least what the first of them do
  pub reach_more : (ys : List (Node Operation)) → (m : ℕ) × Reaches document ys m
  reach_more [] = (0, no_operation)
  reach_more (o ∷ ys) =
      let h = reach_more ys in ((bytes_at o.location + 0) + h.0, one_more (none_reached document.fragments.entries) h.1)

  -- where one passes the bound together with those before it, they do not reach at most so many bytes
  pub first_not_within : {most : ℕ} {operations : List (Node Operation)} {r : ReachReport} → IsFirstToPass most document operations r → ¬ ReachAtMost document operations most
  first_not_within {operations = operations} {r = r} first within =
      let h = reach_more first.after in
      let all : operations ≡ (first.before ++ first.o ∷ []) ++ first.after = first.is ∙ sym (append_assoc first.before (first.o ∷ []) first.after) in
      omega (arith, first.passes, within (r.bytes + h.0) (subst (λ l. Reaches document l (r.bytes + h.0)) (sym all) (reaches_both first.has.reach h.1)))

  -- one operation more reaches at most its own definition and all fragments
  pub at_most_one_more : (operations : List (Node Operation)) (o : Node Operation) (most : ℕ) → ReachAtMost document operations most →
      ReachAtMost document (operations ++ o ∷ []) ((most + bytes_at o.location) + sum_by entry_bytes document.fragments.entries)
  at_most_one_more operations o most within n reach =
      let h = reach_apart operations (o ∷ []) n reach in omega (arith, h.is, within h.a h.first, at_most_all o h.b h.second)

  -- an operation reaches its own definition and the fragments of the names that it reaches
  pub have_named : (o : Node Operation) (names : List NameText) → ReachesNames (fragments_of document) o.value.value.selection_set names →
      IsDistinct same_name names → IsDistinct same_name (keys_of document.fragments.entries) →
      HaveReach document (o ∷ []) (bytes_at o.location + sum_by (found_bytes document.fragments.entries) names)
  have_named o names reaches differ apart =
      let es = document.fragments.entries in
      let all = each_is_found names es differ apart in
      let bytes : (bytes_at o.location + named_bytes names es) + 0 ≡ bytes_at o.location + sum_by (found_bytes es) names = omega (arith, all) in
      record {
        reach = subst (Reaches document (o ∷ [])) bytes (one_more (reaches_named names reaches.each es) no_operation);
        at_most = λ n reach. omega (arith, all, at_most_named o names reaches n reach);
      }

-- the nodes of one reference more
pub nodes_next : (references : List (Bor (Node Operation))) (i : ℕ) (x : Bor (Node Operation)) → i < length references → x ≡ get_or references i x →
    nodes_at (take (i + 1) references) ≡ nodes_at (take i references) ++ x.now ∷ []
nodes_next references i x within is = ap nodes_at (more_is references i x within is) ∙ map-append (λ (o : Bor (Node Operation)). o.now) (take i references) (x ∷ [])

-- and of all
pub nodes_around : (references : List (Bor (Node Operation))) (i : ℕ) (x : Bor (Node Operation)) → i < length references → x ≡ get_or references i x →
    nodes_at references ≡ nodes_at (take i references) ++ x.now ∷ nodes_at (drop (i + 1) references)
nodes_around references i x within is =
    ap nodes_at (sym (take-append-drop (i + 1) references)) ∙
    map-append (λ (o : Bor (Node Operation)). o.now) (take (i + 1) references) (drop (i + 1) references) ∙
    ap (λ l. l ++ nodes_at (drop (i + 1) references)) (nodes_next references i x within is) ∙
    append_assoc (nodes_at (take i references)) (x.now ∷ []) (nodes_at (drop (i + 1) references))

-- what is answered of a document is exact
pub answer_is_exact : {E : Type 0} (document : ExecutableDocument) (most : ℕ) (operations : List (Node Operation)) (r : Result (Option ReachReport) E) →
    IfOk r (λ found. MatchOption found (ReachAtMost document operations most) (IsFirstToPass most document operations)) →
    IfOk r (λ found. IsSome found → ¬ ReachAtMost document operations most)
answer_is_exact document most operations (Ok None) h = λ none. absurd (let never : ⊥ = cc in never)
answer_is_exact document most operations (Ok (Some report)) h = λ some. first_not_within document h
answer_is_exact document most operations (Err e) h = h
