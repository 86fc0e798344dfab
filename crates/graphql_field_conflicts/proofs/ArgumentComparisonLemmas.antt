-- What two lists of arguments disagree on first.
use Rattle.std.proofs.Common.{◌≡◌, ℕ, ◌<◌, ◌+◌, Bool, true, false, not, cond, List, [], ◌∷◌, ◌++◌, Option, Some, None, ◌⊎◌, find, take, drop, length, get_or, refl, sym, ap, ◌∙◌, subst, All}
use Rattle.std.specs.Prelude.{IsFalse, IsSome, IsTrue, is_some}
use Rattle.std.proofs.lemmas.List.Elements.{All-cons, All-contains, All-nil, All-weaker}
use Rattle.graphql_documents.specs.Directives.{argument_named}
use Rattle.graphql_specification.specs.Merging.{SameArguments}
use Rattle.graphql_nodes.specs.Names.{NameText, SameName}
use Rattle.graphql_documents.specs.Values.{SameValue}
use Rattle.graphql_documents.specs.declared.documents.directives.Argument.{Argument}
use Rattle.graphql_nodes.specs.declared.nodes.Node.{Node}
use Rattle.graphql_variables.proofs.SplitLemmas.{split_at}
use Rattle.graphql_field_conflicts.proofs.FirstNamedLemmas.{each_behind, each_more, each_of_none, first_alike, first_behind, first_has, first_of_name, first_stands}
use Rattle.graphql_field_conflicts.specs.Comparisons.{AreNamedAmong, HasArgument, IsReachable, StandAmong}

-- the name of an argument
abbrev name_of : Node Argument → NameText
name_of x = x.value.value.name

has_alike : (others : List (Node Argument)) (a b : NameText) (x : Node Argument) → SameName a b → HasArgument others a x → HasArgument others b x
has_alike others a b x same (y, found, alike) = (y, sym (first_alike name_of a b same others) ∙ found, alike)

pub none_among : (others : List (Node Argument)) → StandAmong [] others
none_among others = each_of_none name_of (HasArgument others) (has_alike others)

-- one more argument, behind the others
pub behind_among : (before : List (Node Argument)) (x : Node Argument) (others : List (Node Argument)) → StandAmong before others →
    IsSome (argument_named x.value.value.name before) ⊎ HasArgument others x.value.value.name x → StandAmong (before ++ x ∷ []) others
behind_among before x others stand here = each_behind name_of (HasArgument others) (has_alike others) before x stand here

pub more_among : (arguments : List (Node Argument)) (i : ℕ) (x : Node Argument) (others : List (Node Argument)) →
    i < length arguments → x ≡ get_or arguments i x → StandAmong (take i arguments) others →
    IsSome (argument_named x.value.value.name (take i arguments)) ⊎ HasArgument others x.value.value.name x → StandAmong (take (i + 1) arguments) others
more_among arguments i x others within item before here = each_more name_of (HasArgument others) (has_alike others) arguments i x within item before here

-- the argument at a place, where those before it agree and none has its name
pub reachable_at : (arguments : List (Node Argument)) (i : ℕ) (x : Node Argument) (others : List (Node Argument)) →
    i < length arguments → x ≡ get_or arguments i x → StandAmong (take i arguments) others → argument_named x.value.value.name (take i arguments) ≡ None →
    IsReachable (λ before. StandAmong before others) arguments x
reachable_at arguments i x others within item before new = record {
  before = take i arguments;
  after = drop (i + 1) arguments;
  stands = split_at arguments i x within item;
  holds = before;
  first = first_of_name name_of arguments i x within item new;
}

-- what is before the first element that passes a test fails it
parts_found : {X : Type 0} (p : X → Bool) (xs : List X) (x : X) → find p xs ≡ Some x →
    (before after : List X) × (xs ≡ before ++ x ∷ after) × All (λ y. IsFalse (p y)) before × IsTrue (p x)
parts_found p [] x e = absurd (let no : ⊥ = cc in no)
parts_found {X} p (y ∷ ys) x e = by (p y) refl e (parts_found p ys x) where
  by : (b : Bool) → p y ≡ b → cond b (Some y) (find p ys) ≡ Some x →
      (find p ys ≡ Some x → (before after : List X) × (ys ≡ before ++ x ∷ after) × All (λ z. IsFalse (p z)) before × IsTrue (p x)) →
      (before after : List X) × (y ∷ ys ≡ before ++ x ∷ after) × All (λ z. IsFalse (p z)) before × IsTrue (p x)
  by true is found behind = let same : y ≡ x = cc in ([], ys, ap (λ z. z ∷ ys) same, All-nil (λ z. IsFalse (p z)), subst (λ z. IsTrue (p z)) same is)
  by false is found behind =
      let (before, after, stands, fail, passes) = behind found in
      (y ∷ before, after, ap (λ l. y ∷ l) stands, All-cons (λ z. IsFalse (p z)) y before is fail, passes)

all_fail : {X : Type 0} (p : X → Bool) (xs : List X) → find p xs ≡ None → All (λ y. IsFalse (p y)) xs
all_fail p [] e = All-nil (λ y. IsFalse (p y))
all_fail {X} p (y ∷ ys) e = by (p y) refl e (all_fail p ys) where
  by : (b : Bool) → p y ≡ b → cond b (Some y) (find p ys) ≡ None → (find p ys ≡ None → All (λ z. IsFalse (p z)) ys) → All (λ z. IsFalse (p z)) (y ∷ ys)
  by true is found behind = absurd (let no : ⊥ = cc in no)
  by false is found behind = All-cons (λ z. IsFalse (p z)) y ys is (behind found)

-- the others lack an argument of this name
abbrev pub lacks : List (Node Argument) → Node Argument → Bool
lacks others x = not (is_some (argument_named x.value.value.name others))

not_lacked : (o : Option (Node Argument)) → IsFalse (not (is_some o)) → IsSome o
not_lacked (Some x) h = refl
not_lacked None h = absurd (let no : ⊥ = cc in no)

lacked : (o : Option (Node Argument)) → IsTrue (not (is_some o)) → o ≡ None
lacked (Some x) h = absurd (let no : ⊥ = cc in no)
lacked None h = refl

-- the first argument that the others lack
pub missing_reachable : (arguments others : List (Node Argument)) (x : Node Argument) → find (lacks others) arguments ≡ Some x →
    IsReachable (λ before. AreNamedAmong before others) arguments x × (argument_named x.value.value.name others ≡ None)
missing_reachable arguments others x found = at_parts (parts_found (lacks others) arguments x found) where
  at_parts : (before after : List (Node Argument)) × (arguments ≡ before ++ x ∷ after) × All (λ y. IsFalse (lacks others y)) before × IsTrue (lacks others x) →
      IsReachable (λ before. AreNamedAmong before others) arguments x × (argument_named x.value.value.name others ≡ None)
  at_parts (before, after, stands, fail, passes) = (record { before = before; after = after; stands = stands; holds = named; first = first }, none) where
    named : AreNamedAmong before others
    named = All-weaker (λ y. IsFalse (lacks others y)) (λ y. IsSome (argument_named y.value.value.name others)) (λ y. not_lacked (argument_named y.value.value.name others)) before fail

    none : argument_named x.value.value.name others ≡ None
    none = lacked (argument_named x.value.value.name others) passes

    unnamed : (o : Option (Node Argument)) → argument_named x.value.value.name before ≡ o → argument_named x.value.value.name before ≡ None
    unnamed None is = is
    unnamed (Some z) is =
        let known = All-contains (λ y. IsSome (argument_named y.value.value.name others)) before z named (first_stands name_of x.value.value.name before z is) in
        let same = first_alike name_of z.value.value.name x.value.value.name (first_has name_of x.value.value.name before z is) others in
        absurd (let there = subst IsSome (same ∙ none) known in let no : ⊥ = cc in no)

    first : argument_named x.value.value.name arguments ≡ Some x
    first = subst (λ l. argument_named x.value.value.name l ≡ Some x) (sym stands)
        (first_behind name_of before after x (unnamed (argument_named x.value.value.name before) refl))

-- where none of the other arguments is lacking, and the first of each name agrees, they are the same
pub same_arguments : (a b : List (Node Argument)) → StandAmong a b → find (lacks a) b ≡ None → SameArguments a b
same_arguments a b stand none = record { names = names; values = values } where
  known : (name : NameText) (y : Node Argument) → argument_named name b ≡ Some y → IsSome (argument_named name a)
  known name y is =
      subst IsSome (first_alike name_of y.value.value.name name (first_has name_of name b y is) a)
      (not_lacked (argument_named y.value.value.name a) (All-contains (λ y. IsFalse (lacks a y)) b y (all_fail (lacks a) b none) (first_stands name_of name b y is)))

  names : (name : NameText) → is_some (argument_named name a) ≡ is_some (argument_named name b)
  names name = by (argument_named name a) (argument_named name b) refl refl where
    by : (o p : Option (Node Argument)) → argument_named name a ≡ o → argument_named name b ≡ p → is_some o ≡ is_some p
    by None None is_o is_p = refl
    by (Some x) (Some y) is_o is_p = refl
    by None (Some y) is_o is_p = let there = subst IsSome is_o (known name y is_p) in absurd (let no : ⊥ = cc in no)
    by (Some x) None is_o is_p = let (y, there, same) = stand name x is_o in absurd (let no : ⊥ = cc in no)

  values : (name : NameText) (x y : Node Argument) → argument_named name a ≡ Some x → argument_named name b ≡ Some y →
      SameValue x.value.value.value.value.value y.value.value.value.value.value
  values name x y is_x is_y =
      let (z, there, same) = stand name x is_x in
      let alike : z ≡ y = cc in
      subst (λ u. SameValue x.value.value.value.value.value u.value.value.value.value.value) alike same
