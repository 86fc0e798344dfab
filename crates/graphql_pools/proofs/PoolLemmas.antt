-- What one more fragment, or one more name, adds.
use Rattle.std.proofs.Common.{◌≡◌, ◌∙◌, ℕ, ◌+◌, ◌<◌, Bool, true, false, cond, List, [], ◌∷◌, ◌++◌, Option, None, Some, arith, length, get_or, take, map, ap, refl, sym, subst}
use Rattle.std.specs.Prelude.{All, AllPairs, Contains, ◌⊎◌, Err, IfOk, IsSome, Ok, OnOk, Result, is_some}
use Rattle.std.specs.List.{AllZip}
use Rattle.std.specs.Map.{lookup}
use Rattle.std.proofs.lemmas.List.{append_assoc, append-nil, get_or_append_left, length-append, map-append}
use Rattle.std.proofs.lemmas.List.Elements.{All-append, All-cons, All-nil, Contains-append_cases, Contains-append_left, Contains-append_right}
use mathlib.Core.Logic.{inl, inr}
use Rattle.std.proofs.lemmas.Grind.{flat_map-append}
use Rattle.graphql_documents.proofs.ListLemmas.{more_is, none_stands, only_one, stands_first}
use Rattle.graphql_documents.specs.Selections.{fragments_of}
use Rattle.graphql_nodes.proofs.NameLemmas.{same_name_itself}
use Rattle.graphql_nodes.specs.Names.{AreDistinct, DifferentNames, NameText, SameName, same_name}
use Rattle.graphql_nodes.specs.Nodes.{SameNode}
use Rattle.graphql_nodes.specs.declared.nodes.Node.{Node}
use Rattle.graphql_documents.specs.declared.documents.executables.ExecutableDocument.{ExecutableDocument}
use Rattle.graphql_documents.specs.declared.documents.executables.Fragment.{Fragment}
use Rattle.graphql_document_building.proofs.DocumentLemmas.{absent}
use Rattle.graphql_pools.specs.Pools.{AddsIfNew, Borrows, Entry, Gathers, IsBorrowed, SameEntry, entries_among, is_new, was_there}

-- what follows for what is answered
pub on_ok : {T E : Type 0} (P Q : Type 0) → (P → Q) → (r : Result T E) → OnOk r P → OnOk r Q
on_ok P Q f (Ok x) p = f p
on_ok P Q f (Err e) p = tt

pub if_ok : {T E : Type 0} (P Q : T → Type 0) → ((x : T) → P x → Q x) → (r : Result T E) → IfOk r P → IfOk r Q
if_ok P Q f (Ok x) p = f x p
if_ok P Q f (Err e) p = tt

pub not_some : {X : Type 0} (o : Option X) → is_some o ≡ false → o ≡ None
not_some None is = refl
not_some (Some x) is = absurd (let h : ⊥ = cc in h)

abbrev name_of : Entry → NameText
name_of e = e.0

same_names : (xs ys : List Entry) → AllZip SameEntry xs ys → map name_of ys ≡ map name_of xs
same_names [] [] zip = refl
same_names [] (y ∷ ys) zip = absurd zip
same_names (x ∷ xs) [] zip = absurd zip
same_names (x ∷ xs) (y ∷ ys) zip =
    let first = zip.0.0 in
    let rest = same_names xs ys zip.1 in
    ap (λ n. n ∷ map name_of ys) first ∙ ap (λ l. x.0 ∷ l) rest

zip_append : (es fs xs ys : List Entry) → AllZip SameEntry es fs → AllZip SameEntry xs ys → AllZip SameEntry (es ++ xs) (fs ++ ys)
zip_append [] [] xs ys first rest = rest
zip_append [] (f ∷ fs) xs ys first rest = absurd first
zip_append (e ∷ es) [] xs ys first rest = absurd first
zip_append (e ∷ es) (f ∷ fs) xs ys first rest = (first.0, zip_append es fs xs ys first.1 rest)

zip_itself : (xs : List Entry) → AllZip (λ (a b : Entry). (b.0 ≡ a.0) × (a.1 ≡ b.1)) xs xs
zip_itself [] = tt
zip_itself (x ∷ xs) = ((refl, refl), zip_itself xs)

pairs_front : {X : Type 0} (R : X → X → Type 0) (xs ys : List X) → AllPairs R (xs ++ ys) → AllPairs R xs
pairs_front R xs ys all = λ i j d before within.
    rw (get_or_append_left xs ys d i (omega (arith, before, within)), get_or_append_left xs ys d j within) at
    (all i j d before (omega (arith, within, length-append xs ys)))

front_distinct : (xs ys zs : List Entry) → AreDistinct (map name_of (xs ++ (ys ++ zs))) → AreDistinct (map name_of (xs ++ ys))
front_distinct xs ys zs distinct =
    let split : map name_of (xs ++ (ys ++ zs)) ≡ map name_of (xs ++ ys) ++ map name_of zs = ap (map name_of) (sym (append_assoc xs ys zs)) ∙ map-append name_of (xs ++ ys) zs in
    pairs_front DifferentNames (map name_of (xs ++ ys)) (map name_of zs) (subst AreDistinct split distinct)

pub gathers_nothing : (old : List Entry) → Gathers [] old old
gathers_nothing old distinct = ([], sym (append-nil old), tt)

pub gathers_then : (xs ys old mid new : List Entry) → Gathers xs old mid → Gathers ys mid new → Gathers (xs ++ ys) old new
gathers_then xs ys old mid new first rest distinct =
    let a = first (front_distinct old xs ys distinct) in
    let names : map name_of (mid ++ ys) ≡ map name_of (old ++ (xs ++ ys)) =
    map-append name_of mid ys ∙
    ap (λ l. l ++ map name_of ys) (ap (map name_of) a.1 ∙ map-append name_of old a.0 ∙ ap (λ l. map name_of old ++ l) (same_names xs a.0 a.2)) ∙
    append_assoc (map name_of old) (map name_of xs) (map name_of ys) ∙
    sym (map-append name_of old (xs ++ ys) ∙ ap (λ l. map name_of old ++ l) (map-append name_of xs ys)) in
    let b = rest (subst AreDistinct (sym names) distinct) in
    (a.0 ++ b.0, b.1 ∙ ap (λ l. l ++ b.0) a.1 ∙ append_assoc old a.0 b.0, zip_append xs a.0 ys b.0 a.2 b.2)

-- one more document behind others
pub gathers_file : (files : List ExecutableDocument) (i : ℕ) (file : ExecutableDocument) (old mid new : List Entry) → i < length files → file ≡ get_or files i file →
    Gathers (entries_among (take i files)) old mid → Gathers file.fragments.entries mid new → Gathers (entries_among (take (i + 1) files)) old new
gathers_file files i file old mid new within is first rest =
    let more : take (i + 1) files ≡ take i files ++ file ∷ [] = more_is files i file within is in
    let parts : entries_among (take (i + 1) files) ≡ entries_among (take i files) ++ file.fragments.entries =
    ap entries_among more ∙ flat_map-append (λ (d : ExecutableDocument). d.fragments.entries) (take i files) (file ∷ []) ∙
    ap (λ l. entries_among (take i files) ++ l) (append-nil file.fragments.entries) in
    subst (λ l. Gathers l old new) (sym parts) (gathers_then (entries_among (take i files)) file.fragments.entries old mid new first rest)

pub gathers_one : (name : NameText) (d : Node Fragment) (old new : List Entry) → AddsIfNew name d old new → Gathers ((name, d) ∷ []) old new
gathers_one name d old new (was_there found same) distinct =
    let none : lookup (same_name name) old ≡ None = absent (λ (a b : Node Fragment). a ≡ b) old [] (name, d) old distinct (zip_itself old) in
    let no : is_some {T = Node Fragment} None ≡ true = subst IsSome none found in
    absurd (let h : ⊥ = cc in h)
gathers_one name d old new (is_new e same none appended) distinct = ((name, e) ∷ [], appended, ((refl, same), tt))

-- ==== names that find fragments

found_still : (b : Bool) (v : Node Fragment) (o p : Option (Node Fragment)) → (IsSome o → IsSome p) → IsSome (cond b (Some v) o) → IsSome (cond b (Some v) p)
found_still true v o p more found = refl
found_still false v o p more found = more found

pub lookup_stays : (test : NameText → Bool) (xs ys : List Entry) → IsSome (lookup test xs) → IsSome (lookup test (xs ++ ys))
lookup_stays test [] ys found = absurd (let h : ⊥ = cc in h)
lookup_stays test (x ∷ xs) ys found = found_still (test x.0) x.1 (lookup test xs) (lookup test (xs ++ ys)) (lookup_stays test xs ys) found

found_anyway : (b : Bool) (v : Node Fragment) (o : Option (Node Fragment)) → IsSome o → IsSome (cond b (Some v) o)
found_anyway true v o there = refl
found_anyway false v o there = there

found_at_once : (b : Bool) (v : Node Fragment) (o : Option (Node Fragment)) → b ≡ true → IsSome (cond b (Some v) o)
found_at_once true v o is = refl
found_at_once false v o is = absurd (let h : ⊥ = cc in h)

lookup_last : (name : NameText) (xs : List Entry) (e : Node Fragment) → IsSome (lookup (same_name name) (xs ++ (name, e) ∷ []))
lookup_last name [] e = found_at_once (same_name name name) e None (same_name_itself name)
lookup_last name (x ∷ xs) e = found_anyway (same_name name x.0) x.1 (lookup (same_name name) (xs ++ (name, e) ∷ [])) (lookup_last name xs e)

pub borrows_nothing : (pool : ExecutableDocument) (old : List Entry) → Borrows pool [] old old
borrows_nothing pool old = record {
  added = [];
  appended = sym (append-nil old);
  each = All-nil (IsBorrowed pool []);
  there = λ name d c found. absurd (none_stands name c);
}

pub borrows_then : (pool : ExecutableDocument) (ns ms : List NameText) (old mid new : List Entry) → Borrows pool ns old mid → Borrows pool ms mid new →
    Borrows pool (ns ++ ms) old new
borrows_then pool ns ms old mid new a b = record {
  added = a.added ++ b.added;
  appended = b.appended ∙ ap (λ l. l ++ b.added) a.appended ∙ append_assoc old a.added b.added;
  each = All-append (IsBorrowed pool (ns ++ ms)) a.added b.added
      (λ k d within. let e = a.each k d within in (e.0, Contains-append_left ns ms e.0 e.1, e.2, e.3, e.4, e.5))
      (λ k d within. let e = b.each k d within in (e.0, Contains-append_right ns ms e.0 e.1, e.2, e.3, e.4, e.5));
  there = λ name d c found. by_place name d found (Contains-append_cases ns ms name c);
} where
  by_place : (name : NameText) (d : Node Fragment) → fragments_of pool name ≡ Some d → Contains ns name ⊎ Contains ms name → IsSome (lookup (same_name d.value.value.name) new)
  by_place name d found (inl before) =
      subst (λ l. IsSome (lookup (same_name d.value.value.name) l)) (sym b.appended) (lookup_stays (same_name d.value.value.name) mid b.added (a.there name d before found))
  by_place name d found (inr behind) = b.there name d behind found

only_found : (pool : ExecutableDocument) (name n : NameText) (d e : Node Fragment) → fragments_of pool name ≡ Some d → fragments_of pool n ≡ Some e → n ≡ name → d ≡ e
only_found pool name n d e first second same =
    let both : Some d ≡ Some e = sym first ∙ ap (fragments_of pool) (sym same) ∙ second in
    cc

pub borrows_one : (pool : ExecutableDocument) (name : NameText) (d : Node Fragment) (old new : List Entry) → fragments_of pool name ≡ Some d →
    AddsIfNew d.value.value.name d old new → Borrows pool (name ∷ []) old new
borrows_one pool name d old new is (was_there found same) = record {
  added = [];
  appended = same ∙ sym (append-nil old);
  each = All-nil (IsBorrowed pool (name ∷ []));
  there = λ n e c there.
      let one = only_found pool name n d e is there (only_one name n c) in
      subst (λ (x : Node Fragment). IsSome (lookup (same_name x.value.value.name) new)) one (subst (λ l. IsSome (lookup (same_name d.value.value.name) l)) (sym same) found);
}
borrows_one pool name d old new is (is_new e same none appended) = record {
  added = (d.value.value.name, e) ∷ [];
  appended = appended;
  each = All-cons (IsBorrowed pool (name ∷ [])) (d.value.value.name, e) [] (name, stands_first name [], d, is, refl, same) (All-nil (IsBorrowed pool (name ∷ [])));
  there = λ n f c there.
      let one = only_found pool name n d f is there (only_one name n c) in
      subst (λ (x : Node Fragment). IsSome (lookup (same_name x.value.value.name) new)) one
      (subst (λ l. IsSome (lookup (same_name d.value.value.name) l)) (sym appended) (lookup_last d.value.value.name old e));
}

pub borrows_none : (pool : ExecutableDocument) (name : NameText) (old : List Entry) → fragments_of pool name ≡ None → Borrows pool (name ∷ []) old old
borrows_none pool name old is = record {
  added = [];
  appended = sym (append-nil old);
  each = All-nil (IsBorrowed pool (name ∷ []));
  there = λ n e c there.
      let both : None ≡ Some e = sym is ∙ ap (fragments_of pool) (sym (only_one name n c)) ∙ there in
      absurd (let h : ⊥ = cc in h);
}
