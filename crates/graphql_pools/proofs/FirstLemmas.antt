-- Under each name the first fragment: what one more fragment, or one more document, adds.
use Rattle.std.proofs.Common.{◌≡◌, ◌∙◌, ℕ, ◌+◌, ◌<◌, Bool, true, false, cond, List, [], ◌∷◌, ◌++◌, Option, None, Some, length, get_or, take, ap, refl, sym, subst}
use Rattle.std.specs.Prelude.{IsSome, is_some}
use Rattle.std.specs.Map.{lookup}
use Rattle.std.proofs.lemmas.List.{append_assoc, append-nil}
use Rattle.std.proofs.lemmas.Grind.{flat_map-append}
use Rattle.graphql_documents.proofs.ListLemmas.{more_is}
use Rattle.graphql_nodes.proofs.NameLemmas.{same_text}
use Rattle.graphql_nodes.specs.Names.{NameText, SameName, same_name}
use Rattle.graphql_nodes.specs.declared.nodes.Node.{Node}
use Rattle.graphql_documents.specs.declared.documents.executables.ExecutableDocument.{ExecutableDocument}
use Rattle.graphql_documents.specs.declared.documents.executables.Fragment.{Fragment}
use Rattle.graphql_pools.specs.Pools.{AddsIfNew, Entry, HasFirst, IsSameFound, entries_among, is_new, was_there}

-- ==== what is found

same_found_itself : (o : Option (Node Fragment)) → IsSameFound o o
same_found_itself None = tt
same_found_itself (Some d) = record { same_value = refl; same_location = refl }

same_found_then : (o p q : Option (Node Fragment)) → IsSameFound o p → IsSameFound p q → IsSameFound o q
same_found_then None None q first rest = rest
same_found_then None (Some e) q first rest = absurd first
same_found_then (Some d) None q first rest = absurd first
same_found_then (Some d) (Some e) None first rest = absurd rest
same_found_then (Some d) (Some e) (Some f) first rest = record { same_value = rest.same_value ∙ first.same_value; same_location = rest.same_location ∙ first.same_location }

-- the first, or else the second
abbrev or_else : Option (Node Fragment) → Option (Node Fragment) → Option (Node Fragment)
or_else (Some d) p = Some d
or_else None p = p

or_else_none : (o : Option (Node Fragment)) → or_else o None ≡ o
or_else_none (Some d) = refl
or_else_none None = refl

or_else_found : (o p : Option (Node Fragment)) → IsSome o → or_else o p ≡ o
or_else_found (Some d) p there = refl
or_else_found None p there = absurd (let h : ⊥ = cc in h)

same_before : (o p q : Option (Node Fragment)) → IsSameFound o p → IsSameFound (or_else o q) (or_else p q)
same_before None None q same = same_found_itself q
same_before None (Some e) q same = absurd same
same_before (Some d) None q same = absurd same
same_before (Some d) (Some e) q same = same

same_behind : (o p q : Option (Node Fragment)) → IsSameFound p q → IsSameFound (or_else o p) (or_else o q)
same_behind None p q same = same
same_behind (Some d) p q same = same_found_itself (Some d)

cond_both : (b : Bool) (v : Node Fragment) (o p q : Option (Node Fragment)) → p ≡ or_else o q → cond b (Some v) p ≡ or_else (cond b (Some v) o) q
cond_both true v o p q is = refl
cond_both false v o p q is = is

lookup_both : (test : NameText → Bool) (xs ys : List Entry) → lookup test (xs ++ ys) ≡ or_else (lookup test xs) (lookup test ys)
lookup_both test [] ys = refl
lookup_both test (x ∷ xs) ys = cond_both (test x.0) x.1 (lookup test xs) (lookup test (xs ++ ys)) (lookup test ys) (lookup_both test xs ys)

one_name : (entries : List Entry) (a b : NameText) → SameName a b → lookup (same_name a) entries ≡ lookup (same_name b) entries
one_name entries a b same = ap (λ (text : List ℕ). lookup (same_name (record { text = text; location = None })) entries) (same_text a b same)

-- ==== the first of each name

pub first_of_nothing : (old : List Entry) → HasFirst [] old old
first_of_nothing old name =
    subst (λ l. IsSameFound (lookup (same_name name) l) (lookup (same_name name) old)) (sym (append-nil old)) (same_found_itself (lookup (same_name name) old))

pub first_then : (xs ys old mid new : List Entry) → HasFirst xs old mid → HasFirst ys mid new → HasFirst (xs ++ ys) old new
first_then xs ys old mid new first rest name =
    let test = same_name name in
    let parts : lookup test (old ++ (xs ++ ys)) ≡ or_else (lookup test (old ++ xs)) (lookup test ys) = ap (lookup test) (sym (append_assoc old xs ys)) ∙ lookup_both test (old ++ xs) ys in
    let before = same_before (lookup test (old ++ xs)) (lookup test mid) (lookup test ys) (first name) in
    let behind = subst (λ o. IsSameFound o (lookup test new)) (lookup_both test mid ys) (rest name) in
    subst (λ o. IsSameFound o (lookup test new)) (sym parts)
    (same_found_then (or_else (lookup test (old ++ xs)) (lookup test ys)) (or_else (lookup test mid) (lookup test ys)) (lookup test new) before behind)

pub first_of_file : (files : List ExecutableDocument) (i : ℕ) (file : ExecutableDocument) (old mid new : List Entry) → i < length files → file ≡ get_or files i file →
    HasFirst (entries_among (take i files)) old mid → HasFirst file.fragments.entries mid new → HasFirst (entries_among (take (i + 1) files)) old new
first_of_file files i file old mid new within is first rest =
    let more : take (i + 1) files ≡ take i files ++ file ∷ [] = more_is files i file within is in
    let parts : entries_among (take (i + 1) files) ≡ entries_among (take i files) ++ file.fragments.entries =
    ap entries_among more ∙ flat_map-append (λ (d : ExecutableDocument). d.fragments.entries) (take i files) (file ∷ []) ∙
    ap (λ l. entries_among (take i files) ++ l) (append-nil file.fragments.entries) in
    subst (λ l. HasFirst l old new) (sym parts) (first_then (entries_among (take i files)) file.fragments.entries old mid new first rest)

-- a fragment of whose name there is one adds nothing that is found
still_found : (old : List Entry) (name n : NameText) (d : Node Fragment) (same : Bool) → same_name n name ≡ same → IsSome (lookup (same_name name) old) →
    or_else (lookup (same_name n) old) (cond same (Some d) None) ≡ lookup (same_name n) old
still_found old name n d true is found = or_else_found (lookup (same_name n) old) (Some d) (subst IsSome (sym (one_name old n name is)) found)
still_found old name n d false is found = or_else_none (lookup (same_name n) old)

same_if : (same : Bool) (d e : Node Fragment) → IsSameFound (Some d) (Some e) → IsSameFound (cond same (Some d) None) (cond same (Some e) None)
same_if true d e is = is
same_if false d e is = tt

pub first_of_one : (name : NameText) (d : Node Fragment) (old new : List Entry) → AddsIfNew name d old new → HasFirst ((name, d) ∷ []) old new
first_of_one name d old new (was_there found same) n =
    let is : lookup (same_name n) (old ++ (name, d) ∷ []) ≡ lookup (same_name n) old =
    lookup_both (same_name n) old ((name, d) ∷ []) ∙ still_found old name n d (same_name n name) refl found in
    subst (λ l. IsSameFound (lookup (same_name n) (old ++ (name, d) ∷ [])) (lookup (same_name n) l)) (sym same)
    (subst (λ o. IsSameFound o (lookup (same_name n) old)) (sym is) (same_found_itself (lookup (same_name n) old)))
first_of_one name d old new (is_new e same none appended) n =
    let here = lookup (same_name n) old in
    let given = lookup_both (same_name n) old ((name, d) ∷ []) in
    let made = lookup_both (same_name n) old ((name, e) ∷ []) in
    subst (λ l. IsSameFound (lookup (same_name n) (old ++ (name, d) ∷ [])) (lookup (same_name n) l)) (sym appended)
    (subst (λ o. IsSameFound o (lookup (same_name n) (old ++ (name, e) ∷ []))) (sym given)
    (subst (λ o. IsSameFound (or_else here (cond (same_name n name) (Some d) None)) o) (sym made)
    (same_behind here (cond (same_name n name) (Some d) None) (cond (same_name n name) (Some e) None) (same_if (same_name n name) d e same))))
