-- The text of a reference to a type, and the place of the name in it, fix the reference as it is written.
use Rattle.std.proofs.Common.{◌≡◌, ◌∙◌, ℕ, Bool, true, false, List, [], ◌∷◌, ◌++◌, Option, ap, ap₂, codes, refl, subst, sym, true≢false}
use Rattle.std.specs.Prelude.{◌&&◌, ◌==◌, IsTrue}
use Rattle.std.specs.List.{list_all}
use Rattle.std.proofs.lemmas.List.{append_assoc, append_cancel_left, append_cancel_right}
use Rattle.std.proofs.lemmas.List.Folds.{list_all-append}
use Rattle.graphql_nodes.specs.Names.{NameText, continues_name, is_name, starts_name}
use Rattle.graphql_nodes.specs.declared.spans.SourceSpan.{SourceSpan}
use Rattle.graphql_documents.specs.TypeReferences.{TypeText, as_written, inner_named_type, list_text, name_text, non_null_list_text, non_null_name_text, type_text}
use Rattle.graphql_documents.specs.declared.documents.type_references.Type.{«Type»}
use Rattle.graphql_documents.specs.declared.documents.type_references.Type.TheVariants.{Named, NonNullNamed, List', NonNullList'}

abbrev first_of : List ℕ → ℕ
first_of [] = 0
first_of (c ∷ cs) = c

abbrev last_of : List ℕ → ℕ
last_of [] = 0
last_of (c ∷ []) = c
last_of (c ∷ (d ∷ cs)) = last_of (d ∷ cs)

last_is : (xs : List ℕ) (c : ℕ) → last_of (xs ++ c ∷ []) ≡ c
last_is [] c = refl
last_is (x ∷ []) c = refl
last_is (x ∷ (y ∷ xs)) c = last_is (y ∷ xs) c

and_false : (a : Bool) → (a && false) ≡ false
and_false true = refl
and_false false = refl

-- a name with `!` behind it is no name
no_name_ends_so : (text : List ℕ) → is_name (text ++ codes "!") ≡ false
no_name_ends_so [] = refl
no_name_ends_so (c ∷ cs) =
    let tail : list_all continues_name (cs ++ codes "!") ≡ false = list_all-append continues_name cs (codes "!") ∙ and_false (list_all continues_name cs) in
    ap (λ b. starts_name c && b) tail ∙ and_false (starts_name c)

-- a name does not begin with `[`
no_name_begins_so : (text rest : List ℕ) → IsTrue (is_name text) → text ++ codes "!" ≡ 91 ∷ rest → ⊥
no_name_begins_so [] rest p e = true≢false (sym p)
no_name_begins_so (c ∷ cs) rest p e = true≢false (sym (subst (λ d. is_name (d ∷ cs) ≡ true) (ap first_of e) p))

abbrev name_of : List ℕ → Option SourceSpan → NameText
name_of text location = record { text = text; location = location }

pub one_name : (a b : NameText) → a.text ≡ b.text → a.location ≡ b.location → a ≡ b
one_name a b text location = ap₂ name_of text location

-- a list and a non-null list end differently
ends_differ : (xs ys : List ℕ) → xs ++ codes "]" ≡ ys ++ codes "]!" → ⊥
ends_differ xs ys e =
    let left : last_of (xs ++ codes "]") ≡ 93 = last_is xs 93 in
    let right : last_of (ys ++ codes "]!") ≡ 33 = ap last_of (sym (append_assoc ys (codes "]") (codes "!"))) ∙ last_is (ys ++ codes "]") 33 in
    let same : 93 ≡ 33 = sym left ∙ ap last_of e ∙ right in
    true≢false (ap (λ n. n == 93) same)

-- the name is a name
abbrev HasName : «Type» → Type 0
HasName ty = IsTrue (is_name (inner_named_type ty).text)

pub type_is_fixed : (t u : «Type») → HasName t → HasName u → (inner_named_type t).location ≡ (inner_named_type u).location →
    type_text t ≡ type_text u → as_written t ≡ as_written u
type_is_fixed (Named a) (Named b) p q at e = ap name_text (one_name a b e at)
type_is_fixed (Named a) (NonNullNamed b) p q at e = absurd (true≢false (sym p ∙ ap is_name e ∙ no_name_ends_so b.text))
type_is_fixed (Named a) (List' place u) p q at e = absurd (true≢false (sym p ∙ ap is_name e))
type_is_fixed (Named a) (NonNullList' place u) p q at e = absurd (true≢false (sym p ∙ ap is_name e))
type_is_fixed (NonNullNamed a) (Named b) p q at e = absurd (true≢false (sym q ∙ ap is_name (sym e) ∙ no_name_ends_so a.text))
type_is_fixed (NonNullNamed a) (NonNullNamed b) p q at e = ap non_null_name_text (one_name a b (append_cancel_right a.text b.text (codes "!") e) at)
type_is_fixed (NonNullNamed a) (List' place u) p q at e = absurd (no_name_begins_so a.text (type_text u ++ codes "]") p e)
type_is_fixed (NonNullNamed a) (NonNullList' place u) p q at e = absurd (no_name_begins_so a.text (type_text u ++ codes "]!") p e)
type_is_fixed (List' place t) (Named b) p q at e = absurd (true≢false (sym q ∙ ap is_name (sym e)))
type_is_fixed (List' place t) (NonNullNamed b) p q at e = absurd (no_name_begins_so b.text (type_text t ++ codes "]") q (sym e))
type_is_fixed (List' place t) (List' other u) p q at e =
    ap list_text (type_is_fixed t u p q at (append_cancel_right _ _ (codes "]") (append_cancel_left (codes "[") _ _ e)))
type_is_fixed (List' place t) (NonNullList' other u) p q at e = absurd (ends_differ (type_text t) (type_text u) (append_cancel_left (codes "[") _ _ e))
type_is_fixed (NonNullList' place t) (Named b) p q at e = absurd (true≢false (sym q ∙ ap is_name (sym e)))
type_is_fixed (NonNullList' place t) (NonNullNamed b) p q at e = absurd (no_name_begins_so b.text (type_text t ++ codes "]!") q (sym e))
type_is_fixed (NonNullList' place t) (List' other u) p q at e = absurd (ends_differ (type_text u) (type_text t) (append_cancel_left (codes "[") _ _ (sym e)))
type_is_fixed (NonNullList' place t) (NonNullList' other u) p q at e =
    ap non_null_list_text (type_is_fixed t u p q at (append_cancel_right _ _ (codes "]!") (append_cancel_left (codes "[") _ _ e)))

-- the name in a type as it is written
abbrev name_in : TypeText → NameText
name_in (name_text name) = name
name_in (non_null_name_text name) = name
name_in (list_text item) = name_in item
name_in (non_null_list_text item) = name_in item

its_name : (t : «Type») → name_in (as_written t) ≡ inner_named_type t
its_name (Named a) = refl
its_name (NonNullNamed a) = refl
its_name (List' place t) = its_name t
its_name (NonNullList' place t) = its_name t

-- types that are the same as they are written have one name
pub one_name_within : (t u : «Type») → as_written t ≡ as_written u → inner_named_type t ≡ inner_named_type u
one_name_within t u e = sym (its_name t) ∙ ap name_in e ∙ its_name u
