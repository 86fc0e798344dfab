-- Lists of fields from one table of contents compare by their numbers as by their contents.
use Rattle.std.proofs.Common.{◌≡◌, subst, ◌↔◌, Bool, true, false, ◌&&◌, ◌||◌, ℕ, zero, suc, ◌<◌, arith, get_or, length, List, [], ◌∷◌, ◌++◌, All, Vec, ap, map, nat_eq, refl, sym, ◌∙◌}
use Rattle.std.specs.Prelude.{IfOk, IsFalse, IsTrue, OnErr, Result}
use Rattle.std.proofs.Common.{Ok, Err}
use Rattle.std.specs.Cmp.Lexicographic.{pointwise}
use Rattle.std.specs.List.{Any, list_any}
use Rattle.std.proofs.Math.Logic.{∥∥₁_elim}
use Rattle.std.proofs.Props.{props}
use Rattle.std.proofs.lemmas.Bool.{eq-eqb, eqb-true}
use Rattle.std.proofs.lemmas.List.{map-append}
use Rattle.std.proofs.lemmas.List.Elements.{All-append, All-cons, All-head, All-nil, All-tail}
use Rattle.std.proofs.lemmas.List.Folds.{Any-from_list_any, list_any-from_Any}
use Rattle.std.specs.declared.alloc.Global.{Global}
use Rattle.indexmap.specs.IndexSet.{insert_key}
use Rattle.graphql_contents.specs.Contents.{AreNumbered, HasNumber, IsTable, nested_selections}
use Rattle.graphql_contents.specs.Documents.{IsNumberedSet}
use Rattle.graphql_contents.specs.declared.documents.NumberedSet.{NumberedSet}
use Rattle.graphql_contents.specs.declared.contents.Content.{Content}
use Rattle.graphql_contents.proofs.TableLemmas.{one_number, same_at}
use Rattle.graphql_documents.proofs.ContentLemmas.{equality_of_fields}
use Rattle.graphql_documents.proofs.ListLemmas.{made_of, stands_mapped}
use Rattle.graphql_documents.specs.Contents.{SameField}
use Rattle.graphql_documents.specs.Selections.{selections_of}
use Rattle.graphql_documents.specs.declared.documents.executables.Field.{Field}
use Rattle.graphql_documents.specs.declared.documents.executables.InlineFragment.{InlineFragment}
use Rattle.graphql_documents.specs.declared.documents.executables.Selection.{Selection}
use Rattle.graphql_documents.specs.declared.documents.executables.Selection.TheVariants as kind
use Rattle.graphql_nodes.specs.declared.nodes.Node.{Node}
use Rattle.graphql_nodes.specs.Names.{same_name}
use Rattle.graphql_variables.proofs.UseLemmas.{any_has, has_any}
use Rattle.graphql_specification.specs.Merging.{SameFields}
use Rattle.graphql_laws.specs.Equality.{field_equality}
use Rattle.graphql_contents.proofs.SelectionPartLemmas.{nested_in_field, nested_in_inline, same_fields_are}
use Rattle.graphql_merging.specs.NumberedFields.{AreNumberedIn, IsNumberedIn, listed, lists_of}
use Rattle.graphql_merging.specs.contracts.numbered_fields.FieldListPartialEq.TheImpl as list_impl
use Rattle.graphql_merging.specs.contracts.numbered_fields.NumberedFieldPartialEq.TheImpl as field_impl
use Rattle.graphql_merging.specs.declared.numbered_fields.FieldList.{FieldList}
use Rattle.graphql_merging.specs.declared.numbered_fields.NumberedField.{NumberedField}

-- what `==` answers of two lists
abbrev pub same_list : FieldList → FieldList → Bool
same_list = list_impl.ghosts.eq

abbrev same_field : NumberedField → NumberedField → Bool
same_field = field_impl.ghosts.eq

-- the fields of each
abbrev pub fields_of : List FieldList → List (Vec NumberedField Global)
fields_of lists = map (λ list. list.fields) lists

-- two fields have the same contents, on types of one name
abbrev pub same_selection : NumberedField → NumberedField → Bool
same_selection x y = same_name x.parent_type.now y.parent_type.now && field_equality x.field.now.value.value y.field.now.value.value

-- each of three tests, of which the second decides Q and the last R
three : (a b c : Bool) (Q R : Type 0) → IsTrue b ↔ Q → IsTrue c ↔ R → IsTrue ((a && b) && c) ↔ ((IsTrue a × Q) × R)
three true true c Q R is h = (λ e. ((refl, is.0 refl), h.0 e), λ p. h.1 p.1)
three true false c Q R is h = (λ e. absurd (let no : ⊥ = cc in no), λ p. absurd (let e = is.1 p.0.1 in let no : ⊥ = cc in no))
three false b c Q R is h = (λ e. absurd (let no : ⊥ = cc in no), λ p. absurd (let e = p.0.0 in let no : ⊥ = cc in no))

-- the code's test of two lists decides whether their fields are the same
pub compared_lists : (xs ys : List NumberedField) → IsTrue (pointwise same_selection xs ys) ↔ SameFields (listed xs) (listed ys)
compared_lists [] [] = (λ h. tt, λ h. refl)
compared_lists [] (y ∷ ys) = (λ h. absurd (let no : ⊥ = cc in no), λ h. absurd h)
compared_lists (x ∷ xs) [] = (λ h. absurd (let no : ⊥ = cc in no), λ h. absurd h)
compared_lists (x ∷ xs) (y ∷ ys) =
    three (same_name x.parent_type.now y.parent_type.now) (field_equality x.field.now.value.value y.field.now.value.value)
    (pointwise same_selection xs ys) (SameField x.field.now.value.value y.field.now.value.value) (SameFields (listed xs) (listed ys))
    (equality_of_fields x.field.now.value.value y.field.now.value.value) (compared_lists xs ys)

-- and so whether a list of the same fields is among others
pub compared_with_any : (fields : List NumberedField) (known : List (Vec NumberedField Global)) →
    IsTrue (list_any (λ k. pointwise same_selection fields k.items) known) ↔ Any (SameFields (listed fields)) (lists_of known)
compared_with_any fields known = (there, back) where
  there : IsTrue (list_any (λ k. pointwise same_selection fields k.items) known) → Any (SameFields (listed fields)) (lists_of known)
  there e =
      let h = any_has (λ k. IsTrue (pointwise same_selection fields k.items)) known (Any-from_list_any (λ k. pointwise same_selection fields k.items) known e) in
      has_any (SameFields (listed fields)) (lists_of known) (listed h.0.items) (stands_mapped (λ k. listed k.items) known h.0 h.1) ((compared_lists fields h.0.items).0 h.2)

  back : Any (SameFields (listed fields)) (lists_of known) → IsTrue (list_any (λ k. pointwise same_selection fields k.items) known)
  back any =
      let h = any_has (SameFields (listed fields)) (lists_of known) any in
      let k = made_of (λ k. listed k.items) known h.0 h.1 in
      list_any-from_Any (λ k. pointwise same_selection fields k.items) known
      (has_any (λ k. IsTrue (pointwise same_selection fields k.items)) known k.0 k.1
      ((compared_lists fields k.0.items).1 (subst (SameFields (listed fields)) (sym k.2) h.2)))

-- two tests that hold together
both_or_none : (a b : Bool) → (IsTrue a → IsTrue b) → (IsTrue b → IsTrue a) → a ≡ b
both_or_none true b there back = sym (there refl)
both_or_none false true there back = back refl
both_or_none false false there back = refl

module _ (contents : List Content) (table : IsTable contents) where
  -- two fields have one number exactly where they have the same contents
  one_content : (x y : NumberedField) → IsNumberedIn contents x → IsNumberedIn contents y →
      nat_eq x.content y.content ≡ field_equality x.field.now.value.value y.field.now.value.value
  one_content x y of_x of_y =
      let a = kind.Field x.field.now in
      let b = kind.Field y.field.now in
      let alike = same_fields_are x.field.now y.field.now in
      both_or_none (nat_eq x.content y.content) (field_equality x.field.now.value.value y.field.now.value.value)
      (λ one. alike.0 (same_at contents a b y.content (subst (λ n. HasNumber contents a n) (eqb-true x.content y.content one) of_x) of_y))
      (λ same. eq-eqb x.content y.content (one_number contents table a b x.content y.content of_x of_y (alike.1 same)))

  -- so lists compare as their fields do
  lists_by_contents : (xs ys : List NumberedField) → AreNumberedIn contents xs → AreNumberedIn contents ys → pointwise same_field xs ys ≡ pointwise same_selection xs ys
  lists_by_contents [] [] of_xs of_ys = refl
  lists_by_contents [] (y ∷ ys) of_xs of_ys = refl
  lists_by_contents (x ∷ xs) [] of_xs of_ys = refl
  lists_by_contents (x ∷ xs) (y ∷ ys) of_xs of_ys =
      let first = one_content x y (All-head (IsNumberedIn contents) x xs of_xs) (All-head (IsNumberedIn contents) y ys of_ys) in
      let rest = lists_by_contents xs ys (All-tail (IsNumberedIn contents) x xs of_xs) (All-tail (IsNumberedIn contents) y ys of_ys) in
      λ i. (same_name x.parent_type.now y.parent_type.now && first i) && rest i

  -- and so does a list among others
  among_by_contents : (list : FieldList) (known : List FieldList) → AreNumberedIn contents list.fields.items → All (λ k. AreNumberedIn contents k.fields.items) known →
      list_any (same_list list) known ≡ list_any (λ k. pointwise same_selection list.fields.items k.items) (fields_of known)
  among_by_contents list [] of_list of_known = refl
  among_by_contents list (k ∷ ks) of_list of_known =
      let first = lists_by_contents list.fields.items k.fields.items of_list (All-head (λ k. AreNumberedIn contents k.fields.items) k ks of_known) in
      let rest = among_by_contents list ks of_list (All-tail (λ k. AreNumberedIn contents k.fields.items) k ks of_known) in
      λ i. first i || rest i

-- the same of a table that there is
pub among : (contents : List Content) → ∥ IsTable contents ∥₁ → (list : FieldList) (known : List FieldList) →
    AreNumberedIn contents list.fields.items → All (λ k. AreNumberedIn contents k.fields.items) known →
    list_any (same_list list) known ≡ list_any (λ k. pointwise same_selection list.fields.items k.items) (fields_of known)
among contents table list known of_list of_known = ∥∥₁_elim table (Prim.hlevel props) (λ t. among_by_contents contents t list known of_list of_known)

-- a list that is not among others goes in behind them
pub added_list : (list : FieldList) (known keys : List FieldList) → IsFalse (list_any (same_list list) known) →
    keys ≡ insert_key same_list known list → lists_of (fields_of keys) ≡ lists_of (fields_of known) ++ listed list.fields.items ∷ []
added_list list known keys other inserted =
    let missing : list_any (same_list list) known ≡ false = other in
    ap (λ lists. lists_of (fields_of lists)) (inserted ∙ rw missing refl) ∙
    ap lists_of (map-append (λ list. list.fields) known (list ∷ [])) ∙ map-append (λ fields. listed fields.items) (fields_of known) (list.fields ∷ [])

-- the numbers of lists after one was put among them, or was not
put_numbered : (contents : List Content) (list : FieldList) (known : List FieldList) → All (λ k. AreNumberedIn contents k.fields.items) known →
    AreNumberedIn contents list.fields.items → (b : Bool) → list_any (same_list list) known ≡ b → All (λ k. AreNumberedIn contents k.fields.items) (insert_key same_list known list)
put_numbered contents list known of_known of_list true e = rw e of_known
put_numbered contents list known of_known of_list false e = rw e (All-append (λ k. AreNumberedIn contents k.fields.items) known (list ∷ []) of_known
    (All-cons (λ k. AreNumberedIn contents k.fields.items) list [] of_list (All-nil (λ k. AreNumberedIn contents k.fields.items))))

pub lists_after : {T E : Type 0} (result : Result T E) (contents : List Content) (list : FieldList) (known keys : List FieldList) →
    IfOk result (λ x. keys ≡ insert_key same_list known list) → OnErr result (keys ≡ known) →
    All (λ k. AreNumberedIn contents k.fields.items) known → AreNumberedIn contents list.fields.items → All (λ k. AreNumberedIn contents k.fields.items) keys
lists_after (Ok x) contents list known keys inserted unchanged of_known of_list =
    subst (All (λ k. AreNumberedIn contents k.fields.items)) (sym inserted) (put_numbered contents list known of_known of_list (list_any (same_list list) known) refl)
lists_after (Err e) contents list known keys inserted unchanged of_known of_list = subst (All (λ k. AreNumberedIn contents k.fields.items)) (sym unchanged) of_known

-- a field with the number of its selection
pub field_numbered : (contents : List Content) (old new : List NumberedField) (x : NumberedField) (s : Selection) → new ≡ old ++ x ∷ [] → s ≡ kind.Field x.field.now →
    HasNumber contents s x.content → AreNumberedIn contents old → AreNumberedIn contents new
field_numbered contents old new x s is from has all =
    subst (AreNumberedIn contents) (sym is)
    (All-append (IsNumberedIn contents) old (x ∷ []) all
    (All-cons (IsNumberedIn contents) x [] (subst (λ t. HasNumber contents t x.content) from has) (All-nil (IsNumberedIn contents))))

-- a set behind others
pub set_numbered : (contents : List Content) (old new : List NumberedSet) (x : NumberedSet) → new ≡ old ++ x ∷ [] → IsNumberedSet contents x →
    All (IsNumberedSet contents) old → All (IsNumberedSet contents) new
set_numbered contents old new x is own all =
    subst (All (IsNumberedSet contents)) (sym is) (All-append (IsNumberedSet contents) old (x ∷ []) all (All-cons (IsNumberedSet contents) x [] own (All-nil (IsNumberedSet contents))))

-- the numbers of what is in the set of an inline fragment, and of a field
pub inline_set_numbered : (contents : List Content) (s : Selection) (i : Node InlineFragment) (numbers : List ℕ) → s ≡ kind.InlineFragment i →
    AreNumbered contents (nested_selections s) numbers → AreNumbered contents (selections_of i.value.value.selection_set) numbers
inline_set_numbered contents s i numbers is are = subst (λ l. AreNumbered contents l numbers) (ap nested_selections is ∙ nested_in_inline i) are

pub field_set_numbered : (contents : List Content) (f : Node Field) (numbers : List ℕ) → AreNumbered contents (nested_selections (kind.Field f)) numbers →
    AreNumbered contents (selections_of f.value.value.selection_set) numbers
field_set_numbered contents f numbers are = subst (λ l. AreNumbered contents l numbers) (nested_in_field f) are

-- the number of the selection at a place
pub number_at : (contents : List Content) (xs : List Selection) (ns : List ℕ) (i : ℕ) (s : Selection) → AreNumbered contents xs ns → i < length xs → s ≡ get_or xs i s →
    HasNumber contents s (get_or ns i 0)
number_at contents [] ns i s are within is = absurd (omega arith)
number_at contents (x ∷ xs) [] i s are within is = absurd are
number_at contents (x ∷ xs) (n ∷ ns) zero s are within is = subst (λ t. HasNumber contents t n) (sym is) are.0
number_at contents (x ∷ xs) (n ∷ ns) (suc i) s are within is = number_at contents xs ns i s are.1 (omega arith) is
