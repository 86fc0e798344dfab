-- Definitions that are built in order, each under its name.
use Rattle.std.proofs.Common.{◌≡◌, ℕ, suc, Bool, true, false, List, [], ◌∷◌, ◌++◌, ◌+◌, ◌<◌, Option, None, Some, length, get_or, take, drop, map, refl, sym, ap, add-one, append-nil, drop-cons, ◌∙◌, subst, arith, All, Contains}
use Rattle.std.specs.List.{AllZip, cons_option, filter_map}
use Rattle.std.specs.Prelude.{AllPairs, filter, is_none, if◌then◌else◌}
use Rattle.std.specs.Map.{lookup}
use Rattle.std.proofs.lemmas.List.{take_more, take-append-drop}
use Rattle.std.proofs.lemmas.List.Elements.{All-contains, Contains-append_right, filter_map-append}
use Rattle.graphql_documents.proofs.ListLemmas.{kept_by_map, stands_first, stands_mapped}
use Rattle.graphql_leaf_building.proofs.ListLemmas.{zip_pushed}
use Rattle.graphql_nodes.proofs.NameLemmas.{not_both, same_name_back}
use Rattle.graphql_nodes.specs.Names.{AreDistinct, DifferentNames, NameText, same_name}
use Rattle.graphql_trees.specs.declared.documents.Definition.{Definition}
use Rattle.graphql_trees.specs.declared.documents.Definition.TheVariants as definition
use Rattle.graphql_trees.specs.declared.executable.OperationDefinition.{OperationDefinition}
use Rattle.graphql_document_building.specs.Documents.{SaysUnderName}
use Rattle.graphql_document_building.specs.Trees.{anonymous_operations_in, as_anonymous_operation, as_operation, operations_in}

pairs_head : {X : Type 0} (R : X → X → Type 0) (x : X) (xs : List X) → AllPairs R (x ∷ xs) → All (R x) xs
pairs_head R x xs all = λ k d within. all 0 (suc k) d (omega arith) (omega arith)

pairs_tail : {X : Type 0} (R : X → X → Type 0) (x : X) (xs : List X) → AllPairs R (x ∷ xs) → AllPairs R xs
pairs_tail R x xs all = λ i j d before within. all (suc i) (suc j) d (omega arith) (omega arith)

different_if : (a b : NameText) (same : Bool) → same ≡ same_name b a → DifferentNames a b → DifferentNames b a
different_if a b true is differ = absurd (not_both a b (same_name_back b a (sym is)) differ)
different_if a b false is differ = sym is

different_back : (a b : NameText) → DifferentNames a b → DifferentNames b a
different_back a b = different_if a b (same_name b a) refl

module _ {X Y : Type 0} (Says : X → Y → Type 0) where
  -- where names are distinct, none of the earlier ones is found under a later one
  pub absent : (before behind : List (NameText × X)) (p : NameText × X) (es : List (NameText × Y)) →
      AreDistinct (map (λ p. p.0) (before ++ p ∷ behind)) → AllZip (SaysUnderName Says) before es → lookup (same_name p.0) es ≡ None
  absent [] behind p [] distinct says = refl
  absent [] behind p (e ∷ es) distinct says = absurd says
  absent (q ∷ before) behind p [] distinct says = absurd says
  absent (q ∷ before) behind p (e ∷ es) distinct says =
      let names = map (λ p. p.0) (before ++ p ∷ behind) in
      let stands : Contains names p.0 = stands_mapped (λ (p : NameText × X). p.0) (before ++ p ∷ behind) p (Contains-append_right before (p ∷ behind) p (stands_first p behind)) in
      let differ : DifferentNames q.0 p.0 = All-contains (DifferentNames q.0) names p.0 (pairs_head DifferentNames q.0 names distinct) stands in
      let other : same_name p.0 e.0 ≡ false = subst (λ (name : NameText). same_name p.0 name ≡ false) (sym says.0.0) (different_back q.0 p.0 differ) in
      rw other (absent before behind p es (pairs_tail DifferentNames q.0 names distinct) says.1)

  module _ {D : Type 0} (h : D → Option (NameText × X)) (trees : List D) (i : ℕ) (x : D) (within : i < length trees) (is : x ≡ get_or trees i x) where
    split : trees ≡ take i trees ++ x ∷ drop (i + 1) trees
    split = sym (take-append-drop i trees) ∙ ap (λ l. take i trees ++ l) (rw add-one (drop-cons trees i x within ∙ ap (λ y. y ∷ drop (suc i) trees) (sym is)))

    made : filter_map h trees ≡ filter_map h (take i trees) ++ filter_map h (x ∷ drop (i + 1) trees)
    made = ap (filter_map h) split ∙ filter_map-append h (take i trees) (x ∷ drop (i + 1) trees)

    pub not_there : (p : NameText × X) (es : List (NameText × Y)) → h x ≡ Some p →
        AreDistinct (map (λ p. p.0) (filter_map h trees)) → AllZip (SaysUnderName Says) (filter_map h (take i trees)) es → lookup (same_name p.0) es ≡ None
    not_there p es gives distinct says =
        let all : filter_map h trees ≡ filter_map h (take i trees) ++ p ∷ filter_map h (drop (i + 1) trees) = made ∙ (rw gives refl) in
        absent (filter_map h (take i trees)) (filter_map h (drop (i + 1) trees)) p es
        (subst (λ (l : List (NameText × X)). AreDistinct (map (λ p. p.0) l)) all distinct) says

    more : filter_map h (take (i + 1) trees) ≡ filter_map h (take i trees) ++ filter_map h (x ∷ [])
    more = ap (filter_map h) (take_more trees i x within) ∙ (rw (← is) (filter_map-append h (take i trees) (x ∷ [])))

    pub one_more : (p : NameText × X) (q : NameText × Y) (es new : List (NameText × Y)) → h x ≡ Some p → new ≡ es ++ q ∷ [] →
        AllZip (SaysUnderName Says) (filter_map h (take i trees)) es → SaysUnderName Says p q → AllZip (SaysUnderName Says) (filter_map h (take (i + 1) trees)) new
    one_more p q es new gives grown says one =
        rw (more, gives, grown) (zip_pushed (SaysUnderName Says) (filter_map h (take i trees)) es p q says one)

    pub no_more : (es : List (NameText × Y)) → h x ≡ None →
        AllZip (SaysUnderName Says) (filter_map h (take i trees)) es → AllZip (SaysUnderName Says) (filter_map h (take (i + 1) trees)) es
    no_more es gives says = rw (more, gives, append-nil) says

-- the operations without a name are those among the operations
chosen : {X : Type 0} (x : X) (b : Bool) (l m : List X) → l ≡ m → cons_option (if b then Some x else None) l ≡ (if b then x ∷ m else m)
chosen x true l m same = ap (λ l. x ∷ l) same
chosen x false l m same = same

anonymous_are : (ds : List Definition) → anonymous_operations_in ds ≡ filter (λ x. is_none x.name) (operations_in ds)
anonymous_are [] = refl
anonymous_are (definition.Operation x ∷ ds) = chosen x (is_none x.name) (anonymous_operations_in ds) (filter (λ x. is_none x.name) (operations_in ds)) (anonymous_are ds)
anonymous_are (_ ∷ ds) = anonymous_are ds

nameless : (d : Definition) (x : OperationDefinition) → as_anonymous_operation d ≡ Some x → (as_operation d ≡ Some x) × (is_none x.name ≡ true)
nameless (definition.Operation y) x is = nameless_if y (is_none y.name) refl x is
  where
    nameless_if : (y : OperationDefinition) (b : Bool) → b ≡ is_none y.name → (x : OperationDefinition) → (if b then Some y else None) ≡ Some x → (Some y ≡ Some x) × (is_none x.name ≡ true)
    nameless_if y true named x is = (is, let same : y ≡ x = cc in subst (λ z. is_none z.name ≡ true) same (sym named))
    nameless_if y false named x is = absurd (let no : ⊥ = cc in no)
nameless _ x is = absurd (let no : ⊥ = cc in no)

-- where an operation without a name is the only one, it is the only one without a name
pub alone : (ds : List Definition) (d : Definition) (x : OperationDefinition) → Contains ds d → as_anonymous_operation d ≡ Some x →
    All (λ x. operations_in ds ≡ x ∷ []) (anonymous_operations_in ds) → anonymous_operations_in ds ≡ x ∷ []
alone ds d x stands is all =
    let only : operations_in ds ≡ x ∷ [] =
    All-contains (λ x. operations_in ds ≡ x ∷ []) (anonymous_operations_in ds) x all (kept_by_map as_anonymous_operation ds d x stands is) in
    let named : is_none x.name ≡ true = (nameless d x is).1 in
    anonymous_are ds ∙ ap (filter (λ x. is_none x.name)) only ∙ rw named refl

pub none_yet : (ds : List Definition) (i : ℕ) (d : Definition) → i < length ds → d ≡ get_or ds i d → as_anonymous_operation d ≡ None →
    anonymous_operations_in (take i ds) ≡ [] → anonymous_operations_in (take (i + 1) ds) ≡ []
none_yet ds i d within is none before =
    let parts : anonymous_operations_in (take (i + 1) ds) ≡ anonymous_operations_in (take i ds) ++ anonymous_operations_in (d ∷ []) =
    ap anonymous_operations_in (take_more ds i d within) ∙ (rw (← is) (filter_map-append as_anonymous_operation (take i ds) (d ∷ []))) in
    rw (parts, before, none) refl
