-- The numbers of the arguments of fields: what is known of some fields is known of those among them, and equal numbers are of the
-- same arguments.
use Rattle.std.proofs.Common.{◌≡◌, ℕ, List, [], ◌∷◌, ◌++◌, All, Contains, inl, inr, refl, subst, sym}
use Rattle.std.proofs.lemmas.List.Elements.{All-append, All-cons, All-contains, All-nil, All-weaker}
use Rattle.graphql_documents.proofs.ListLemmas.{only_one, stands_behind, stands_first}
use Rattle.graphql_documents.specs.declared.documents.schemas.Schema.{Schema}
use Rattle.graphql_specification.specs.Merging.{Pass, SameArguments}
use Rattle.graphql_value_numbers.specs.Arguments.{HaveNumber}
use Rattle.graphql_value_numbers.specs.Numbers.{Grows}
use Rattle.graphql_value_numbers.specs.declared.shapes.Shape.{Shape}
use Rattle.graphql_value_numbers.proofs.NumberLaws.{equal_arguments, grown_arguments}
use Rattle.graphql_pair_merging.specs.NumberedSets.{AreArgumentsNumbered, HasArgumentNumber, HaveArgumentNumbers, HaveNumbers}
use Rattle.graphql_pair_merging.specs.Pairs.{StandsIn}
use Rattle.graphql_pair_merging.specs.declared.numbered_sets.NumberedField.{NumberedField}
use Rattle.graphql_pair_merging.specs.declared.numbered_sets.NumberedSet.{NumberedSet}
use Rattle.graphql_pair_merging.proofs.PlaceLemmas.{stands_at}
use Rattle.graphql_pair_merging.proofs.SettleLemmas.{in_both}

-- the same of those among them
pub numbers_among : (fields few : List NumberedField) → ((x : NumberedField) → Contains few x → Contains fields x) → HaveNumbers fields → HaveNumbers few
numbers_among fields few among numbers = record { shapes = numbers.shapes; each = λ x in'. numbers.each x (among x in') }

-- of the first and one of the others
pub numbers_of_two : (x y : NumberedField) (others : List NumberedField) → Contains others y → HaveNumbers (x ∷ others) → HaveNumbers (x ∷ y ∷ [])
numbers_of_two x y others in' numbers = numbers_among (x ∷ others) (x ∷ y ∷ []) among numbers where
  among : (z : NumberedField) → Contains (x ∷ y ∷ []) z → Contains (x ∷ others) z
  among z here = elim (in_both (x ∷ []) (y ∷ []) (x ∷ y ∷ []) refl z here) [
    | inl first ↦ subst (Contains (x ∷ others)) (sym (only_one x z first)) (stands_first x others)
    | inr second ↦ subst (Contains (x ∷ others)) (sym (only_one y z second)) (stands_behind x others y in')
  ]

-- of one of them before all
pub numbers_with : (x : NumberedField) (fields : List NumberedField) → Contains fields x → HaveNumbers fields → HaveNumbers (x ∷ fields)
numbers_with x fields in' numbers = numbers_among fields (x ∷ fields) among numbers where
  among : (z : NumberedField) → Contains (x ∷ fields) z → Contains fields z
  among z here = elim (in_both (x ∷ []) fields (x ∷ fields) refl z here) [
    | inl first ↦ subst (Contains fields) (sym (only_one x z first)) in'
    | inr rest ↦ rest
  ]

-- of the fields in some sets
pub numbers_in_sets : (schema : Schema) (pass : Pass) (sets : List NumberedSet) (numbers : List ℕ) (fields : List NumberedField) →
    ((x : NumberedField) → Contains fields x → StandsIn schema pass sets numbers x) → HaveArgumentNumbers sets → HaveNumbers fields
numbers_in_sets schema pass sets numbers fields stand have = record {
  shapes = have.shapes;
  each = λ x in'. own x (stand x in');
} where
  own : (x : NumberedField) → StandsIn schema pass sets numbers x → HasArgumentNumber have.shapes x
  own x (n, a, of, at, in') =
      All-contains (HasArgumentNumber have.shapes) a.fields.items x
      (All-contains (λ s. AreArgumentsNumbered have.shapes s.fields.items) sets a have.each (stands_at sets n a at)) in'

-- two fields with one number have the same arguments
pub same_of_one_number : (x y : NumberedField) → HaveNumbers (x ∷ y ∷ []) → x.arguments ≡ y.arguments →
    SameArguments x.field.field.now.value.value.arguments.items y.field.field.now.value.value.arguments.items
same_of_one_number x y numbers one =
    let given = x.field.field.now.value.value.arguments.items in
    let others = y.field.field.now.value.value.arguments.items in
    equal_arguments numbers.shapes given others y.arguments
    (subst (HaveNumber numbers.shapes given) one (numbers.each x (stands_first x (y ∷ []))))
    (numbers.each y (stands_behind x (y ∷ []) y (stands_first y [])))

-- numbers stay where more values have some
pub numbered_still : (old new : List Shape) → Grows old new → (fields : List NumberedField) → AreArgumentsNumbered old fields → AreArgumentsNumbered new fields
numbered_still old new grows fields all =
    All-weaker (HasArgumentNumber old) (HasArgumentNumber new)
    (λ x own. grown_arguments old new grows x.field.field.now.value.value.arguments.items x.arguments own) fields all

pub sets_numbered_still : (old new : List Shape) → Grows old new → (sets : List NumberedSet) →
    All (λ x. AreArgumentsNumbered old x.fields.items) sets → All (λ x. AreArgumentsNumbered new x.fields.items) sets
sets_numbered_still old new grows sets all =
    All-weaker (λ (x : NumberedSet). AreArgumentsNumbered old x.fields.items) (λ (x : NumberedSet). AreArgumentsNumbered new x.fields.items)
    (λ x own. numbered_still old new grows x.fields.items own) sets all

-- one more field, and one more set
pub field_numbered : (old new : List Shape) → Grows old new → (before after : List NumberedField) (x : NumberedField) → after ≡ before ++ x ∷ [] →
    HasArgumentNumber new x → AreArgumentsNumbered old before → AreArgumentsNumbered new after
field_numbered old new grows before after x is own all =
    subst (AreArgumentsNumbered new) (sym is)
    (All-append (HasArgumentNumber new) before (x ∷ []) (numbered_still old new grows before all) (All-cons (HasArgumentNumber new) x [] own (All-nil (HasArgumentNumber new))))

pub set_numbered : (old new : List Shape) → Grows old new → (before after : List NumberedSet) (x : NumberedSet) → after ≡ before ++ x ∷ [] →
    AreArgumentsNumbered new x.fields.items → All (λ y. AreArgumentsNumbered old y.fields.items) before → All (λ y. AreArgumentsNumbered new y.fields.items) after
set_numbered old new grows before after x is own all =
    let P = λ (y : NumberedSet). AreArgumentsNumbered new y.fields.items in
    subst (All P) (sym is) (All-append P before (x ∷ []) (sets_numbered_still old new grows before all) (All-cons P x [] own (All-nil P)))
