-- Fields of one signature that no text holds are the same but for places in memory.
use Rattle.std.proofs.Common.{◌≡◌, ◌∙◌, ◌<◌, ◌≤◌, ℕ, Bool, false, true, List, [], ◌∷◌, Option, None, Some, All, ap, arith, get_or, length, map, subst, sym, true≢false}
use Rattle.std.specs.Prelude.{is_some, sum_by}
use Rattle.std.proofs.lemmas.List.{nil_from_length}
use Rattle.std.proofs.lemmas.List.Elements.{All-from_get_or, All-head, All-nil, All-tail}
use Rattle.std.proofs.lemmas.List.Sums.{get_or-le-sum_by}
use Rattle.graphql_nodes.specs.declared.nodes.Node.{Node}
use Rattle.graphql_documents.specs.MetaFields.{ArgumentHasNoPlace, FieldHasNoPlace, HasSignature, argument_signature}
use Rattle.graphql_documents.specs.declared.documents.definitions.FieldDefinition.{FieldDefinition}
use Rattle.graphql_documents.specs.declared.documents.definitions.InputValueDefinition.{InputValueDefinition}
use Rattle.graphql_documents.specs.declared.documents.directives.Directive.{Directive}
use Rattle.graphql_documents.specs.declared.documents.values.Value.{Value}
use Rattle.graphql_document_building.proofs.TypeTextLemmas.{one_name, type_is_fixed}
use Rattle.graphql_document_building.specs.SameLeaves.{SameDefault, SameDirectives, SameField, SameInputValue, SameInputValues}

abbrev Signature : Type 0
Signature = List ℕ × List ℕ × Bool

abbrev signature_of : Node InputValueDefinition → Signature
signature_of a = argument_signature a.value.value

-- the argument has no default value
abbrev pub HasNoDefault : Signature → Type 0
HasNoDefault signature = signature.2 ≡ false

same_nones : (xs ys : List (Node Directive)) → length xs ≡ 0 → length ys ≡ 0 → SameDirectives xs ys
same_nones xs ys p q = subst (λ l. SameDirectives l ys) (sym (nil_from_length xs p)) (subst (λ l. SameDirectives [] l) (sym (nil_from_length ys q)) tt)

no_defaults : (a b : Option (Node Value)) → is_some a ≡ false → is_some b ≡ false → SameDefault a b
no_defaults None None p q = tt
no_defaults None (Some b) p q = absurd (true≢false q)
no_defaults (Some a) b p q = absurd (true≢false p)

abbrev HasNoDirectives : Node InputValueDefinition → Type 0
HasNoDirectives a = length a.value.value.directives.items ≡ 0

argument_is_same : (a b : Node InputValueDefinition) → signature_of a ≡ signature_of b → HasNoDefault (signature_of a) → HasNoDefault (signature_of b) →
    ArgumentHasNoPlace a → ArgumentHasNoPlace b → HasNoDirectives a → HasNoDirectives b → SameInputValue a b
argument_is_same a b same none nor at there d e = record {
  name = one_name _ _ (ap (λ (s : Signature). s.0) same) (at.name ∙ sym there.name);
  ty = record {
    written = type_is_fixed _ _ at.type_name.text there.type_name.text (at.type_name.location ∙ sym there.type_name.location) (ap (λ (s : Signature). s.1) same);
    location = at.ty ∙ sym there.ty;
  };
  default_value = no_defaults _ _ none nor;
  directives = same_nones _ _ d e;
  location = at.itself ∙ sym there.itself;
}

abbrev is_nil : List Signature → Bool
is_nil [] = true
is_nil (s ∷ ss) = false

abbrev first_or : Signature → List Signature → Signature
first_or s [] = s
first_or s (t ∷ ts) = t

abbrev rest_of : List Signature → List Signature
rest_of [] = []
rest_of (s ∷ ss) = ss

arguments_are_same : (xs ys : List (Node InputValueDefinition)) → map signature_of xs ≡ map signature_of ys →
    All HasNoDefault (map signature_of xs) → All HasNoDefault (map signature_of ys) →
    All ArgumentHasNoPlace xs → All ArgumentHasNoPlace ys → All HasNoDirectives xs → All HasNoDirectives ys → SameInputValues xs ys
arguments_are_same [] [] same none nor at there d e = tt
arguments_are_same [] (b ∷ ys) same none nor at there d e = absurd (true≢false (ap is_nil same))
arguments_are_same (a ∷ xs) [] same none nor at there d e = absurd (true≢false (sym (ap is_nil same)))
arguments_are_same (a ∷ xs) (b ∷ ys) same none nor at there d e = (
  argument_is_same a b (ap (first_or (signature_of a)) same)
      (All-head HasNoDefault (signature_of a) (map signature_of xs) none) (All-head HasNoDefault (signature_of b) (map signature_of ys) nor)
      (All-head ArgumentHasNoPlace a xs at) (All-head ArgumentHasNoPlace b ys there) (All-head HasNoDirectives a xs d) (All-head HasNoDirectives b ys e),
  arguments_are_same xs ys (ap rest_of same)
      (All-tail HasNoDefault (signature_of a) (map signature_of xs) none) (All-tail HasNoDefault (signature_of b) (map signature_of ys) nor)
      (All-tail ArgumentHasNoPlace a xs at) (All-tail ArgumentHasNoPlace b ys there) (All-tail HasNoDirectives a xs d) (All-tail HasNoDirectives b ys e),
)

abbrev on_argument : Node InputValueDefinition → ℕ
on_argument a = length a.value.value.directives.items

none_has_directives : (xs : List (Node InputValueDefinition)) → sum_by on_argument xs ≡ 0 → All HasNoDirectives xs
none_has_directives [] none = All-nil HasNoDirectives
none_has_directives (x ∷ xs) none = All-from_get_or HasNoDirectives (x ∷ xs) x each where
  each : (i : ℕ) → i < length (x ∷ xs) → HasNoDirectives (get_or (x ∷ xs) i x)
  each i within =
      let least : on_argument (get_or (x ∷ xs) i x) ≤ sum_by on_argument (x ∷ xs) = get_or-le-sum_by on_argument (x ∷ xs) i x within in
      let none : on_argument (get_or (x ∷ xs) i x) ≡ 0 = omega (arith, least, none) in
      none

-- fields of one signature without default values, which no text holds
pub field_of_no_text_is_same : (a b : Node FieldDefinition) (name ty : List ℕ) (signatures : List Signature) → All HasNoDefault signatures →
    HasSignature a.value.value name signatures ty → HasSignature b.value.value name signatures ty → FieldHasNoPlace a → FieldHasNoPlace b → SameField a b
field_of_no_text_is_same a b name ty signatures none p q at there = record {
  name = one_name _ _ (p.named ∙ sym q.named) (at.name ∙ sym there.name);
  arguments = arguments_are_same a.value.value.arguments.items b.value.value.arguments.items (p.takes ∙ sym q.takes)
      (subst (All HasNoDefault) (sym p.takes) none) (subst (All HasNoDefault) (sym q.takes) none) at.arguments there.arguments
      (none_has_directives _ p.no_argument_directives) (none_has_directives _ q.no_argument_directives);
  ty = type_is_fixed _ _ at.type_name.text there.type_name.text (at.type_name.location ∙ sym there.type_name.location) (p.gives ∙ sym q.gives);
  directives = same_nones _ _ p.no_directives q.no_directives;
  location = at.itself ∙ sym there.itself;
}
