-- Definitions of directives are read by the grammar, both ways, and locally.
use Rattle.std.proofs.Common.{◌≡◌, ℕ, ◌<◌, ◌≤◌, Bool, true, false, inl, inr, List, [], ◌∷◌, length, Result, Ok, Option, Some, refl, sym, subst, ◌∙◌, ap, arith}
use Rattle.std.specs.Str.{bytes_eq}
use Rattle.std.proofs.lemmas.Slice.Eq.{bytes_eq-Decides}
use Rattle.graphql_nodes.specs.declared.spans.SourceSpan.{SourceSpan}
use Rattle.graphql_tokens.specs.declared.token.TokenKind.TheVariants.{Name, At, LeftParenthesis, VerticalBar}
use Rattle.graphql_tokens.proofs.ScanLemmas.{chosen}
use Rattle.graphql_trees.specs.declared.type_system.DirectiveDefinition.{DirectiveDefinition}
use Rattle.graphql_nodes.specs.declared.directive_locations.DirectiveLocation.{DirectiveLocation}
use Rattle.graphql_nodes.specs.declared.directive_locations.DirectiveLocation.TheVariants as location
use Rattle.graphql_trees.specs.declared.type_system.PlacedDirectiveLocation.{PlacedDirectiveLocation}
use Rattle.graphql_trees.specs.declared.type_system.Description.{Description}
use Rattle.graphql_syntax.specs.declared.keywords.Keyword.TheVariants as keyword
use Rattle.graphql_syntax.specs.declared.refusals.Refusal.{Refusal}
use Rattle.graphql_syntax.specs.Inputs.{same_kind, Input, next_text, start_of, sees, sees_keyword}
use Rattle.graphql_syntax.specs.Many.{Perhaps}
use Rattle.graphql_syntax.proofs.Locality.{Local, takes_less, local_sequence, local_choose, local_answer, local_place, local_starting, kind_is_plain, keyword_is_plain}
use Rattle.graphql_syntax.proofs.TokenLocality.{local_take_one, local_text_with, local_name}
use Rattle.graphql_syntax.proofs.NextLemmas.{passes_not, keyword_is_name, other_keyword, Ends, not_bar}
use Rattle.graphql_syntax.proofs.ReaderLemmas.{sequence_ok, sequence_read, choose_ok, choose_first, choose_second, starting_ok, starting_read, placed_is, placed_read, answer_is, answer_read, take_one_ok, take_one_read, text_with_ok, text_with_read, name_ok, name_read}
use Rattle.graphql_type_system_syntax.specs.DirectiveDefinitions.{IsDirectiveLocation, IsRepeatable, IsDirectiveDefinition}
use Rattle.graphql_type_system_syntax.specs.DirectiveDefinitionReaders.{location_among, location_named, directive_location_at, repeatable_at, directive_behind}
use Rattle.graphql_type_system_syntax.specs.InputValues.{IsDescription}
use Rattle.graphql_nodes.specs.DirectiveLocations.{location_text, locations}
use Rattle.graphql_type_system_syntax.proofs.InputValueLemmas.{description_less, argument_definitions_sound, argument_definitions_read, argument_definitions_less, argument_definitions_local}
use Rattle.graphql_type_system_syntax.proofs.SeparatorLemmas.{Plain, separated_sound, separated_read, separated_moves, separated_local}

-- the text of the location that is found
among_sound : (xs : List DirectiveLocation) (text : List ℕ) (x : DirectiveLocation) → location_among xs text ≡ Some x → text ≡ location_text x
among_sound [] text x e = absurd (let b : ⊥ = cc in b)
among_sound (y ∷ ys) text x e = elim (chosen (bytes_eq text (location_text y)) (Some y) (location_among ys text) (Some x) e) [
  | inl h ↦
      let same : y ≡ x = let k = h.1 in cc in
      (bytes_eq-Decides text (location_text y)).0 h.0 ∙ ap location_text same
  | inr h ↦ among_sound ys text x h.1
]

named_sound : (text : List ℕ) (x : DirectiveLocation) → location_named text ≡ Some x → text ≡ location_text x
unfolding location_named
named_sound text x e = among_sound locations text x e

-- each location is found by its text
found : (x : DirectiveLocation) → location_named (location_text x) ≡ Some x
unfolding location_named
found location.Query = refl
found location.Mutation = refl
found location.Subscription = refl
found location.Field = refl
found location.FragmentDefinition = refl
found location.FragmentSpread = refl
found location.InlineFragment = refl
found location.VariableDefinition = refl
found location.Schema = refl
found location.Scalar = refl
found location.Object = refl
found location.FieldDefinition = refl
found location.ArgumentDefinition = refl
found location.Interface = refl
found location.Union = refl
found location.Enum = refl
found location.EnumValue = refl
found location.InputObject = refl
found location.InputFieldDefinition = refl

location_sound : (i : Input) (r : PlacedDirectiveLocation × Input) → directive_location_at i ≡ Ok r → IsDirectiveLocation i r.0 r.1
unfolding directive_location_at
location_sound i r e =
    let (location, el, e1) = sequence_ok _ _ _ _ (starting_ok _ _ _ e) in
    let (takes, same) = text_with_ok _ _ _ _ _ el in
    subst (λ (q : PlacedDirectiveLocation × Input). IsDirectiveLocation i q.0 q.1) (placed_is _ (λ span. record { location = location.0; span = span }) _ _ e1)
    (record { takes = takes; text = named_sound (next_text i) location.0 same; span = refl })

location_read : (i : Input) (x : PlacedDirectiveLocation) (j : Input) → IsDirectiveLocation i x j → directive_location_at i ≡ Ok (x, j)
unfolding directive_location_at
location_read i x j is =
    starting_read _ i _ (sequence_read _ _ i x.location j _ (text_with_read _ _ _ i j x.location is.takes (ap location_named is.text ∙ found x.location))
    (placed_read _ make j ∙ ap (λ s. ok (make s)) (sym is.span))) where
      make : SourceSpan → PlacedDirectiveLocation
      make span = record { location = x.location; span = span }

      ok : PlacedDirectiveLocation → Result (PlacedDirectiveLocation × Input) Refusal
      ok y = Ok (y, j)

location_local : (depth : ℕ) → Local depth directive_location_at
unfolding directive_location_at
location_local depth =
    local_starting depth _ (λ start. local_sequence depth _ _ (local_text_with depth _ _ _ (kind_is_plain Name refl refl)) (λ location.
    local_sequence depth _ _ (local_place depth start) (λ span. local_answer depth _)))

location_plain : Plain VerticalBar IsDirectiveLocation directive_location_at
unfolding same_kind
location_plain = record {
  sound = location_sound;
  reads = location_read;
  apart = λ i x j is. passes_not (λ k. same_kind k Name) (λ k. same_kind k VerticalBar) refl i is.takes.comes;
  moves = λ i x j is. omega (arith, takes_less _ _ _ is.takes);
}

-- `repeatable`
repeatable_sound : (i : Input) (r : Bool × Input) → repeatable_at i ≡ Ok r → IsRepeatable i r.0 r.1
unfolding repeatable_at
repeatable_sound i r e = elim (choose_ok _ _ _ _ _ e) [
  | inl h ↦
      let (word, ew, e1) = sequence_ok _ _ _ _ h.1 in
      subst (λ (q : Bool × Input). IsRepeatable i q.0 q.1) (answer_is _ _ _ e1) (IsRepeatable.present i word.1 (take_one_ok _ _ _ _ ew))
  | inr h ↦ subst (λ (q : Bool × Input). IsRepeatable i q.0 q.1) (answer_is _ _ _ h.1) (IsRepeatable.absent i)
]

repeatable_read : (i : Input) (x : Bool) (j : Input) → IsRepeatable i x j → sees_keyword keyword.Repeatable j ≡ false → repeatable_at i ≡ Ok (x, j)
unfolding repeatable_at
repeatable_read _ _ _ (IsRepeatable.absent i) apart = choose_second _ _ _ i apart ∙ answer_read _ i
repeatable_read _ _ _ (IsRepeatable.present i j takes) apart =
    choose_first _ _ _ i takes.comes ∙ sequence_read _ _ i tt j _ (take_one_read _ _ _ _ takes) (answer_read _ j)

repeatable_less : (i : Input) (x : Bool) (j : Input) → IsRepeatable i x j → length j.tokens ≤ length i.tokens
repeatable_less _ _ _ (IsRepeatable.absent i) = omega arith
repeatable_less _ _ _ (IsRepeatable.present i j takes) = omega (arith, takes_less _ _ _ takes)

-- a name comes, if one comes behind
repeatable_begins : (i : Input) (x : Bool) (j : Input) → IsRepeatable i x j → sees Name j ≡ true → sees Name i ≡ true
repeatable_begins _ _ _ (IsRepeatable.absent i) e = e
repeatable_begins _ _ _ (IsRepeatable.present i j takes) e = keyword_is_name keyword.Repeatable i takes.comes

repeatable_local : (depth : ℕ) → Local depth repeatable_at
unfolding repeatable_at
repeatable_local depth =
    local_choose depth _ _ _ (local_sequence depth _ _ (local_take_one depth _ _ (keyword_is_plain keyword.Repeatable)) (λ word. local_answer depth _)) (local_answer depth _)

-- the definition of a directive, behind its description
pub directive_sound : (depth : ℕ) (i m : Input) (description : Option Description) (r : DirectiveDefinition × Input) → Perhaps IsDescription i description m →
    directive_behind depth (start_of i) description m ≡ Ok r → IsDirectiveDefinition depth i r.0 r.1
unfolding directive_behind
directive_sound depth i m description r described e =
    let (word, ew, e1) = sequence_ok _ _ _ _ e in
    let (at, ea, e2) = sequence_ok _ _ _ _ e1 in
    let (name, en, e3) = sequence_ok _ _ _ _ e2 in
    let (arguments, er, e4) = sequence_ok _ _ _ _ e3 in
    let (repeatable, ep, e5) = sequence_ok _ _ _ _ e4 in
    let (on, eo, e6) = sequence_ok _ _ _ _ e5 in
    let (places, el, e7) = sequence_ok _ _ _ _ e6 in
    subst (λ (q : DirectiveDefinition × Input). IsDirectiveDefinition depth i q.0 q.1)
    (placed_is _ (λ span. record {
      description = description;
      name = name.0;
      arguments = arguments.0;
      repeatable = repeatable.0;
      locations = places.0;
      span = span;
    }) _ _ e7)
    (record {
      behind_description = m;
      behind_word = word.1;
      behind_at = at.1;
      behind_name = name.1;
      behind_arguments = arguments.1;
      behind_repeatable = repeatable.1;
      behind_on = on.1;
      description = described;
      word = take_one_ok _ _ _ _ ew;
      at = take_one_ok _ _ _ _ ea;
      name = name_ok _ _ en;
      arguments = argument_definitions_sound depth name.1 arguments er;
      repeatable = repeatable_sound arguments.1 repeatable ep;
      on = take_one_ok _ _ _ _ eo;
      locations = separated_sound VerticalBar IsDirectiveLocation _ location_plain on.1 places el;
      span = refl;
    })

pub directive_read : (depth : ℕ) (i : Input) (x : DirectiveDefinition) (j : Input) (is : IsDirectiveDefinition depth i x j) → Ends j →
    directive_behind depth (start_of i) x.description is.behind_description ≡ Ok (x, j)
unfolding directive_behind same_kind
directive_read depth i x j is ends =
    let named = repeatable_begins _ _ _ is.repeatable (keyword_is_name keyword.On _ is.on.comes) in
    sequence_read _ _ is.behind_description tt is.behind_word _ (take_one_read _ _ _ _ is.word)
    (sequence_read _ _ is.behind_word tt is.behind_at _ (take_one_read _ _ _ _ is.at)
    (sequence_read _ _ is.behind_at x.name is.behind_name _ (name_read _ _ _ is.name)
    (sequence_read _ _ is.behind_name x.arguments is.behind_arguments _
    (argument_definitions_read depth _ _ _ is.arguments (passes_not (λ k. same_kind k Name) (λ k. same_kind k LeftParenthesis) refl is.behind_arguments named))
    (sequence_read _ _ is.behind_arguments x.repeatable is.behind_repeatable _
    (repeatable_read _ _ _ is.repeatable (other_keyword keyword.On keyword.Repeatable is.behind_repeatable refl is.on.comes))
    (sequence_read _ _ is.behind_repeatable tt is.behind_on _ (take_one_read _ _ _ _ is.on)
    (sequence_read _ _ is.behind_on x.locations j _ (separated_read VerticalBar IsDirectiveLocation _ location_plain _ _ _ is.locations (not_bar j ends))
    (placed_read _ make j ∙ ap (λ s. ok (make s)) (sym is.span)))))))) where
      make : SourceSpan → DirectiveDefinition
      make span = record {
        description = x.description;
        name = x.name;
        arguments = x.arguments;
        repeatable = x.repeatable;
        locations = x.locations;
        span = span;
      }

      ok : DirectiveDefinition → Result (DirectiveDefinition × Input) Refusal
      ok y = Ok (y, j)

pub directive_moves : (depth : ℕ) (i : Input) (x : DirectiveDefinition) (j : Input) → IsDirectiveDefinition depth i x j → length j.tokens < length i.tokens
directive_moves depth i x j is =
    omega (
      arith,
      description_less _ _ _ is.description,
      takes_less _ _ _ is.word,
      takes_less _ _ _ is.at,
      takes_less _ _ _ is.name.takes,
      argument_definitions_less depth _ _ _ is.arguments,
      repeatable_less _ _ _ is.repeatable,
      takes_less _ _ _ is.on,
      separated_moves VerticalBar IsDirectiveLocation _ location_plain _ _ _ is.locations,
    )

pub directive_local : (depth start : ℕ) (description : Option Description) → Local depth (directive_behind depth start description)
unfolding directive_behind
directive_local depth start description =
    local_sequence depth _ _ (local_take_one depth _ _ (keyword_is_plain keyword.Directive)) (λ word.
    local_sequence depth _ _ (local_take_one depth _ _ (kind_is_plain At refl refl)) (λ at.
    local_sequence depth _ _ (local_name depth) (λ name.
    local_sequence depth _ _ (argument_definitions_local depth) (λ arguments.
    local_sequence depth _ _ (repeatable_local depth) (λ repeatable.
    local_sequence depth _ _ (local_take_one depth _ _ (keyword_is_plain keyword.On)) (λ on.
    local_sequence depth _ _ (separated_local depth VerticalBar _ refl refl (location_local depth)) (λ places.
    local_sequence depth _ _ (local_place depth start) (λ span. local_answer depth _))))))))
