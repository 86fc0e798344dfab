-- A conflict of arguments is on the first argument on which two fields disagree.
use Rattle.std.proofs.Common.{◌≡◌, List, [], ◌∷◌, ◌++◌, Option, Some, None, refl, sym, ap, ◌∙◌, subst, append_assoc, All, Contains}
use Rattle.std.specs.Prelude.{IsSome, is_some}
use Rattle.std.proofs.lemmas.List.{append-nil}
use Rattle.std.proofs.lemmas.List.Elements.{All-append, All-contains}
use Rattle.std.proofs.lemmas.Option.{same_Some}
use Rattle.graphql_documents.proofs.ListLemmas.{each_standing}
use Rattle.graphql_specification.specs.Merging.{AgreeOn, DisagreeFirstOn}
use Rattle.graphql_documents.specs.Directives.{argument_named}
use Rattle.graphql_documents.specs.Values.{SameValue}
use Rattle.graphql_documents.specs.declared.documents.directives.Argument.{Argument}
use Rattle.graphql_documents.specs.declared.documents.executables.Field.{Field}
use Rattle.graphql_nodes.specs.declared.nodes.Node.{Node}
use Rattle.graphql_nodes.specs.Names.{NameText}
use Rattle.graphql_nodes.proofs.NameLemmas.{same_name_itself}
use Rattle.graphql_field_conflicts.proofs.FirstNamedLemmas.{found_before, first_is_there}
use Rattle.graphql_field_conflicts.specs.Comparisons.{AreNamedAmong, IsReachable, StandAmong}

abbrev name_of : Node Argument → NameText
name_of x = x.value.value.name

module _ (a b : Field) where
  -- both have an argument of the name, with one value
  agree_on_value : (name : NameText) (x y : Node Argument) → argument_named name a.arguments.items ≡ Some x → argument_named name b.arguments.items ≡ Some y →
      SameValue x.value.value.value.value.value y.value.value.value.value.value → AgreeOn name a b
  agree_on_value name x y first second same = (
    ap (λ (o : Option (Node Argument)). is_some o) first ∙ sym (ap (λ (o : Option (Node Argument)). is_some o) second),
    λ p q is_p is_q.
        subst (λ (u : Node Argument). SameValue u.value.value.value.value.value q.value.value.value.value.value) (same_Some x p (sym first ∙ is_p))
        (subst (λ (u : Node Argument). SameValue x.value.value.value.value.value u.value.value.value.value.value) (same_Some y q (sym second ∙ is_q)) same),
  )

  -- the arguments of the first field agree as far as those of the second stand for them
  agree_among : (before after : List (Node Argument)) → a.arguments.items ≡ before ++ after → StandAmong before b.arguments.items →
      All (λ y. AgreeOn y.value.value.name a b) before
  agree_among before after split stand = each_standing (λ y. AgreeOn y.value.value.name a b) before one where
    found : (y : Node Argument) (o : Option (Node Argument)) → argument_named y.value.value.name before ≡ o → IsSome o → AgreeOn y.value.value.name a b
    found y (Some z) is there =
        let (w, given, same) = stand y.value.value.name z is in
        agree_on_value y.value.value.name z w
        (ap (argument_named y.value.value.name) split ∙ found_before name_of y.value.value.name before after z is) given same
    found y None is there = absurd (let no : ⊥ = cc in no)

    one : (y : Node Argument) → Contains before y → AgreeOn y.value.value.name a b
    one y in' =
        found y (argument_named y.value.value.name before) refl
        (first_is_there name_of y.value.value.name before y in' (same_name_itself y.value.value.name))

  -- the two do not agree where one alone has the argument
  second_lacks : (name : NameText) (x : Node Argument) → argument_named name a.arguments.items ≡ Some x → argument_named name b.arguments.items ≡ None → ¬ AgreeOn name a b
  second_lacks name x first second agree =
      let both = sym (ap (λ (o : Option (Node Argument)). is_some o) first) ∙ agree.0 ∙ ap (λ (o : Option (Node Argument)). is_some o) second in
      let no : ⊥ = cc in no

  first_lacks : (name : NameText) (y : Node Argument) → argument_named name a.arguments.items ≡ None → argument_named name b.arguments.items ≡ Some y → ¬ AgreeOn name a b
  first_lacks name y first second agree =
      let both = sym (ap (λ (o : Option (Node Argument)). is_some o) first) ∙ agree.0 ∙ ap (λ (o : Option (Node Argument)). is_some o) second in
      let no : ⊥ = cc in no

  module _ (x : Node Argument) (reachable : IsReachable (λ before. StandAmong before b.arguments.items) a.arguments.items x) where
    first_of_first : ¬ AgreeOn x.value.value.name a b → DisagreeFirstOn x.value.value.name a b
    first_of_first differ = record {
      before = reachable.before;
      given = x;
      after = reachable.after ++ b.arguments.items;
      split = ap (λ l. l ++ b.arguments.items) reachable.stands ∙ append_assoc reachable.before (x ∷ reachable.after) b.arguments.items;
      argument_is = refl;
      differ = differ;
      agree_before = agree_among reachable.before (x ∷ reachable.after) reachable.stands reachable.holds;
    }

    -- the second field lacks it
    pub disagree_alone : argument_named x.value.value.name b.arguments.items ≡ None → DisagreeFirstOn x.value.value.name a b
    disagree_alone none = first_of_first (second_lacks x.value.value.name x reachable.first none)

    -- both have it, with other values
    pub disagree_both : (y : Node Argument) → argument_named x.value.value.name b.arguments.items ≡ Some y →
        ¬ SameValue x.value.value.value.value.value y.value.value.value.value.value → DisagreeFirstOn x.value.value.name a b
    disagree_both y given differ = first_of_first (λ agree. differ (agree.1 x y reachable.first given))

  -- the first field lacks an argument of the second
  pub disagree_second : (y : Node Argument) → StandAmong a.arguments.items b.arguments.items →
      IsReachable (λ before. AreNamedAmong before a.arguments.items) b.arguments.items y → argument_named y.value.value.name a.arguments.items ≡ None →
      DisagreeFirstOn y.value.value.name a b
  disagree_second y stand reachable none = record {
    before = a.arguments.items ++ reachable.before;
    given = y;
    after = reachable.after;
    split = ap (λ l. a.arguments.items ++ l) reachable.stands ∙ sym (append_assoc a.arguments.items reachable.before (y ∷ reachable.after));
    argument_is = refl;
    differ = first_lacks y.value.value.name y none reachable.first;
    agree_before = All-append (λ z. AgreeOn z.value.value.name a b) a.arguments.items reachable.before
        (agree_among a.arguments.items [] (sym (append-nil a.arguments.items)) stand) (each_standing (λ z. AgreeOn z.value.value.name a b) reachable.before one);
  } where
    known : (z : Node Argument) (o : Option (Node Argument)) → argument_named z.value.value.name a.arguments.items ≡ o → IsSome o → AgreeOn z.value.value.name a b
    known z (Some x) is there =
        let (w, given, same) = stand z.value.value.name x is in
        agree_on_value z.value.value.name x w is given same
    known z None is there = absurd (let no : ⊥ = cc in no)

    one : (z : Node Argument) → Contains reachable.before z → AgreeOn z.value.value.name a b
    one z in' =
        known z (argument_named z.value.value.name a.arguments.items) refl
        (All-contains (λ u. IsSome (argument_named u.value.value.name a.arguments.items)) reachable.before z reachable.holds in')
