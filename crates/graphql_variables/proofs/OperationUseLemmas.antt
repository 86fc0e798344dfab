-- Which variables an operation uses: what its selections use.
use Rattle.std.proofs.Common.{◌≡◌, ◌↔◌, ℕ, ◌+◌, ◌<◌, arith, List, [], length, get_or, take, map, refl, sym, ap, ◌∙◌, subst, Contains}
use Rattle.std.specs.Prelude.{◌⊎◌}
use Rattle.std.specs.Borrow.{Bor}
use Rattle.std.specs.List.{Any}
use mathlib.Core.Logic.{inl, inr}
use Rattle.graphql_nodes.specs.Names.{NameText}
use Rattle.graphql_documents.specs.Selections.{Fragments, Reachable, arguments_of, directives_of}
use Rattle.graphql_documents.specs.VariableUses.{StandsInArguments, StandsInDirectives, UsesVariable, in_arguments, in_directives, in_fragment_definition, in_operation}
use Rattle.graphql_documents.specs.declared.documents.executables.Field.{Field}
use Rattle.graphql_documents.specs.declared.documents.executables.FragmentSpread.{FragmentSpread}
use Rattle.graphql_documents.specs.declared.documents.executables.InlineFragment.{InlineFragment}
use Rattle.graphql_documents.specs.declared.documents.executables.Operation.{Operation}
use Rattle.graphql_documents.specs.declared.documents.executables.Selection.TheOpen as Open
use Rattle.graphql_documents.specs.declared.documents.executables.Selection.TheVariants as kind
use Rattle.graphql_documents.specs.declared.documents.executables.Selection.{Selection, out-Selection}
use Rattle.graphql_nodes.specs.declared.nodes.Node.{Node}
use Rattle.graphql_documents.proofs.ListLemmas.{made_of, stands_mapped}
use Rattle.graphql_documents.proofs.SelectionLemmas.{not_spread, same_spread, spread_not_inline}
use Rattle.graphql_variables.specs.Uses.{IsNamedIn, NamesAlso, UsedAt, UsedInDefinition, in_definition, in_own_arguments, in_own_directives, names_of}
use Rattle.graphql_variables.proofs.UseLemmas.{also_in_words, also_then, any_has, any_more, has_any, none_in_none}

-- no variable is in no arguments
no_arguments : (n : NameText) → ¬ StandsInArguments n []
no_arguments n (k, x, within, is, p) = omega (arith, within)

-- what a field uses, what an inline fragment does, and what a spread does
module _ {fragments : Fragments} {s : Selection} where
  pub used_at_field : (f : Node Field) → s ≡ kind.Field f → (n : NameText) →
      (StandsInDirectives n f.value.value.directives.items ⊎ StandsInArguments n f.value.value.arguments.items) ↔ UsedAt fragments s n
  used_at_field f is n = (forth, back) where
    opens : out-Selection s ≡ Open.Field f
    opens = ap out-Selection is ∙ kind.outs-Field f

    directives_are : directives_of s ≡ f.value.value.directives.items
    directives_are = rw (opens, directives_of) refl

    arguments_are : arguments_of s ≡ f.value.value.arguments.items
    arguments_are = rw (opens, arguments_of) refl

    forth : StandsInDirectives n f.value.value.directives.items ⊎ StandsInArguments n f.value.value.arguments.items → UsedAt fragments s n
    forth (inl d) = in_own_directives (subst (StandsInDirectives n) (sym directives_are) d)
    forth (inr a) = in_own_arguments (subst (StandsInArguments n) (sym arguments_are) a)

    back : UsedAt fragments s n → StandsInDirectives n f.value.value.directives.items ⊎ StandsInArguments n f.value.value.arguments.items
    back (in_own_directives d) = inl (subst (StandsInDirectives n) directives_are d)
    back (in_own_arguments a) = inr (subst (StandsInArguments n) arguments_are a)
    back (in_definition {p = p} spread found d) = absurd (not_spread f p (sym spread ∙ is))

  pub used_at_inline : (i : Node InlineFragment) → s ≡ kind.InlineFragment i → (n : NameText) →
      StandsInDirectives n i.value.value.directives.items ↔ UsedAt fragments s n
  used_at_inline i is n = (λ d. in_own_directives (subst (StandsInDirectives n) (sym directives_are) d), back) where
    opens : out-Selection s ≡ Open.InlineFragment i
    opens = ap out-Selection is ∙ kind.outs-InlineFragment i

    directives_are : directives_of s ≡ i.value.value.directives.items
    directives_are = rw (opens, directives_of) refl

    arguments_are : arguments_of s ≡ []
    arguments_are = rw (opens, arguments_of) refl

    back : UsedAt fragments s n → StandsInDirectives n i.value.value.directives.items
    back (in_own_directives d) = subst (StandsInDirectives n) directives_are d
    back (in_own_arguments a) = absurd (no_arguments n (subst (StandsInArguments n) arguments_are a))
    back (in_definition {p = p} spread found d) = absurd (spread_not_inline i p (sym spread ∙ is))

  pub used_at_spread : (p : Node FragmentSpread) → s ≡ kind.FragmentSpread p → (n : NameText) →
      (StandsInDirectives n p.value.value.directives.items ⊎ UsedInDefinition fragments p.value.value.fragment_name n) ↔ UsedAt fragments s n
  used_at_spread p is n = (forth, back) where
    opens : out-Selection s ≡ Open.FragmentSpread p
    opens = ap out-Selection is ∙ kind.outs-FragmentSpread p

    directives_are : directives_of s ≡ p.value.value.directives.items
    directives_are = rw (opens, directives_of) refl

    arguments_are : arguments_of s ≡ []
    arguments_are = rw (opens, arguments_of) refl

    forth : StandsInDirectives n p.value.value.directives.items ⊎ UsedInDefinition fragments p.value.value.fragment_name n → UsedAt fragments s n
    forth (inl own) = in_own_directives (subst (StandsInDirectives n) (sym directives_are) own)
    forth (inr (d, found, there)) = in_definition is found there

    back : UsedAt fragments s n → StandsInDirectives n p.value.value.directives.items ⊎ UsedInDefinition fragments p.value.value.fragment_name n
    back (in_own_directives own) = inl (subst (StandsInDirectives n) directives_are own)
    back (in_own_arguments a) = absurd (no_arguments n (subst (StandsInArguments n) arguments_are a))
    back (in_definition {p = q} {d = d} spread found there) =
        inr (subst (λ (x : Node FragmentSpread). UsedInDefinition fragments x.value.value.fragment_name n) (same_spread q p (sym spread ∙ is)) (d, found, there))

-- a variable is used where the operation's directives or the selections that it reaches use it
pub uses_by_selections : (fragments : Fragments) (o : Operation) (selections : List (Bor Selection)) →
    ((s : Selection) → Contains (map (λ (b : Bor Selection). b.now) selections) s ↔ Reachable fragments o.selection_set s) → (n : NameText) →
    (StandsInDirectives n o.directives.items ⊎ Any (λ (b : Bor Selection). UsedAt fragments b.now n) selections) ↔ UsesVariable fragments o n
uses_by_selections fragments o selections reach n = (forth, back) where
  at_reachable : {s : Selection} → Reachable fragments o.selection_set s → UsedAt fragments s n → UsesVariable fragments o n
  at_reachable r (in_own_directives d) = in_directives r d
  at_reachable r (in_own_arguments a) = in_arguments r a
  at_reachable r (in_definition is found d) = in_fragment_definition (subst (Reachable fragments o.selection_set) is r) found d

  forth : StandsInDirectives n o.directives.items ⊎ Any (λ (b : Bor Selection). UsedAt fragments b.now n) selections → UsesVariable fragments o n
  forth (inl d) = in_operation d
  forth (inr any) =
      let h = any_has (λ (b : Bor Selection). UsedAt fragments b.now n) selections any in
      at_reachable ((reach h.0.now).0 (stands_mapped (λ (b : Bor Selection). b.now) selections h.0 h.1)) h.2

  listed : (s : Selection) → Reachable fragments o.selection_set s → UsedAt fragments s n → Any (λ (b : Bor Selection). UsedAt fragments b.now n) selections
  listed s r u =
      let h = made_of (λ (b : Bor Selection). b.now) selections s ((reach s).1 r) in
      has_any (λ (b : Bor Selection). UsedAt fragments b.now n) selections h.0 h.1 (subst (λ x. UsedAt fragments x n) (sym h.2) u)

  back : UsesVariable fragments o n → StandsInDirectives n o.directives.items ⊎ Any (λ (b : Bor Selection). UsedAt fragments b.now n) selections
  back (in_operation d) = inl d
  back (in_directives {s = s} r d) = inr (listed s r (in_own_directives d))
  back (in_arguments {s = s} r a) = inr (listed s r (in_own_arguments a))
  back (in_fragment_definition {p = p} r found d) = inr (listed (kind.FragmentSpread p) r (in_definition refl found d))

-- what is used so far, in a walk over the selections
module _ (fragments : Fragments) (o : Operation) (selections : List (Bor Selection)) where
  abbrev pub UsedBy : List (Bor Selection) → NameText → Type 0
  UsedBy walked n = StandsInDirectives n o.directives.items ⊎ Any (λ (b : Bor Selection). UsedAt fragments b.now n) walked

  pub used_first : (none names : List (Bor NameText)) → none ≡ [] → NamesAlso (λ n. StandsInDirectives n o.directives.items) none names →
      NamesAlso (UsedBy (take 0 selections)) [] names
  used_first none names e also =
      also_in_words (λ n. StandsInDirectives n o.directives.items) (UsedBy []) [] names (λ n. (λ d. inl d, back n))
      (subst (λ l. NamesAlso (λ n. StandsInDirectives n o.directives.items) l names) e also) where
        back : (n : NameText) → UsedBy [] n → StandsInDirectives n o.directives.items
        back n (inl d) = d
        back n (inr any) = absurd (none_in_none (λ (b : Bor Selection). UsedAt fragments b.now n) any)

  pub used_more : (i : ℕ) (x : Bor Selection) (mid new : List (Bor NameText)) → i < length selections → x ≡ get_or selections i x →
      NamesAlso (UsedBy (take i selections)) [] mid → NamesAlso (UsedAt fragments x.now) mid new → NamesAlso (UsedBy (take (i + 1) selections)) [] new
  used_more i x mid new within item a b =
      also_in_words (λ n. UsedBy (take i selections) n ⊎ UsedAt fragments x.now n) (UsedBy (take (i + 1) selections)) [] new (λ n. (forth n, back n))
      (also_then (UsedBy (take i selections)) (UsedAt fragments x.now) [] mid new a b) where
        more : (n : NameText) → Any (λ (b : Bor Selection). UsedAt fragments b.now n) (take (i + 1) selections) ↔
            (Any (λ (b : Bor Selection). UsedAt fragments b.now n) (take i selections) ⊎ UsedAt fragments x.now n)
        more n = any_more (λ (b : Bor Selection). UsedAt fragments b.now n) selections i x within item

        forth : (n : NameText) → UsedBy (take i selections) n ⊎ UsedAt fragments x.now n → UsedBy (take (i + 1) selections) n
        forth n (inl (inl d)) = inl d
        forth n (inl (inr any)) = inr ((more n).1 (inl any))
        forth n (inr u) = inr ((more n).1 (inr u))

        apart_last : (n : NameText) → Any (λ (b : Bor Selection). UsedAt fragments b.now n) (take i selections) ⊎ UsedAt fragments x.now n → UsedBy (take i selections) n ⊎ UsedAt fragments x.now n
        apart_last n (inl any) = inl (inr any)
        apart_last n (inr u) = inr u

        back : (n : NameText) → UsedBy (take (i + 1) selections) n → UsedBy (take i selections) n ⊎ UsedAt fragments x.now n
        back n (inl d) = inl (inl d)
        back n (inr any) = apart_last n ((more n).0 any)

  pub used_all : ((s : Selection) → Contains (map (λ (b : Bor Selection). b.now) selections) s ↔ Reachable fragments o.selection_set s) →
      (names : List (Bor NameText)) → NamesAlso (UsedBy selections) [] names → (n : NameText) → IsNamedIn (names_of names) n ↔ UsesVariable fragments o n
  used_all reach names also n = (λ there. forth ((also n).0 there), λ used. (also n).1 (inr (uses.1 used))) where
    uses : UsedBy selections n ↔ UsesVariable fragments o n
    uses = uses_by_selections fragments o selections reach n

    forth : IsNamedIn [] n ⊎ UsedBy selections n → UsesVariable fragments o n
    forth (inl (u, (k, within, is), same)) = absurd (let no : ⊥ = omega (arith, within) in no)
    forth (inr used) = uses.0 used
