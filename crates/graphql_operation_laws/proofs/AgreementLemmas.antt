-- What a set reaches through fragments that agree is the same. Specification: 2.8 Fragments.
use Rattle.std.proofs.Common.{◌≡◌, Option, None, Some, refl, sym, subst}
use Rattle.graphql_nodes.specs.Nodes.{SameNode}
use Rattle.graphql_nodes.specs.declared.nodes.Node.{Node}
use Rattle.graphql_documents.proofs.SelectionLemmas.{includes_then}
use Rattle.graphql_documents.specs.Contents.{SameIfAny}
use Rattle.graphql_documents.specs.Selections.{Fragments, InExpandedSet, Includes, Reachable, includes_inline_fragment, includes_itself, includes_spread, reachable_below, reachable_inside}
use Rattle.graphql_documents.specs.declared.documents.executables.Field.{Field}
use Rattle.graphql_documents.specs.declared.documents.executables.Fragment.{Fragment}
use Rattle.graphql_documents.specs.declared.documents.executables.FragmentSpread.{FragmentSpread}
use Rattle.graphql_documents.specs.declared.documents.executables.Selection.{Selection}
use Rattle.graphql_documents.specs.declared.documents.executables.Selection.TheVariants as kind
use Rattle.graphql_documents.specs.declared.documents.executables.SelectionSet.{SelectionSet}
use Rattle.graphql_reach.proofs.ReachedLemmas.{reach_spread}
use Rattle.graphql_operation_laws.specs.Agreement.{AgreeFrom}

-- ==== nodes that are the same, if there are any

same_back : {T : Type 0} (x y : Node T) → SameNode x y → SameNode y x
same_back x y same = record { same_value = sym same.same_value; same_location = sym same.same_location }

any_back : {T : Type 0} (o p : Option (Node T)) → SameIfAny SameNode o p → SameIfAny SameNode p o
any_back None None same = tt
any_back None (Some y) same = absurd same
any_back (Some x) None same = absurd same
any_back (Some x) (Some y) same = same_back x y same

first_of_same : {T : Type 0} (o p : Option (Node T)) (y : Node T) → SameIfAny SameNode o p → p ≡ Some y → (x : Node T) × (o ≡ Some x) × SameNode x y
first_of_same None None y same is = absurd (let h : ⊥ = cc in h)
first_of_same None (Some z) y same is = absurd same
first_of_same (Some x) None y same is = absurd same
first_of_same (Some x) (Some z) y same is = let here : z ≡ y = cc in (x, refl, subst (SameNode x) here same)

none_of_same : {T : Type 0} (o p : Option (Node T)) → SameIfAny SameNode o p → p ≡ None → o ≡ None
none_of_same None None same is = refl
none_of_same None (Some z) same is = absurd same
none_of_same (Some x) None same is = absurd same
none_of_same (Some x) (Some z) same is = absurd (let h : ⊥ = cc in h)

-- ==== what is reached from a set below agrees too

module _ (fragments : Fragments) where
  -- what is reached from a set inside is reached
  pub reach_within : {set inner : SelectionSet} {s : Selection} → Includes fragments set inner → Reachable fragments inner s → Reachable fragments set s
  reach_within included (reachable_inside (deep, includes, stands)) = reachable_inside (deep, includes_then fragments included includes, stands)
  reach_within included (reachable_below {f = f} (deep, includes, stands) rest) = reachable_below {f = f} (deep, includes_then fragments included includes, stands) rest

module _ (a b : Fragments) where
  pub agree_in_spread : {set : SelectionSet} (p : Node FragmentSpread) (d : Node Fragment) → Reachable a set (kind.FragmentSpread p) →
      a p.value.value.fragment_name ≡ Some d → AgreeFrom a b set → AgreeFrom a b d.value.value.selection_set
  agree_in_spread p d reached defined agree name (q, further, named) =
      agree name (q, reach_spread a p d (kind.FragmentSpread q) reached defined further, named)

  pub agree_below : {set : SelectionSet} (f : Node Field) → InExpandedSet a set (kind.Field f) → AgreeFrom a b set → AgreeFrom a b f.value.value.selection_set
  agree_below f inside agree name (q, further, named) = agree name (q, reachable_below inside further, named)

  pub agree_within : {set inner : SelectionSet} → Includes a set inner → AgreeFrom a b set → AgreeFrom a b inner
  agree_within included agree name (q, further, named) = agree name (q, reach_within a included further, named)

  -- the fragment that a spread finds among the others, as it is found among the first
  pub found_back : {set : SelectionSet} (p : Node FragmentSpread) (e : Node Fragment) → Reachable a set (kind.FragmentSpread p) → AgreeFrom a b set →
      b p.value.value.fragment_name ≡ Some e → (d : Node Fragment) × (a p.value.value.fragment_name ≡ Some d) × SameNode d e
  found_back p e reached agree defined =
      first_of_same (a p.value.value.fragment_name) (b p.value.value.fragment_name) e (agree p.value.value.fragment_name (p, reached, refl)) defined

  pub found_there : {set : SelectionSet} (p : Node FragmentSpread) (d : Node Fragment) → Reachable a set (kind.FragmentSpread p) → AgreeFrom a b set →
      a p.value.value.fragment_name ≡ Some d → (e : Node Fragment) × (b p.value.value.fragment_name ≡ Some e) × SameNode d e
  found_there p d reached agree defined =
      let same = any_back (a p.value.value.fragment_name) (b p.value.value.fragment_name) (agree p.value.value.fragment_name (p, reached, refl)) in
      let found = first_of_same (b p.value.value.fragment_name) (a p.value.value.fragment_name) d same defined in
      (found.0, found.1, same_back found.0 d found.2)

  pub none_back : {set : SelectionSet} (p : Node FragmentSpread) → Reachable a set (kind.FragmentSpread p) → AgreeFrom a b set →
      b p.value.value.fragment_name ≡ None → a p.value.value.fragment_name ≡ None
  none_back p reached agree undefined =
      none_of_same (a p.value.value.fragment_name) (b p.value.value.fragment_name) (agree p.value.value.fragment_name (p, reached, refl)) undefined

  -- ==== from the others back

  pub included_back : {set inner : SelectionSet} → Includes b set inner → AgreeFrom a b set → Includes a set inner × AgreeFrom a b inner
  included_back includes_itself agree = (includes_itself, agree)
  included_back (includes_inline_fragment {set = set} {inner = inner} {i = i} stands below) agree =
      let deep = included_back below (agree_within (includes_inline_fragment {i = i} stands includes_itself) agree) in
      (includes_inline_fragment {i = i} stands deep.0, deep.1)
  included_back (includes_spread {set = set} {inner = inner} {p = p} {d = e} stands defined below) agree =
      let reached : Reachable a set (kind.FragmentSpread p) = reachable_inside (set, includes_itself, stands) in
      let found = found_back p e reached agree defined in
      let further = subst (λ (v : Fragment). AgreeFrom a b v.selection_set) (sym found.2.same_value) (agree_in_spread p found.0 reached found.1 agree) in
      let deep = included_back below further in
      (includes_spread {p = p} {d = found.0} stands found.1 (subst (λ (v : Fragment). Includes a v.selection_set inner) found.2.same_value deep.0), deep.1)

  pub inside_back : {set : SelectionSet} {s : Selection} → InExpandedSet b set s → AgreeFrom a b set → InExpandedSet a set s
  inside_back inside agree = (inside.0, (included_back inside.1 agree).0, inside.2)

  pub reachable_back : {set : SelectionSet} {s : Selection} → Reachable b set s → AgreeFrom a b set → Reachable a set s
  reachable_back (reachable_inside inside) agree = reachable_inside (inside_back inside agree)
  reachable_back (reachable_below {f = f} inside rest) agree =
      let here = inside_back inside agree in
      reachable_below {f = f} here (reachable_back rest (agree_below f here agree))

  pub agree_back : {set : SelectionSet} → AgreeFrom a b set → AgreeFrom b a set
  agree_back agree name (p, reached, named) = any_back (a name) (b name) (agree name (p, reachable_back reached agree, named))
