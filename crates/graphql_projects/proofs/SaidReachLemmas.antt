-- What a tree reaches by spreads is what the typed form of it reaches. Specification: 2.4 Selection Sets to 2.8 Fragments.
use Rattle.std.proofs.Common.{◌≡◌, ◌∙◌, zero, suc, Bool, true, false, cond, List, [], ◌∷◌, Option, None, Some, arith, ap, refl, sym, subst}
use Rattle.std.specs.Prelude.{Contains, ⊤}
use Rattle.std.specs.List.{AllZip}
use Rattle.std.specs.Map.{lookup}
use Rattle.graphql_nodes.specs.Names.{NameText, same_name}
use Rattle.graphql_nodes.specs.declared.nodes.Node.{Node}
use Rattle.graphql_documents.specs.Selections.{Fragments, Includes, Reachable, includes_inline_fragment, includes_itself, includes_spread, reachable_below, reachable_inside, selections_of}
use Rattle.graphql_documents.specs.declared.documents.executables.Field.{Field}
use Rattle.graphql_documents.specs.declared.documents.executables.Fragment.{Fragment}
use Rattle.graphql_documents.specs.declared.documents.executables.FragmentSpread.{FragmentSpread}
use Rattle.graphql_documents.specs.declared.documents.executables.InlineFragment.{InlineFragment}
use Rattle.graphql_documents.specs.declared.documents.executables.Selection.TheOpen as Typed
use Rattle.graphql_documents.specs.declared.documents.executables.Selection.TheVariants as kind
use Rattle.graphql_documents.specs.declared.documents.executables.Selection.{Selection, out-Selection}
use Rattle.graphql_documents.specs.declared.documents.executables.SelectionSet.{SelectionSet}
use Rattle.graphql_documents.specs.declared.documents.schemas.Schema.{Schema}
use Rattle.graphql_trees.specs.declared.executable.Field as field_tree
use Rattle.graphql_trees.specs.declared.executable.FragmentDefinition.{FragmentDefinition}
use Rattle.graphql_trees.specs.declared.executable.FragmentSpread as spread_tree
use Rattle.graphql_trees.specs.declared.executable.InlineFragment as inline_fragment_tree
use Rattle.graphql_trees.specs.declared.executable.Selection as selection_tree
use Rattle.graphql_trees.specs.declared.executable.Selection.TheOpen as Open
use Rattle.graphql_trees.specs.declared.executable.Selection.TheVariants as tree
use Rattle.graphql_document_building.specs.Documents.{FragmentSays, SaysUnderName}
use Rattle.graphql_document_building.specs.Selections as says
use Rattle.graphql_document_building.specs.Selections.{FieldHeadSays, FragmentSpreadSays, InlineFragmentHeadSays, SelectionSays, SelectionsSay}
use Rattle.graphql_document_building.specs.Trees.{selections_in}
use Rattle.graphql_reach.proofs.ReachedLemmas.{reach_spread}
use Rattle.graphql_operation_laws.proofs.AgreementLemmas.{reach_within}
use Rattle.graphql_projects.specs.OperationTrees.{Pool, SpreadsIn, fragment_named, spread_here, spread_in_field, spread_in_fragment, spread_in_inline_fragment}

-- ==== lists that are related element by element

module _ {X Y : Type 0} (R : X → Y → Type 0) where
  pub zip_first : (xs : List X) (ys : List Y) (y : Y) → AllZip R xs ys → Contains ys y → (x : X) × Contains xs x × R x y
  zip_first [] [] y zip (k, within, is) = absurd (omega arith)
  zip_first [] (z ∷ ys) y zip c = absurd zip
  zip_first (x ∷ xs) [] y zip c = absurd zip
  zip_first (x ∷ xs) (z ∷ ys) y zip (zero, within, is) = (x, (0, omega arith, refl), subst (R x) is zip.0)
  zip_first (x ∷ xs) (z ∷ ys) y zip (suc k, within, is) =
      let found = zip_first xs ys y zip.1 (k, omega arith, is) in
      (found.0, (suc found.1.0, omega (arith, found.1.1), found.1.2), found.2)

  pub zip_second : (xs : List X) (ys : List Y) (x : X) → AllZip R xs ys → Contains xs x → (y : Y) × Contains ys y × R x y
  zip_second [] [] x zip (k, within, is) = absurd (omega arith)
  zip_second [] (z ∷ ys) x zip c = absurd zip
  zip_second (z ∷ xs) [] x zip c = absurd zip
  zip_second (z ∷ xs) (y ∷ ys) x zip (zero, within, is) = (y, (0, omega arith, refl), subst (λ z. R z y) is zip.0)
  zip_second (z ∷ xs) (y ∷ ys) x zip (suc k, within, is) =
      let found = zip_second xs ys x zip.1 (k, omega arith, is) in
      (found.0, (suc found.1.0, omega (arith, found.1.1), found.1.2), found.2)

-- ==== what a pool says

-- the tree that a name finds says the fragment that it finds, or there is neither
abbrev pub SaysIfAny : Option Schema → Option FragmentDefinition → Option (Node Fragment) → Type 0
SaysIfAny schema None None = ⊤
SaysIfAny schema (Some x) (Some d) = FragmentSays schema x d
SaysIfAny schema _ _ = ⊥

found_here : (schema : Option Schema) (s t : Bool) → s ≡ t → (x : FragmentDefinition) (d : Node Fragment) (o : Option FragmentDefinition) (p : Option (Node Fragment)) →
    FragmentSays schema x d → SaysIfAny schema o p → SaysIfAny schema (cond s (Some x) o) (cond t (Some d) p)
found_here schema true true e x d o p here there = here
found_here schema false false e x d o p here there = there
found_here schema true false e x d o p here there = absurd (let h : ⊥ = cc in h)
found_here schema false true e x d o p here there = absurd (let h : ⊥ = cc in h)

pub names_say : (schema : Option Schema) (name : NameText) (pool : Pool) (entries : List (NameText × Node Fragment)) →
    AllZip (SaysUnderName (FragmentSays schema)) pool entries → SaysIfAny schema (lookup (same_name name) pool) (lookup (same_name name) entries)
names_say schema name [] [] zip = tt
names_say schema name [] (e ∷ es) zip = absurd zip
names_say schema name (p ∷ ps) [] zip = absurd zip
names_say schema name (p ∷ ps) (e ∷ es) zip =
    found_here schema (same_name name p.0) (same_name name e.0) (ap (same_name name) (sym zip.0.0)) p.1 e.1 _ _ zip.0.1 (names_say schema name ps es zip.1)

pub said_fragment : (schema : Option Schema) (o : Option FragmentDefinition) (p : Option (Node Fragment)) (d : Node Fragment) → SaysIfAny schema o p → p ≡ Some d →
    (x : FragmentDefinition) × (o ≡ Some x) × FragmentSays schema x d
said_fragment schema None None d h is = absurd (let h : ⊥ = cc in h)
said_fragment schema None (Some e) d h is = absurd h
said_fragment schema (Some x) None d h is = absurd h
said_fragment schema (Some x) (Some e) d h is = let here : e ≡ d = cc in (x, refl, subst (FragmentSays schema x) here h)

pub fragment_said : (schema : Option Schema) (o : Option FragmentDefinition) (p : Option (Node Fragment)) (x : FragmentDefinition) → SaysIfAny schema o p → o ≡ Some x →
    (d : Node Fragment) × (p ≡ Some d) × FragmentSays schema x d
fragment_said schema None None x h is = absurd (let h : ⊥ = cc in h)
fragment_said schema None (Some e) x h is = absurd h
fragment_said schema (Some y) None x h is = absurd h
fragment_said schema (Some y) (Some d) x h is = let here : y ≡ x = cc in (d, refl, subst (λ z. FragmentSays schema z d) here h)

-- ==== what trees say, by the form of the tree and by that of what is said

module _ (schema : Option Schema) where
  said_zip : {parent : NameText} {xs : List selection_tree.Selection} {ss : List Selection} → SelectionsSay schema parent xs ss → AllZip (SelectionSays schema parent) xs ss
  said_zip says.no_selections = tt
  said_zip (says.next_selection first rest) = (first, said_zip rest)

  abbrev SaidForm : NameText → selection_tree.Selection → Selection → Type 0
  SaidForm parent t s = elim (out-Selection s) [
    | Typed.Field f ↦ (x : field_tree.Field) × FieldHeadSays schema parent x f.value.value ×
        SelectionsSay schema f.value.value.selection_set.ty (selections_in (field_tree.out-Field x).selection_set) f.value.value.selection_set.selections.items ×
        (t ≡ tree.Field x)
    | Typed.FragmentSpread p ↦ (x : spread_tree.FragmentSpread) × FragmentSpreadSays x p × (t ≡ tree.FragmentSpread x)
    | Typed.InlineFragment i ↦ (x : inline_fragment_tree.InlineFragment) × InlineFragmentHeadSays parent x i.value.value ×
        SelectionsSay schema i.value.value.selection_set.ty x.selection_set.selections i.value.value.selection_set.selections.items ×
        (t ≡ tree.InlineFragment x)
  ]

  said_form : (parent : NameText) (t : selection_tree.Selection) (s : Selection) → SelectionSays schema parent t s → SaidForm parent t s
  said_form parent t s (says.field_says x f head set location) = rw (kind.outs-Field f, SaidForm) (x, head, set, refl)
  said_form parent t s (says.fragment_spread_says x p spread) = rw (kind.outs-FragmentSpread p, SaidForm) (x, spread, refl)
  said_form parent t s (says.inline_fragment_says x i head set location) = rw (kind.outs-InlineFragment i, SaidForm) (x, head, set, refl)

  abbrev TreeForm : NameText → selection_tree.Selection → Selection → Type 0
  TreeForm parent t s = elim (selection_tree.out-Selection t) [
    | Open.Field x ↦ (f : Node Field) × (s ≡ kind.Field f) ×
        SelectionsSay schema f.value.value.selection_set.ty (selections_in (field_tree.out-Field x).selection_set) f.value.value.selection_set.selections.items
    | Open.FragmentSpread x ↦ (p : Node FragmentSpread) × (s ≡ kind.FragmentSpread p) × FragmentSpreadSays x p
    | Open.InlineFragment x ↦ (i : Node InlineFragment) × (s ≡ kind.InlineFragment i) ×
        SelectionsSay schema i.value.value.selection_set.ty x.selection_set.selections i.value.value.selection_set.selections.items
  ]

  tree_form : (parent : NameText) (t : selection_tree.Selection) (s : Selection) → SelectionSays schema parent t s → TreeForm parent t s
  tree_form parent t s (says.field_says x f head set location) = rw (tree.outs-Field x, TreeForm) (f, refl, set)
  tree_form parent t s (says.fragment_spread_says x p spread) = rw (tree.outs-FragmentSpread x, TreeForm) (p, refl, spread)
  tree_form parent t s (says.inline_fragment_says x i head set location) = rw (tree.outs-InlineFragment x, TreeForm) (i, refl, set)

  -- the trees say these selections, on some type
  abbrev pub Said : List selection_tree.Selection → List Selection → Type 0
  Said xs ss = (parent : NameText) × SelectionsSay schema parent xs ss

  said_field : (xs : List selection_tree.Selection) (ss : List Selection) (f : Node Field) → Said xs ss → Contains ss (kind.Field f) →
      (x : field_tree.Field) × Contains xs (tree.Field x) × Said (selections_in (field_tree.out-Field x).selection_set) (selections_of f.value.value.selection_set)
  said_field xs ss f (parent, said) stands =
      let found = zip_first (SelectionSays schema parent) xs ss (kind.Field f) (said_zip said) stands in
      let form = rw (kind.outs-Field f, SaidForm) at (said_form parent found.0 (kind.Field f) found.2) in
      (form.0, subst (Contains xs) form.3 found.1, (f.value.value.selection_set.ty, form.2))

  said_spread : (xs : List selection_tree.Selection) (ss : List Selection) (p : Node FragmentSpread) → Said xs ss → Contains ss (kind.FragmentSpread p) →
      (x : spread_tree.FragmentSpread) × Contains xs (tree.FragmentSpread x) × (p.value.value.fragment_name ≡ x.name)
  said_spread xs ss p (parent, said) stands =
      let found = zip_first (SelectionSays schema parent) xs ss (kind.FragmentSpread p) (said_zip said) stands in
      let form = rw (kind.outs-FragmentSpread p, SaidForm) at (said_form parent found.0 (kind.FragmentSpread p) found.2) in
      (form.0, subst (Contains xs) form.2 found.1, form.1.name)

  said_inline_fragment : (xs : List selection_tree.Selection) (ss : List Selection) (i : Node InlineFragment) → Said xs ss → Contains ss (kind.InlineFragment i) →
      (x : inline_fragment_tree.InlineFragment) × Contains xs (tree.InlineFragment x) × Said x.selection_set.selections (selections_of i.value.value.selection_set)
  said_inline_fragment xs ss i (parent, said) stands =
      let found = zip_first (SelectionSays schema parent) xs ss (kind.InlineFragment i) (said_zip said) stands in
      let form = rw (kind.outs-InlineFragment i, SaidForm) at (said_form parent found.0 (kind.InlineFragment i) found.2) in
      (form.0, subst (Contains xs) form.3 found.1, (i.value.value.selection_set.ty, form.2))

  -- ==== what is reached is spread in the tree

  module _ (pool : Pool) (fragments : Fragments) (all_said : (name : NameText) → SaysIfAny schema (fragment_named pool name) (fragments name)) where
    -- the trees of a set below, which spread no name that these do not
    record SaidBelow (xs : List selection_tree.Selection) (inner : SelectionSet) : Type 0 where
      trees : List selection_tree.Selection
      said : Said trees (selections_of inner)
      further : (name : NameText) → SpreadsIn pool trees name → SpreadsIn pool xs name

    included_said : {set inner : SelectionSet} → Includes fragments set inner → (xs : List selection_tree.Selection) → Said xs (selections_of set) → SaidBelow xs inner
    included_said includes_itself xs said = record { trees = xs; said = said; further = λ name spread. spread }
    included_said (includes_inline_fragment {set = set} {i = i} stands below) xs said =
        let x = said_inline_fragment xs (selections_of set) i said stands in
        let deep = included_said below x.0.selection_set.selections x.2 in
        record { trees = deep.trees; said = deep.said; further = λ name spread. spread_in_inline_fragment x.0 x.1 (deep.further name spread) }
    included_said (includes_spread {set = set} {p = p} {d = d} stands defined below) xs said =
        let x = said_spread xs (selections_of set) p said stands in
        let y = said_fragment schema (fragment_named pool p.value.value.fragment_name) (fragments p.value.value.fragment_name) d
        (all_said p.value.value.fragment_name) defined in
        let named : fragment_named pool x.0.name ≡ Some y.0 = ap (fragment_named pool) (sym x.2) ∙ y.1 in
        let deep = included_said below y.0.selection_set.selections (d.value.value.selection_set.ty, y.2.selections) in
        record { trees = deep.trees; said = deep.said; further = λ name spread. spread_in_fragment x.0 y.0 x.1 named (deep.further name spread) }

    reached_said : {set : SelectionSet} {s : Selection} → Reachable fragments set s → (p : Node FragmentSpread) → s ≡ kind.FragmentSpread p →
        (xs : List selection_tree.Selection) → Said xs (selections_of set) → SpreadsIn pool xs p.value.value.fragment_name
    reached_said (reachable_inside (inner, included, stands)) p is xs said =
        let deep = included_said included xs said in
        let x = said_spread deep.trees (selections_of inner) p deep.said (subst (Contains (selections_of inner)) is stands) in
        subst (SpreadsIn pool xs) (sym x.2) (deep.further x.0.name (spread_here x.0 x.1))
    reached_said (reachable_below {f = f} (inner, included, stands) rest) p is xs said =
        let deep = included_said included xs said in
        let x = said_field deep.trees (selections_of inner) f deep.said stands in
        deep.further p.value.value.fragment_name (spread_in_field x.0 x.1 (reached_said rest p is (selections_in (field_tree.out-Field x.0).selection_set) x.2))

    pub spread_is_in_tree : (set : SelectionSet) (xs : List selection_tree.Selection) (p : Node FragmentSpread) → Said xs (selections_of set) →
        Reachable fragments set (kind.FragmentSpread p) → SpreadsIn pool xs p.value.value.fragment_name
    spread_is_in_tree set xs p said reached = reached_said reached p refl xs said

    -- ==== what is spread in the tree is reached

    -- a spread of the name is reached from the set
    abbrev pub ReachesName : SelectionSet → NameText → Type 0
    ReachesName set name = (p : Node FragmentSpread) × Reachable fragments set (kind.FragmentSpread p) × (p.value.value.fragment_name ≡ name)

    typed_spread : (xs : List selection_tree.Selection) (ss : List Selection) (x : spread_tree.FragmentSpread) → Said xs ss → Contains xs (tree.FragmentSpread x) →
        (p : Node FragmentSpread) × Contains ss (kind.FragmentSpread p) × (p.value.value.fragment_name ≡ x.name)
    typed_spread xs ss x (parent, said) stands =
        let found = zip_second (SelectionSays schema parent) xs ss (tree.FragmentSpread x) (said_zip said) stands in
        let form = rw (tree.outs-FragmentSpread x, TreeForm) at (tree_form parent (tree.FragmentSpread x) found.0 found.2) in
        (form.0, subst (Contains ss) form.1 found.1, form.2.name)

    pub tree_spread_is_reached : {xs : List selection_tree.Selection} {name : NameText} → SpreadsIn pool xs name → (set : SelectionSet) → Said xs (selections_of set) → ReachesName set name
    tree_spread_is_reached (spread_here {selections = xs} x stands) set said =
        let p = typed_spread xs (selections_of set) x said stands in
        (p.0, reachable_inside (set, includes_itself, p.1), p.2)
    tree_spread_is_reached (spread_in_field {selections = xs} x stands rest) set (parent, said) =
        let found = zip_second (SelectionSays schema parent) xs (selections_of set) (tree.Field x) (said_zip said) stands in
        let form = rw (tree.outs-Field x, TreeForm) at (tree_form parent (tree.Field x) found.0 found.2) in
        let deep = tree_spread_is_reached rest form.0.value.value.selection_set (form.0.value.value.selection_set.ty, form.2) in
        (deep.0, reachable_below {f = form.0} (set, includes_itself, subst (Contains (selections_of set)) form.1 found.1) deep.1, deep.2)
    tree_spread_is_reached (spread_in_inline_fragment {selections = xs} x stands rest) set (parent, said) =
        let found = zip_second (SelectionSays schema parent) xs (selections_of set) (tree.InlineFragment x) (said_zip said) stands in
        let form = rw (tree.outs-InlineFragment x, TreeForm) at (tree_form parent (tree.InlineFragment x) found.0 found.2) in
        let deep = tree_spread_is_reached rest form.0.value.value.selection_set (form.0.value.value.selection_set.ty, form.2) in
        (deep.0, reach_within fragments (includes_inline_fragment {i = form.0} (subst (Contains (selections_of set)) form.1 found.1) includes_itself) deep.1, deep.2)
    tree_spread_is_reached (spread_in_fragment {selections = xs} x y stands named rest) set said =
        let p = typed_spread xs (selections_of set) x said stands in
        let d = fragment_said schema (fragment_named pool p.0.value.value.fragment_name) (fragments p.0.value.value.fragment_name) y
        (all_said p.0.value.value.fragment_name) (ap (fragment_named pool) p.2 ∙ named) in
        let deep = tree_spread_is_reached rest d.0.value.value.selection_set (d.0.value.value.selection_set.ty, d.2.selections) in
        (deep.0, reach_spread fragments p.0 d.0 (kind.FragmentSpread deep.0) (reachable_inside (set, includes_itself, p.1)) d.1 deep.1, deep.2)
