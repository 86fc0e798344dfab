-- The usages in selections, operations, fragments and documents: those in order are exactly those that there are.
use Rattle.std.proofs.Common.{◌≡◌, ◌↔◌, ℕ, ◌+◌, ◌<◌, ◌≤◌, List, [], ◌∷◌, ◌++◌, length, get_or, take, refl, sym, ap, ◌∙◌, subst, Contains}
use Rattle.std.specs.Prelude.{Any, ◌⊎◌}
use Rattle.std.proofs.lemmas.List.{append-nil, append_assoc, take_all}
use mathlib.Core.Logic.{inl, inr}
use Rattle.indexmap.specs.IndexMap.{values}
use Rattle.graphql_nodes.specs.Names.{NameText}
use Rattle.graphql_nodes.specs.declared.nodes.Node.{Node}
use Rattle.graphql_documents.proofs.ListLemmas.{more_is}
use Rattle.graphql_documents.proofs.SelectionLemmas.{not_inline, not_spread, same_field, same_inline, spread_not_inline}
use Rattle.graphql_documents.specs.Executables.{operations_of}
use Rattle.graphql_documents.specs.Selections.{SetWritten, directives_of, selections_of, set_in_field, set_in_inline_fragment, set_itself}
use Rattle.graphql_documents.specs.declared.documents.components.Component.{Component}
use Rattle.graphql_documents.specs.declared.documents.definitions.FieldDefinition.{FieldDefinition}
use Rattle.graphql_documents.specs.declared.documents.definitions.VariableDefinition.{VariableDefinition}
use Rattle.graphql_documents.specs.declared.documents.executables.ExecutableDocument.{ExecutableDocument}
use Rattle.graphql_documents.specs.declared.documents.executables.Field.{Field}
use Rattle.graphql_documents.specs.declared.documents.executables.Fragment.{Fragment}
use Rattle.graphql_documents.specs.declared.documents.executables.FragmentSpread.{FragmentSpread}
use Rattle.graphql_documents.specs.declared.documents.executables.InlineFragment.{InlineFragment}
use Rattle.graphql_documents.specs.declared.documents.executables.Operation.{Operation}
use Rattle.graphql_documents.specs.declared.documents.executables.Selection.{Selection}
use Rattle.graphql_documents.specs.declared.documents.executables.Selection.TheVariants as selection
use Rattle.graphql_documents.specs.declared.documents.executables.SelectionSet.{SelectionSet}
use Rattle.graphql_documents.specs.declared.documents.schemas.Schema.{Schema}
use Rattle.graphql_deprecations.specs.Deprecations.{IsUsageOf, Usage}
use Rattle.graphql_deprecations.specs.InOrder.{Adds, DirectivesUse, DocumentUses, FieldItselfUses, FieldUses, FragmentUses, InlineFragmentUses, OperationUses, SelectionsUse, next_field, next_inline_fragment, next_spread, no_selections}
use Rattle.graphql_deprecations.specs.Usages.{AreExactly, IsDeprecatedUsage, UsedByField, UsedBySelection, UsedInArguments, UsedInDirectives, UsedInFragment, UsedInOperation, UsedInSet, UsedInVariable, field_at}
use Rattle.graphql_deprecations.specs.declared.reports.DeprecatedElement.TheVariants as kind
use Rattle.graphql_deprecations.specs.declared.reports.DeprecatedUsage.{DeprecatedUsage}
use Rattle.graphql_deprecations.proofs.AddLemmas.{adds_then}
use Rattle.graphql_deprecations.proofs.ExactLemmas.{any_has, any_next, exactly_after, exactly_both, exactly_found, exactly_none, exactly_turn, exactly_uses, exactly_words, has_any, none_in_none}
use Rattle.graphql_deprecations.proofs.ValueLemmas.{exactly_arguments, exactly_directives, exactly_variable}

-- the directives of each kind
field_directives : (f : Node Field) → directives_of (selection.Field f) ≡ f.value.value.directives.items
field_directives f = rw (selection.outs-Field f, directives_of) refl

spread_directives : (p : Node FragmentSpread) → directives_of (selection.FragmentSpread p) ≡ p.value.value.directives.items
spread_directives p = rw (selection.outs-FragmentSpread p, directives_of) refl

inline_directives : (i : Node InlineFragment) → directives_of (selection.InlineFragment i) ≡ i.value.value.directives.items
inline_directives i = rw (selection.outs-InlineFragment i, directives_of) refl

module _ (schema : Schema) where
  -- one selection more
  selections_append : {parent : NameText} {xs ys : List Selection} {a b : List Usage} →
      SelectionsUse schema parent xs a → SelectionsUse schema parent ys b → SelectionsUse schema parent (xs ++ ys) (a ++ b)
  selections_append no_selections h = h
  selections_append {parent = parent} {ys = ys} {b = b} (next_field f {selections = xs} a b' {more = c} itself applied below rest) h =
      subst (SelectionsUse schema parent (selection.Field f ∷ (xs ++ ys))) (sym (append_assoc _ c b)) (next_field f a b' itself applied below (selections_append rest h))
  selections_append {parent = parent} {ys = ys} {b = b} (next_spread p {selections = xs} a {more = c} applied rest) h =
      subst (SelectionsUse schema parent (selection.FragmentSpread p ∷ (xs ++ ys))) (sym (append_assoc _ c b)) (next_spread p a applied (selections_append rest h))
  selections_append {parent = parent} {ys = ys} {b = b} (next_inline_fragment i {selections = xs} a {more = c} applied below rest) h =
      subst (SelectionsUse schema parent (selection.InlineFragment i ∷ (xs ++ ys))) (sym (append_assoc _ c b)) (next_inline_fragment i a applied below (selections_append rest h))

  pub adds_selection : {parent : NameText} (xs : List Selection) (i : ℕ) (x : Selection) {old mid new : List DeprecatedUsage} → i < length xs → x ≡ get_or xs i x →
      Adds (SelectionsUse schema parent (take i xs)) old mid → Adds (SelectionsUse schema parent (x ∷ [])) mid new → Adds (SelectionsUse schema parent (take (i + 1) xs)) old new
  adds_selection {parent = parent} xs i x within item a b =
      adds_then (λ c d before here. subst (λ l. SelectionsUse schema parent l (c ++ d)) (sym (more_is xs i x within item)) (selections_append before here)) a b

  pub selections_all : {parent : NameText} (xs : List Selection) (i : ℕ) {old new : List DeprecatedUsage} → length xs ≤ i →
      Adds (SelectionsUse schema parent (take i xs)) old new → Adds (SelectionsUse schema parent xs) old new
  selections_all {parent = parent} xs i {old = old} {new = new} past a = subst (λ l. Adds (SelectionsUse schema parent l) old new) (take_all i xs past) a

  -- a selection alone, kind by kind
  pub one_field : (parent : NameText) (f : Node Field) (a : List Usage) → FieldUses schema parent f.value.value a → SelectionsUse schema parent (selection.Field f ∷ []) a
  one_field parent f a h =
      let is : (h.first ++ (h.are_second.first ++ h.are_second.second)) ++ [] ≡ a =
      append-nil _ ∙ ap (λ l. h.first ++ l) (sym h.are_second.together) ∙ sym h.together in
      subst (SelectionsUse schema parent (selection.Field f ∷ [])) is (next_field f h.first h.are_second.first h.are_first h.are_second.are_first h.are_second.are_second no_selections)

  pub one_spread : (parent : NameText) (p : Node FragmentSpread) (a : List Usage) → DirectivesUse schema p.value.value.directives.items a →
      SelectionsUse schema parent (selection.FragmentSpread p ∷ []) a
  one_spread parent p a h = subst (SelectionsUse schema parent (selection.FragmentSpread p ∷ [])) (append-nil a) (next_spread p a h no_selections)

  pub one_inline_fragment : (parent : NameText) (i : Node InlineFragment) (a : List Usage) → InlineFragmentUses schema i.value.value a →
      SelectionsUse schema parent (selection.InlineFragment i ∷ []) a
  one_inline_fragment parent i a h =
      subst (SelectionsUse schema parent (selection.InlineFragment i ∷ [])) (append-nil _ ∙ sym h.together) (next_inline_fragment i h.first h.are_first h.are_second no_selections)

  -- the usages of a field itself
  exactly_field : (parent : NameText) (f : Field) (uses : List Usage) → FieldItselfUses schema parent f uses → AreExactly (UsedByField schema parent f) uses
  exactly_field parent f uses h =
      exactly_found
      {
      In =
      λ (d : Component FieldDefinition) (u : Usage). IsUsageOf (kind.Field (record { ty = parent; attribute = f.name })) f.name d.node.value.value.directives.items u ⊎
      UsedInArguments schema (λ argument. kind.FieldArgument (record { ty = parent; field = f.name; argument = argument }))
      d.node.value.value.arguments.items f.arguments.items u
      }
      (λ d. exactly_both (exactly_uses (kind.Field (record { ty = parent; attribute = f.name })) f.name d.node.value.value.directives.items)
      (exactly_arguments schema (λ argument. kind.FieldArgument (record { ty = parent; field = f.name; argument = argument })) d.node.value.value.arguments.items f.arguments.items))
      (field_at schema parent f.name) uses h

  -- a selection has the usage itself, or in its set
  data AtSelection (parent : NameText) (s : Selection) (u : Usage) : Type 0 where
    by_itself : UsedBySelection schema parent s u → AtSelection parent s u
    below_field : (f : Node Field) → s ≡ selection.Field f → UsedInSet schema f.value.value.selection_set u → AtSelection parent s u
    below_inline_fragment : (i : Node InlineFragment) → s ≡ selection.InlineFragment i → UsedInSet schema i.value.value.selection_set u → AtSelection parent s u

  abbrev InSelections : NameText → List Selection → Usage → Type 0
  InSelections parent selections u = Any (λ s. AtSelection parent s u) selections

  from_set : {set inner : SelectionSet} {u : Usage} → SetWritten set inner → (s : Selection) → Contains (selections_of inner) s →
      UsedBySelection schema inner.ty s u → InSelections set.ty (selections_of set) u
  from_set {set = set} {u = u} set_itself s stands used = has_any (λ s. AtSelection set.ty s u) (selections_of set) s stands (by_itself used)
  from_set {set = set} {inner = inner} {u = u} (set_in_field {f = f} there deeper) s stands used =
      has_any (λ s. AtSelection set.ty s u) (selections_of set) (selection.Field f) there (below_field f refl (inner, s, deeper, stands, used))
  from_set {set = set} {inner = inner} {u = u} (set_in_inline_fragment {i = i} there deeper) s stands used =
      has_any (λ s. AtSelection set.ty s u) (selections_of set) (selection.InlineFragment i) there (below_inline_fragment i refl (inner, s, deeper, stands, used))

  to_set : (set : SelectionSet) (s : Selection) {u : Usage} → Contains (selections_of set) s → AtSelection set.ty s u → UsedInSet schema set u
  to_set set s stands (by_itself used) = (set, s, set_itself, stands, used)
  to_set set s stands (below_field f e (inner, x, deeper, there, used)) =
      (inner, x, set_in_field {f = f} (subst (Contains (selections_of set)) e stands) deeper, there, used)
  to_set set s stands (below_inline_fragment i e (inner, x, deeper, there, used)) =
      (inner, x, set_in_inline_fragment {i = i} (subst (Contains (selections_of set)) e stands) deeper, there, used)

  set_words : (set : SelectionSet) (u : Usage) → InSelections set.ty (selections_of set) u ↔ UsedInSet schema set u
  set_words set u = (
    λ any. let h = any_has (λ s. AtSelection set.ty s u) (selections_of set) any in to_set set h.0 h.1 h.2,
    λ (inner, s, deeper, stands, used). from_set deeper s stands used,
  )

  field_words : (parent : NameText) (f : Node Field) (u : Usage) →
      (UsedByField schema parent f.value.value u ⊎ (UsedInDirectives schema f.value.value.directives.items u ⊎ UsedInSet schema f.value.value.selection_set u)) ↔
      AtSelection parent (selection.Field f) u
  field_words parent f u = (forth, back) where
    Parts : Type 0
    Parts = UsedByField schema parent f.value.value u ⊎ (UsedInDirectives schema f.value.value.directives.items u ⊎ UsedInSet schema f.value.value.selection_set u)

    forth : Parts → AtSelection parent (selection.Field f) u
    forth (inl used) = by_itself (inl (f, refl, used))
    forth (inr (inl used)) = by_itself (inr (subst (λ l. UsedInDirectives schema l u) (sym (field_directives f)) used))
    forth (inr (inr used)) = below_field f refl used

    back : AtSelection parent (selection.Field f) u → Parts
    back (by_itself (inl (g, e, used))) = inl (subst (λ (x : Node Field). UsedByField schema parent x.value.value u) (sym (same_field g f e)) used)
    back (by_itself (inr used)) = inr (inl (subst (λ l. UsedInDirectives schema l u) (field_directives f) used))
    back (below_field g e used) = inr (inr (subst (λ (x : Node Field). UsedInSet schema x.value.value.selection_set u) (sym (same_field g f e)) used))
    back (below_inline_fragment i e used) = absurd (not_inline f i (sym e))

  spread_words : (parent : NameText) (p : Node FragmentSpread) (u : Usage) →
      UsedInDirectives schema p.value.value.directives.items u ↔ AtSelection parent (selection.FragmentSpread p) u
  spread_words parent p u = (λ used. by_itself (inr (subst (λ l. UsedInDirectives schema l u) (sym (spread_directives p)) used)), back) where
    back : AtSelection parent (selection.FragmentSpread p) u → UsedInDirectives schema p.value.value.directives.items u
    back (by_itself (inl (f, e, used))) = absurd (not_spread f p e)
    back (by_itself (inr used)) = subst (λ l. UsedInDirectives schema l u) (spread_directives p) used
    back (below_field f e used) = absurd (not_spread f p e)
    back (below_inline_fragment i e used) = absurd (spread_not_inline i p e)

  inline_words : (parent : NameText) (i : Node InlineFragment) (u : Usage) →
      (UsedInDirectives schema i.value.value.directives.items u ⊎ UsedInSet schema i.value.value.selection_set u) ↔ AtSelection parent (selection.InlineFragment i) u
  inline_words parent i u = (forth, back) where
    Parts : Type 0
    Parts = UsedInDirectives schema i.value.value.directives.items u ⊎ UsedInSet schema i.value.value.selection_set u

    forth : Parts → AtSelection parent (selection.InlineFragment i) u
    forth (inl used) = by_itself (inr (subst (λ l. UsedInDirectives schema l u) (sym (inline_directives i)) used))
    forth (inr used) = below_inline_fragment i refl used

    back : AtSelection parent (selection.InlineFragment i) u → Parts
    back (by_itself (inl (f, e, used))) = absurd (not_inline f i e)
    back (by_itself (inr used)) = inl (subst (λ l. UsedInDirectives schema l u) (inline_directives i) used)
    back (below_field f e used) = absurd (not_inline f i e)
    back (below_inline_fragment j e used) = inr (subst (λ (x : Node InlineFragment). UsedInSet schema x.value.value.selection_set u) (sym (same_inline i j e)) used)

  -- the usages in selections in order are exactly those in them
  exactly_selections : {parent : NameText} {selections : List Selection} {uses : List Usage} → SelectionsUse schema parent selections uses →
      AreExactly (InSelections parent selections) uses
  exactly_selections {parent = parent} no_selections = exactly_none (λ u. none_in_none (λ s. AtSelection parent s u))
  exactly_selections {parent = parent} (next_field f {selections = xs} a b itself applied below rest) =
      exactly_words (λ u. any_next (λ s. AtSelection parent s u) (selection.Field f) xs)
      (exactly_after
      (exactly_words (field_words parent f)
      (exactly_after (exactly_field parent f.value.value a itself)
      (exactly_after (exactly_directives schema f.value.value.directives.items b applied) (exactly_words (set_words f.value.value.selection_set) (exactly_selections below)))))
      (exactly_selections rest))
  exactly_selections {parent = parent} (next_spread p {selections = xs} a applied rest) =
      exactly_words (λ u. any_next (λ s. AtSelection parent s u) (selection.FragmentSpread p) xs)
      (exactly_after (exactly_words (spread_words parent p) (exactly_directives schema p.value.value.directives.items a applied)) (exactly_selections rest))
  exactly_selections {parent = parent} (next_inline_fragment i {selections = xs} a applied below rest) =
      exactly_words (λ u. any_next (λ s. AtSelection parent s u) (selection.InlineFragment i) xs)
      (exactly_after
      (exactly_words (inline_words parent i)
      (exactly_after (exactly_directives schema i.value.value.directives.items a applied) (exactly_words (set_words i.value.value.selection_set) (exactly_selections below))))
      (exactly_selections rest))

  exactly_set : (set : SelectionSet) (uses : List Usage) → SelectionsUse schema set.ty (selections_of set) uses → AreExactly (UsedInSet schema set) uses
  exactly_set set uses h = exactly_words (set_words set) (exactly_selections h)

  -- so of operations, fragments and documents
  exactly_operation : (o : Operation) (uses : List Usage) → OperationUses schema o uses → AreExactly (UsedInOperation schema o) uses
  exactly_operation o uses h =
      exactly_both
      (exactly_turn {In = λ (v : Node VariableDefinition). UsedInVariable schema v.value.value} (λ v. exactly_variable schema v.value.value) o.variables.items)
      (exactly_both (exactly_directives schema o.directives.items) (exactly_set o.selection_set)) uses h

  exactly_fragment : (f : Fragment) (uses : List Usage) → FragmentUses schema f uses → AreExactly (UsedInFragment schema f) uses
  exactly_fragment f uses h = exactly_both (exactly_directives schema f.directives.items) (exactly_set f.selection_set) uses h

  pub exactly_document : (document : ExecutableDocument) (uses : List Usage) → DocumentUses schema document uses → AreExactly (IsDeprecatedUsage schema document) uses
  exactly_document document uses h =
      exactly_both
      (exactly_turn {In = λ (o : Node Operation). UsedInOperation schema o.value.value} (λ o. exactly_operation o.value.value) (operations_of document))
      (exactly_turn {In = λ (f : Node Fragment). UsedInFragment schema f.value.value} (λ f. exactly_fragment f.value.value) (values document.fragments)) uses h
