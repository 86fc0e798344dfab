-- `@defer` is in documents that are the same at the same places. Specification: the incremental delivery proposal.
use Rattle.std.proofs.Common.{◌≡◌, ◌∙◌, ◌++◌, ◌&&◌, ◌||◌, inl, inr, Bool, true, false, not, List, [], ◌∷◌, Option, None, Some, codes, refl, sym, ap, ap₂, subst}
use Rattle.std.specs.Prelude.{Contains, flat_map}
use Rattle.std.specs.List.{AllZip}
use Rattle.std.specs.Option.{option_map_or}
use Rattle.std.specs.Str.{bytes_eq}
use Rattle.graphql_nodes.specs.Names.{NameText}
use Rattle.graphql_nodes.specs.declared.nodes.Node.{Node}
use Rattle.graphql_documents.specs.Contents.{SameIfAny}
use Rattle.graphql_documents.specs.Directives.{argument_value, is_boolean, is_literally, may_exclude}
use Rattle.graphql_documents.specs.Executables.{sets_of}
use Rattle.graphql_documents.specs.Selections.{Fragments, InExpandedSet, can_be_excluded, directives_of, fragments_of, selections_of}
use Rattle.graphql_documents.specs.declared.documents.directives.Directive.{Directive}
use Rattle.graphql_documents.specs.declared.documents.executables.ExecutableDocument.{ExecutableDocument}
use Rattle.graphql_documents.specs.declared.documents.executables.Operation.{Operation}
use Rattle.graphql_documents.specs.declared.documents.executables.Selection.{Selection}
use Rattle.graphql_documents.specs.declared.documents.executables.Selection.TheVariants as kind
use Rattle.graphql_documents.specs.declared.documents.executables.SelectionSet.{SelectionSet}
use Rattle.graphql_documents.specs.declared.documents.values.Value.{Value, out-Value}
use Rattle.graphql_documents.specs.declared.documents.values.Value.TheOpen as form
use Rattle.graphql_documents.specs.declared.documents.values.Value.TheVariants as literal
use Rattle.graphql_specification.specs.Defer.{CanBeDisabled, DeferHolds, DefersCanBeDisabled, DefersIn, DefersOn, HasFixedLabel, HasNoDeferAtRoot, HaveDifferentLabels, LabelsHold, Open, OperationDeferHolds, defers, defers_on_field, defers_on_inline_fragment, defers_on_none, defers_on_spread, open_here, open_in_field, open_in_inline_fragment, open_in_spread}
use Rattle.graphql_kept_rules.specs.SameTexts.{SameOperationText, SameSelectionText, SameSelectionTexts, SameText, next_selection}
use Rattle.graphql_document_building.specs.SameLeaves.{SameContents, SameDirective, SameDirectives, SameValue, same_boolean, same_enum, same_float, same_int, same_list, same_null, same_object, same_string, same_variable}
use Rattle.graphql_kept_rules.proofs.TextFragmentLemmas.{fragments_back}
use Rattle.graphql_sameness_laws.proofs.LeafLemmas.{directive_back}
use Rattle.graphql_sameness_laws.proofs.NamedLemmas.{applications_alike, argument_value_alike}
use Rattle.graphql_kept_rules.proofs.TextReachLemmas.{fragment_too, inside_too}
use Rattle.graphql_kept_rules.proofs.TextSelectionLemmas.{SameFragments, SameSet, as_field, as_inline_fragment, as_spread, document_back, field_too, fragment_set, fragments_alike, inline_fragment_back, operation_set, operations_alike, own_directives, same_field_node, selection_back, selection_too, set_back, sets_alike, spread_back}
use Rattle.graphql_sameness_laws.proofs.ValueLemmas.{string_too, variable_too}
use Rattle.graphql_sameness_laws.proofs.ZipLemmas.{other_side, some_and, zip_all, zip_all_pairs, zip_back, zip_empty, zip_joined, zip_list_any}

-- ==== truth values

abbrev open_boolean : Bool → form.Value-F Value → Bool
open_boolean b (form.Boolean c) = is_boolean b (literal.Boolean c)
open_boolean b _ = false

by_form : (b : Bool) (v : Value) → is_boolean b v ≡ open_boolean b (out-Value v)
unfolding out-Value denote.Hole.Carrier.out
by_form b literal.Null = refl
by_form b (literal.Enum name) = refl
by_form b (literal.Variable name) = refl
by_form b (literal.String text) = refl
by_form b (literal.Float number) = refl
by_form b (literal.Int number) = refl
by_form b (literal.Boolean truth) = refl
by_form b (literal.List' shape items) = refl
by_form b (literal.Object' shape entries) = refl

both_boolean : (b : Bool) {v w : Value} → SameContents v w → is_boolean b v ≡ is_boolean b w
both_boolean b same_null = refl
both_boolean b same_enum = refl
both_boolean b same_variable = refl
both_boolean b (same_string x y e) = refl
both_boolean b same_float = refl
both_boolean b same_int = refl
both_boolean b same_boolean = refl
both_boolean b (same_list xs ys _) =
    by_form b (literal.List xs) ∙ ap (open_boolean b) (literal.outs-List xs) ∙ sym (by_form b (literal.List ys) ∙ ap (open_boolean b) (literal.outs-List ys))
both_boolean b (same_object xs ys _) =
    by_form b (literal.Object xs) ∙ ap (open_boolean b) (literal.outs-Object xs) ∙ sym (by_form b (literal.Object ys) ∙ ap (open_boolean b) (literal.outs-Object ys))

mapped_or : {X Y : Type 0} (R : X → X → Type 0) (f : X → Y) → ((x y : X) → R x y → f x ≡ f y) → (o p : Option X) (other : Y) → SameIfAny R o p →
    option_map_or f o other ≡ option_map_or f p other
mapped_or R f one None None other same = refl
mapped_or R f one None (Some y) other same = absurd same
mapped_or R f one (Some x) None other same = absurd same
mapped_or R f one (Some x) (Some y) other same = one x y same

both_literally : (b : Bool) (x y : Node Directive) → SameDirective x y → is_literally b x.value.value ≡ is_literally b y.value.value
both_literally b x y same =
    mapped_or SameValue (λ value. is_boolean b value.value.value) (λ v w p. both_boolean b p.contents)
    (argument_value (codes "if") x.value.value) (argument_value (codes "if") y.value.value) false (argument_value_alike (codes "if") x y same)

both_may_exclude : (x y : Node Directive) → SameDirective x y → may_exclude x.value.value ≡ may_exclude y.value.value
both_may_exclude x y same =
    ap₂ ◌||◌ (ap₂ ◌&&◌ (ap (λ (n : NameText). bytes_eq n.text (codes "skip")) same.name) (ap not (both_literally false x y same)))
    (ap₂ ◌&&◌ (ap (λ (n : NameText). bytes_eq n.text (codes "include")) same.name) (ap not (both_literally true x y same)))

both_excluded : (s t : Selection) → SameSelectionText s t → can_be_excluded s ≡ can_be_excluded t
both_excluded s t same = zip_list_any SameDirective (λ d. may_exclude d.value.value) (λ d. may_exclude d.value.value) both_may_exclude
    (directives_of s) (directives_of t) (own_directives same)

-- ==== the applications of `@defer` in a document

next_too : (x : Selection) (xs ys : List Selection) → SameSelectionTexts (x ∷ xs) ys →
    (y : Selection) × (rest : List Selection) × (ys ≡ y ∷ rest) × SameSelectionText x y × SameSelectionTexts xs rest
next_too x xs [] same = elim same [ ]
next_too x xs (y ∷ ys) (next_selection first rest) = (y, ys, refl, first, rest)

none_too : (ys : List Selection) → SameSelectionTexts [] ys → ys ≡ []
none_too [] same = refl
none_too (y ∷ ys) same = elim same [ ]

defers_too : {xs : List Selection} {ds : List (Node Directive)} → DefersOn xs ds → (ys : List Selection) → SameSelectionTexts xs ys →
    (es : List (Node Directive)) × DefersOn ys es × SameDirectives ds es
defers_too defers_on_none ys same = ([], subst (λ ys. DefersOn ys []) (sym (none_too ys same)) defers_on_none, tt)
defers_too (defers_on_field f {rest = rest} {below = below} {after = after} inner further) ys same =
    let next = next_too (kind.Field f) rest ys same in
    let g = same_field_node f next.0 next.3 in
    let deep = defers_too inner (selections_of g.0.value.value.selection_set) g.1.set.selections in
    let more = defers_too further next.1 next.4 in (
      defers g.0.value.value.directives.items ++ (deep.0 ++ more.0),
      subst (λ ys. DefersOn ys (defers g.0.value.value.directives.items ++ (deep.0 ++ more.0))) (sym (next.2 ∙ ap (λ y. y ∷ next.1) g.2)) (defers_on_field g.0 deep.1 more.1),
      zip_joined SameDirective _ _ _ _ (applications_alike (codes "defer") _ _ g.1.head.directives) (zip_joined SameDirective below deep.0 after more.0 deep.2 more.2),
    )
defers_too (defers_on_inline_fragment i {rest = rest} {below = below} {after = after} inner further) ys same =
    let next = next_too (kind.InlineFragment i) rest ys same in
    let j = as_inline_fragment i next.0 next.3 in
    let deep = defers_too inner (selections_of j.0.value.value.selection_set) j.1.set.selections in
    let more = defers_too further next.1 next.4 in (
      defers j.0.value.value.directives.items ++ (deep.0 ++ more.0),
      subst (λ ys. DefersOn ys (defers j.0.value.value.directives.items ++ (deep.0 ++ more.0))) (sym (next.2 ∙ ap (λ y. y ∷ next.1) j.2))
          (defers_on_inline_fragment j.0 deep.1 more.1),
      zip_joined SameDirective _ _ _ _ (applications_alike (codes "defer") _ _ j.1.head.directives) (zip_joined SameDirective below deep.0 after more.0 deep.2 more.2),
    )
defers_too (defers_on_spread p {rest = rest} {after = after} further) ys same =
    let next = next_too (kind.FragmentSpread p) rest ys same in
    let q = as_spread p next.0 next.3 in
    let more = defers_too further next.1 next.4 in (
      defers q.0.value.value.directives.items ++ more.0,
      subst (λ ys. DefersOn ys (defers q.0.value.value.directives.items ++ more.0)) (sym (next.2 ∙ ap (λ y. y ∷ next.1) q.2)) (defers_on_spread q.0 more.1),
      zip_joined SameDirective _ _ after more.0 (applications_alike (codes "defer") _ _ q.1.directives) more.2,
    )

parts_too : (xs ys : List SelectionSet) (parts : List (List (Node Directive))) → AllZip SameSet xs ys → AllZip (λ set part. DefersOn (selections_of set) part) xs parts →
    (others : List (List (Node Directive))) × AllZip (λ set part. DefersOn (selections_of set) part) ys others ×
    SameDirectives (flat_map (λ part. part) parts) (flat_map (λ part. part) others)
parts_too [] [] [] same zip = ([], tt, tt)
parts_too [] [] (part ∷ parts) same zip = absurd zip
parts_too [] (y ∷ ys) parts same zip = absurd same
parts_too (x ∷ xs) [] parts same zip = absurd same
parts_too (x ∷ xs) (y ∷ ys) [] same zip = absurd zip
parts_too (x ∷ xs) (y ∷ ys) (part ∷ parts) same zip =
    let first = defers_too zip.0 (selections_of y) same.0.selections in
    let more = parts_too xs ys parts same.1 zip.1 in
    (first.0 ∷ more.0, (first.1, more.1), zip_joined SameDirective part first.0 _ _ first.2 more.2)

defers_in_too : (d e : ExecutableDocument) → SameText d e → (xs : List (Node Directive)) → DefersIn d xs →
    (ys : List (Node Directive)) × DefersIn e ys × SameDirectives xs ys
defers_in_too d e same xs (parts, zip, are) =
    let others = parts_too (sets_of d) (sets_of e) parts (sets_alike d e same) zip in
    (flat_map (λ part. part) others.0, (others.0, others.1, refl), subst (λ xs. SameDirectives xs (flat_map (λ part. part) others.0)) (sym are) others.2)

-- ==== labels

labels_differ_too : (x y u v : Node Directive) → SameDirective x u → SameDirective y v → HaveDifferentLabels x y → HaveDifferentLabels u v
labels_differ_too x y u v left right differ k l s t first second one two same =
    let a = other_side SameValue _ _ k (argument_value_alike (codes "label") u x (directive_back x u left)) first in
    let b = other_side SameValue _ _ l (argument_value_alike (codes "label") v y (directive_back y v right)) second in
    let m = string_too k.value.value a.0.value.value s a.2.contents one in
    let n = string_too l.value.value b.0.value.value t b.2.contents two in
    differ a.0 b.0 m.0 n.0 a.1 b.1 m.2 n.2 (sym m.1 ∙ same ∙ n.1)

label_fixed_too : (x u : Node Directive) → SameDirective x u → HasFixedLabel x → HasFixedLabel u
label_fixed_too x u same fixed value name found is =
    let a = other_side SameValue _ _ value (argument_value_alike (codes "label") u x (directive_back x u same)) found in
    fixed a.0 name a.1 (variable_too value.value.value a.0.value.value name a.2.contents is)

labels_too : (d e : ExecutableDocument) → SameText d e → LabelsHold d → LabelsHold e
labels_too d e same h ys are =
    let found = defers_in_too e d (document_back d e same) ys are in
    let back : SameDirectives found.0 ys = zip_back SameDirective SameDirective directive_back ys found.0 found.2 in
    let here = h found.0 found.1 in (
      zip_all_pairs SameDirective HaveDifferentLabels HaveDifferentLabels labels_differ_too found.0 ys back here.0,
      zip_all SameDirective HasFixedLabel HasFixedLabel label_fixed_too found.0 ys back here.1,
    )

-- ==== conditions

disabled_too : (x y : Node Directive) → SameDirective x y → CanBeDisabled x → CanBeDisabled y
disabled_too x y same h = elim h [
  | inl literally ↦ inl (sym (both_literally false x y same) ∙ literally)
  | inr variable ↦ inr (some_and SameValue
      (λ value. (name : NameText) × (value.value.value ≡ literal.Variable name)) (λ value. (name : NameText) × (value.value.value ≡ literal.Variable name))
      (λ v w p is. (is.0, variable_too v.value.value w.value.value is.0 p.contents is.1))
      (argument_value (codes "if") x.value.value) (argument_value (codes "if") y.value.value) (argument_value_alike (codes "if") x y same) variable)
]

module _ (before after : Fragments) (alike : SameFragments before after) where
  open_too : {set : SelectionSet} {s : Selection} → Open before set s → (other : SelectionSet) → SameSet set other →
      (t : Selection) × Open after other t × SameSelectionText s t
  open_too (open_here {set = set} {s = s} c kept) other same =
      let t = selection_too (selections_of set) (selections_of other) same.selections s c in
      (t.0, open_here t.1 (sym (both_excluded s t.0 t.2) ∙ kept), t.2)
  open_too (open_in_field {set = set} {s = s} {f = f} c kept inner) other same =
      let g = field_too (selections_of set) (selections_of other) same.selections f c in
      let t = open_too inner g.0.value.value.selection_set g.2.set in
      (t.0, open_in_field g.1 (sym (both_excluded (kind.Field f) (kind.Field g.0) (as_field f g.0 g.2)) ∙ kept) t.1, t.2)
  open_too (open_in_inline_fragment {set = set} {s = s} {i = i} c kept inner) other same =
      let u = selection_too (selections_of set) (selections_of other) same.selections (kind.InlineFragment i) c in
      let j = as_inline_fragment i u.0 u.2 in
      let t = open_too inner j.0.value.value.selection_set j.1.set in (
        t.0,
        open_in_inline_fragment (subst (Contains (selections_of other)) j.2 u.1)
            (ap can_be_excluded (sym j.2) ∙ sym (both_excluded (kind.InlineFragment i) u.0 u.2) ∙ kept) t.1,
        t.2,
      )
  open_too (open_in_spread {set = set} {s = s} {p = p} {d = d} c kept defined inner) other same =
      let u = selection_too (selections_of set) (selections_of other) same.selections (kind.FragmentSpread p) c in
      let q = as_spread p u.0 u.2 in
      let e = fragment_too before after alike p.value.value.fragment_name q.0.value.value.fragment_name d q.1.name defined in
      let t = open_too inner e.0.value.value.selection_set (fragment_set d e.0 e.2) in (
        t.0,
        open_in_spread (subst (Contains (selections_of other)) q.2 u.1)
            (ap can_be_excluded (sym q.2) ∙ sym (both_excluded (kind.FragmentSpread p) u.0 u.2) ∙ kept) e.1 t.1,
        t.2,
      )

module _ (before after : Fragments) (alike : SameFragments before after) where
  no_defer_at_root_too : (set other : SelectionSet) → SameSet set other → HasNoDeferAtRoot before set → HasNoDeferAtRoot after other
  no_defer_at_root_too set other same h = (
    λ j inside.
        let u = inside_too after before (fragments_back before after alike) other (kind.InlineFragment j) inside set (set_back same) in
        let i = as_inline_fragment j u.0 u.2 in
        zip_empty SameDirective _ _ (applications_alike (codes "defer") i.0.value.value.directives.items j.value.value.directives.items (inline_fragment_back j i.0 i.1).head.directives)
        (h.0 i.0 (subst (InExpandedSet before set) i.2 u.1)),
    λ q inside.
        let u = inside_too after before (fragments_back before after alike) other (kind.FragmentSpread q) inside set (set_back same) in
        let p = as_spread q u.0 u.2 in
        zip_empty SameDirective _ _ (applications_alike (codes "defer") p.0.value.value.directives.items q.value.value.directives.items (spread_back q p.0 p.1).directives)
        (h.1 p.0 (subst (InExpandedSet before set) p.2 u.1)),
  )

  defers_disabled_too : (set other : SelectionSet) → SameSet set other → DefersCanBeDisabled before set → DefersCanBeDisabled after other
  defers_disabled_too set other same h t is_open =
      let s = open_too after before (fragments_back before after alike) is_open set (set_back same) in
      zip_all SameDirective CanBeDisabled CanBeDisabled disabled_too (defers (directives_of s.0)) (defers (directives_of t))
      (applications_alike (codes "defer") (directives_of s.0) (directives_of t) (own_directives (selection_back s.2))) (h s.0 s.1)

  operation_defer_too : (o p : Node Operation) → SameOperationText o p → OperationDeferHolds before o.value.value → OperationDeferHolds after p.value.value
  operation_defer_too o p same h = record {
    root = λ not_query. no_defer_at_root_too _ _ (operation_set o p same) (h.root (λ is. not_query (sym same.operation_type ∙ is)));
    conditions = λ is. defers_disabled_too _ _ (operation_set o p same) (h.conditions (same.operation_type ∙ is));
  }

pub defer_holds_too : (d e : ExecutableDocument) → SameText d e → DeferHolds d → DeferHolds e
defer_holds_too d e same h = record {
  labels = labels_too d e same h.labels;
  operations = zip_all SameOperationText (λ o. OperationDeferHolds (fragments_of d) o.value.value) (λ o. OperationDeferHolds (fragments_of e) o.value.value)
      (operation_defer_too (fragments_of d) (fragments_of e) (fragments_alike d e same)) _ _ (operations_alike d e same) h.operations;
}
