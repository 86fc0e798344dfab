-- When one selection can be built, kind by kind, and what is reported of it.
use Rattle.std.proofs.Common.{◌≡◌, ◌↔◌, IsTrue, IsFalse, List, [], ◌∷◌, Option, None, Some, Ok, Err, refl, sym, ap, ◌∙◌, subst, inl, inr, All, Contains}
use Rattle.std.specs.Prelude.{◌⊎◌, is_some, unwrap_or}
use Rattle.std.proofs.lemmas.List.Elements.{All-contains}
use Rattle.graphql_nodes.specs.Names.{NameText}
use Rattle.graphql_documents.proofs.ListLemmas.{each_standing, only_one, stands_first}
use Rattle.graphql_documents.specs.Schemas.{is_composite, type_definition, type_field}
use Rattle.graphql_documents.specs.declared.documents.components.Component.{Component}
use Rattle.graphql_documents.specs.declared.documents.definitions.FieldDefinition.{FieldDefinition}
use Rattle.graphql_documents.specs.declared.documents.schemas.ExtendedType.{ExtendedType}
use Rattle.graphql_documents.specs.declared.documents.schemas.ExtendedType.TheVariants.{Scalar, Object, Interface, Union, Enum, InputObject}
use Rattle.graphql_documents.specs.declared.documents.schemas.FieldLookupError.{FieldLookupError}
use Rattle.graphql_documents.specs.declared.documents.schemas.Schema.{Schema}
use Rattle.graphql_trees.specs.declared.executable.Field.{Field, out-Field}
use Rattle.graphql_trees.specs.declared.executable.FragmentSpread.{FragmentSpread}
use Rattle.graphql_trees.specs.declared.executable.InlineFragment.{InlineFragment}
use Rattle.graphql_trees.specs.declared.executable.Selection.{Selection, out-Selection}
use Rattle.graphql_trees.specs.declared.executable.Selection.TheOpen as Open
use Rattle.graphql_trees.specs.declared.executable.Selection.TheVariants as tree
use Rattle.graphql_trees.specs.declared.executable.SelectionSet.{SelectionSet}
use Rattle.graphql_document_building.proofs.BuildsLemmas.{field_builds, nothing_builds, one_builds, set_below_builds, set_of_fragment_builds, stands_among}
use Rattle.graphql_document_building.specs.BuildingRules.{FieldBuilds, SelectionBuilds, SelectionsBuild}
use Rattle.graphql_document_building.specs.Trees.{StandsOn, is_condition_composite, is_type_composite, names_leaf_type, selections_in, stands_below_field, stands_here, stands_in_inline_fragment, type_below}
use Rattle.graphql_document_checking.specs.Reports.{IsSelectionReport, IsSetReport, SelectsFromLeaf, SetBuilds, has_invalid_condition, lacks_condition, lacks_field, leaf_kind, selects_from_leaf}
use Rattle.graphql_building_reports.specs.declared.lists.BuildingReport.{BuildingReport}
use Rattle.graphql_building_reports.specs.declared.rules.BuildingRule.TheVariants as rule
use Rattle.graphql_building_reports.specs.declared.kinds.LeafKind.{LeafKind}

-- a selection is of one kind
same_field : (f g : Field) → tree.Field g ≡ tree.Field f → g ≡ f
same_field f g e = let opens : Open.Field g ≡ Open.Field f = sym (tree.outs-Field g) ∙ ap out-Selection e ∙ tree.outs-Field f in cc

same_inline : (i j : InlineFragment) → tree.InlineFragment j ≡ tree.InlineFragment i → j ≡ i
same_inline i j e = let opens : Open.InlineFragment j ≡ Open.InlineFragment i = sym (tree.outs-InlineFragment j) ∙ ap out-Selection e ∙ tree.outs-InlineFragment i in cc

not_inline : (f : Field) (i : InlineFragment) → ¬ (tree.InlineFragment i ≡ tree.Field f)
not_inline f i e =
    let opens : Open.InlineFragment i ≡ Open.Field f = sym (tree.outs-InlineFragment i) ∙ ap out-Selection e ∙ tree.outs-Field f in
    let no : ⊥ = cc in no

field_no_spread : (f : Field) (p : FragmentSpread) → ¬ (tree.Field f ≡ tree.FragmentSpread p)
field_no_spread f p e =
    let opens : Open.Field f ≡ Open.FragmentSpread p = sym (tree.outs-Field f) ∙ ap out-Selection e ∙ tree.outs-FragmentSpread p in
    let no : ⊥ = cc in no

inline_no_spread : (i : InlineFragment) (p : FragmentSpread) → ¬ (tree.InlineFragment i ≡ tree.FragmentSpread p)
inline_no_spread i p e =
    let opens : Open.InlineFragment i ≡ Open.FragmentSpread p = sym (tree.outs-InlineFragment i) ∙ ap out-Selection e ∙ tree.outs-FragmentSpread p in
    let no : ⊥ = cc in no

-- a type has a kind of leaves exactly where it is a leaf
leaf_of : (d : Option ExtendedType) → (ty : NameText) (schema : Schema) → type_definition schema ty ≡ d → names_leaf_type schema ty ≡ is_some (leaf_kind schema ty)
leaf_of None ty schema is = rw is refl
leaf_of (Some (Scalar d)) ty schema is = rw is refl
leaf_of (Some (Object d)) ty schema is = rw is refl
leaf_of (Some (Interface d)) ty schema is = rw is refl
leaf_of (Some (Union d)) ty schema is = rw is refl
leaf_of (Some (Enum d)) ty schema is = rw is refl
leaf_of (Some (InputObject d)) ty schema is = rw is refl

module _ (schema : Schema) where
  is_leaf : (ty : NameText) (kind : LeafKind) → leaf_kind schema ty ≡ Some kind → IsTrue (names_leaf_type schema ty)
  is_leaf ty kind is = leaf_of (type_definition schema ty) ty schema refl ∙ ap is_some is

  is_no_leaf : (ty : NameText) → leaf_kind schema ty ≡ None → IsFalse (names_leaf_type schema ty)
  is_no_leaf ty is = leaf_of (type_definition schema ty) ty schema refl ∙ ap is_some is

  -- ==== several selections
  stands_in_one : (parent here : NameText) (xs : List Selection) (s : Selection) → StandsOn schema parent xs s here →
      (x : Selection) × Contains xs x × StandsOn schema parent (x ∷ []) s here
  stands_in_one parent here xs s (stands_here stands) = (s, stands, stands_here (stands_first s []))
  stands_in_one parent here xs s (stands_below_field f d stands found opens below) =
      (tree.Field f, stands, stands_below_field f d (stands_first (tree.Field f) []) found opens below)
  stands_in_one parent here xs s (stands_in_inline_fragment i stands defined below) =
      (tree.InlineFragment i, stands, stands_in_inline_fragment i (stands_first (tree.InlineFragment i) []) defined below)

  pub all_build : (parent : NameText) (xs : List Selection) → All (SelectionBuilds schema parent) xs ↔ SelectionsBuild schema parent xs
  all_build parent xs = (
    λ all.
        let one : (x : Selection) → Contains xs x → SelectionBuilds schema parent x = λ x stands. All-contains (SelectionBuilds schema parent) xs x all stands in
        record {
          fields = λ f here s. let in' = stands_in_one parent here xs (tree.Field f) s in (one in'.0 in'.1).fields f here in'.2;
          inline_fragments = λ i here s. let in' = stands_in_one parent here xs (tree.InlineFragment i) s in (one in'.0 in'.1).inline_fragments i here in'.2;
        },
    λ builds. each_standing (SelectionBuilds schema parent) xs (λ x stands. one_builds schema parent xs x stands builds),
  )

  pub report_among : (parent : NameText) (xs : List Selection) (x : Selection) → Contains xs x → (r : BuildingReport) →
      IsSelectionReport schema parent (x ∷ []) r → IsSelectionReport schema parent xs r
  report_among parent xs x stands r report = record {
    s = report.s;
    here = report.here;
    stands = stands_among schema parent report.here (x ∷ []) xs report.s (λ y only. subst (Contains xs) (sym (only_one x y only)) stands) report.stands;
    breaks = report.breaks;
  }

  -- ==== a spread
  only_spread : (parent here : NameText) (p : FragmentSpread) (xs : List Selection) (s : Selection) → ((x : Selection) → Contains xs x → x ≡ tree.FragmentSpread p) →
      StandsOn schema parent xs s here → s ≡ tree.FragmentSpread p
  only_spread parent here p xs s only (stands_here stands) = only s stands
  only_spread parent here p xs s only (stands_below_field f d stands found opens below) = absurd (field_no_spread f p (only (tree.Field f) stands))
  only_spread parent here p xs s only (stands_in_inline_fragment i stands defined below) = absurd (inline_no_spread i p (only (tree.InlineFragment i) stands))

  pub spread_builds : (parent : NameText) (p : FragmentSpread) (x : Selection) → x ≡ tree.FragmentSpread p → SelectionBuilds schema parent x
  spread_builds parent p x is =
      let only : (y : Selection) → Contains (x ∷ []) y → y ≡ tree.FragmentSpread p = λ y stands. only_one x y stands ∙ is in
      record {
        fields = λ f here s. absurd (field_no_spread f p (only_spread parent here p (x ∷ []) (tree.Field f) only s));
        inline_fragments = λ i here s. absurd (inline_no_spread i p (only_spread parent here p (x ∷ []) (tree.InlineFragment i) only s));
      }

  -- ==== a field
  module _ (parent ty : NameText) (f : Field) (d : Component FieldDefinition) (found : type_field schema parent (out-Field f).name ≡ Ok d) where
    of_field : (here : NameText) (xs : List Selection) (s : Selection) → ((x : Selection) → Contains xs x → x ≡ tree.Field f) → StandsOn schema parent xs s here →
        ((s ≡ tree.Field f) × (here ≡ parent)) ⊎ (IsFalse (names_leaf_type schema (type_below d)) × StandsOn schema (type_below d) (selections_in (out-Field f).selection_set) s here)
    of_field here xs s only (stands_here stands) = inl (only s stands, refl)
    of_field here xs s only (stands_below_field g e stands has opens below) =
        let same : g ≡ f = same_field f g (only (tree.Field g) stands) in
        let gives : e ≡ d = let here' : type_field schema parent (out-Field f).name ≡ Ok e = subst (λ g. type_field schema parent (out-Field g).name ≡ Ok e) same has in cc in
        inr (
          subst (λ e. IsFalse (names_leaf_type schema (type_below e))) gives opens,
          subst (λ e. StandsOn schema (type_below e) (selections_in (out-Field f).selection_set) s here) gives
              (subst (λ g. StandsOn schema (type_below e) (selections_in (out-Field g).selection_set) s here) same below),
        )
    of_field here xs s only (stands_in_inline_fragment i stands defined below) = absurd (not_inline f i (only (tree.InlineFragment i) stands))

    pub field_in_words : ty ≡ type_below d → SetBuilds schema ty f ↔ SelectionBuilds schema parent (tree.Field f)
    field_in_words is = (
      λ set.
          let below : SetBuilds schema (type_below d) f = subst (λ ty. SetBuilds schema ty f) is set in
          let only : (x : Selection) → Contains (tree.Field f ∷ []) x → x ≡ tree.Field f = λ x stands. only_one (tree.Field f) x stands in
          let itself : FieldBuilds schema parent f = record { definition = d; defined = found; leaf = below.leaf } in
          record {
            fields = λ g here s. elim (of_field here (tree.Field f ∷ []) (tree.Field g) only s) [
              | inl first ↦ subst (λ here. FieldBuilds schema here g) (sym first.1) (subst (FieldBuilds schema parent) (sym (same_field f g first.0)) itself)
              | inr deeper ↦ (below.selections deeper.0).fields g here deeper.1
            ];
            inline_fragments = λ i here s. elim (of_field here (tree.Field f ∷ []) (tree.InlineFragment i) only s) [
              | inl first ↦ absurd (not_inline f i first.0)
              | inr deeper ↦ (below.selections deeper.0).inline_fragments i here deeper.1
            ];
          },
      λ builds.
          let field = field_builds schema parent f builds in
          let same : field.definition ≡ d = cc in
          subst (λ ty. SetBuilds schema ty f) (sym is) (record {
            leaf = subst (λ d. IsTrue (names_leaf_type schema (type_below d)) → (out-Field f).selection_set ≡ None) same field.leaf;
            selections = λ opens. set_below_builds schema parent (type_below d) f d builds found refl;
          }),
    )

    pub field_report : ty ≡ type_below d → (r : BuildingReport) → IsSetReport schema ty f r → IsSelectionReport schema parent (tree.Field f ∷ []) r
    field_report is r (inl leaf) = record {
      s = tree.Field f;
      here = parent;
      stands = stands_here (stands_first (tree.Field f) []);
      breaks = selects_from_leaf f d r found (subst (λ ty. SelectsFromLeaf schema ty f r) is leaf);
    }
    field_report is r (inr deeper) =
        let opens : IsFalse (names_leaf_type schema (type_below d)) = subst (λ ty. IsFalse (names_leaf_type schema ty)) is deeper.0 in
        let report : IsSelectionReport schema (type_below d) (selections_in (out-Field f).selection_set) r =
        subst (λ ty. IsSelectionReport schema ty (selections_in (out-Field f).selection_set) r) is deeper.1 in
        record {
          s = report.s;
          here = report.here;
          stands = stands_below_field f d (stands_first (tree.Field f) []) found opens report.stands;
          breaks = report.breaks;
        }

  pub undefined_breaks : (parent : NameText) (f : Field) (e : FieldLookupError) → type_field schema parent (out-Field f).name ≡ Err e → ¬ SelectionBuilds schema parent (tree.Field f)
  undefined_breaks parent f e found builds = let field = field_builds schema parent f builds in let defined = field.defined in let no : ⊥ = cc in no

  pub undefined_report : (parent : NameText) (f : Field) (e : FieldLookupError) → type_field schema parent (out-Field f).name ≡ Err e →
      IsSelectionReport schema parent (tree.Field f ∷ []) (record { location = (out-Field f).name.location; rule = rule.UndefinedField parent (out-Field f).name })
  undefined_report parent f e found = record { s = tree.Field f; here = parent; stands = stands_here (stands_first (tree.Field f) []); breaks = lacks_field f e found }

  -- ==== the set of a field
  pub no_set_builds : (ty : NameText) (f : Field) → (out-Field f).selection_set ≡ None → SetBuilds schema ty f
  no_set_builds ty f none = record {
    leaf = λ leaf. none;
    selections = λ opens. subst (λ (set : Option SelectionSet). SelectionsBuild schema ty (selections_in set)) (sym none) (nothing_builds schema ty);
  }

  pub leaf_breaks : (ty : NameText) (f : Field) (kind : LeafKind) (set : SelectionSet) → leaf_kind schema ty ≡ Some kind → (out-Field f).selection_set ≡ Some set → ¬ SetBuilds schema ty f
  leaf_breaks ty f kind set is some builds = let none = builds.leaf (is_leaf ty kind is) in let no : ⊥ = cc in no

  pub open_set : (ty : NameText) (f : Field) (set : SelectionSet) (xs : List Selection) → leaf_kind schema ty ≡ None → (out-Field f).selection_set ≡ Some set → xs ≡ set.selections →
      SelectionsBuild schema ty xs ↔ SetBuilds schema ty f
  open_set ty f set xs is some all =
      let same : xs ≡ selections_in (out-Field f).selection_set = all ∙ ap selections_in (sym some) in (
        λ builds. record {
          leaf = λ leaf. absurd (let opens = is_no_leaf ty is in let no : ⊥ = cc in no);
          selections = λ opens. subst (SelectionsBuild schema ty) same builds;
        },
        λ builds. subst (SelectionsBuild schema ty) (sym same) (builds.selections (is_no_leaf ty is)),
      )

  pub open_report : (ty : NameText) (f : Field) (set : SelectionSet) (xs : List Selection) → leaf_kind schema ty ≡ None → (out-Field f).selection_set ≡ Some set → xs ≡ set.selections →
      (r : BuildingReport) → IsSelectionReport schema ty xs r → IsSetReport schema ty f r
  open_report ty f set xs is some all r report =
      inr (is_no_leaf ty is, subst (λ xs. IsSelectionReport schema ty xs r) (all ∙ ap selections_in (sym some)) report)

  -- ==== an inline fragment
  module _ (parent ty : NameText) (i : InlineFragment) (xs : List Selection) (defined : IsTrue (is_condition_composite schema i.type_condition))
      (is : ty ≡ unwrap_or i.type_condition parent) (all : xs ≡ i.selection_set.selections) where
    of_fragment : (here : NameText) (ys : List Selection) (s : Selection) → ((x : Selection) → Contains ys x → x ≡ tree.InlineFragment i) → StandsOn schema parent ys s here →
        ((s ≡ tree.InlineFragment i) × (here ≡ parent)) ⊎ StandsOn schema (unwrap_or i.type_condition parent) i.selection_set.selections s here
    of_fragment here ys s only (stands_here stands) = inl (only s stands, refl)
    of_fragment here ys s only (stands_below_field f d stands found opens below) = absurd (not_inline f i (sym (only (tree.Field f) stands)))
    of_fragment here ys s only (stands_in_inline_fragment j stands has below) =
        let same : j ≡ i = same_inline i j (only (tree.InlineFragment j) stands) in
        inr (subst (λ j. StandsOn schema (unwrap_or j.type_condition parent) j.selection_set.selections s here) same below)

    pub fragment_in_words : SelectionsBuild schema ty xs ↔ SelectionBuilds schema parent (tree.InlineFragment i)
    fragment_in_words = (
      λ set.
          let inside : SelectionsBuild schema (unwrap_or i.type_condition parent) i.selection_set.selections =
          subst (SelectionsBuild schema (unwrap_or i.type_condition parent)) all (subst (λ ty. SelectionsBuild schema ty xs) is set) in
          let only : (x : Selection) → Contains (tree.InlineFragment i ∷ []) x → x ≡ tree.InlineFragment i = λ x stands. only_one (tree.InlineFragment i) x stands in
          record {
            fields = λ f here s. elim (of_fragment here (tree.InlineFragment i ∷ []) (tree.Field f) only s) [
              | inl first ↦ absurd (not_inline f i (sym first.0))
              | inr deeper ↦ inside.fields f here deeper
            ];
            inline_fragments = λ j here s. elim (of_fragment here (tree.InlineFragment i ∷ []) (tree.InlineFragment j) only s) [
              | inl first ↦ subst (λ j. IsTrue (is_condition_composite schema j.type_condition)) (sym (same_inline i j first.0)) defined
              | inr deeper ↦ inside.inline_fragments j here deeper
            ];
          },
      λ builds. set_of_fragment_builds schema parent ty i xs builds is all,
    )

    pub fragment_report : (r : BuildingReport) → IsSelectionReport schema ty xs r → IsSelectionReport schema parent (tree.InlineFragment i ∷ []) r
    fragment_report r report =
        let inside : IsSelectionReport schema (unwrap_or i.type_condition parent) i.selection_set.selections r =
        subst (λ xs. IsSelectionReport schema (unwrap_or i.type_condition parent) xs r) all (subst (λ ty. IsSelectionReport schema ty xs r) is report) in
        record {
          s = inside.s;
          here = inside.here;
          stands = stands_in_inline_fragment i (stands_first (tree.InlineFragment i) []) defined inside.stands;
          breaks = inside.breaks;
        }

  pub undefined_is_not_composite : (name : NameText) → type_definition schema name ≡ None → ¬ IsTrue (is_type_composite schema name)
  undefined_is_not_composite name none composite = let no : ⊥ = cc in no

  pub condition_breaks : (parent : NameText) (i : InlineFragment) (condition : NameText) → i.type_condition ≡ Some condition → type_definition schema condition ≡ None →
      ¬ SelectionBuilds schema parent (tree.InlineFragment i)
  condition_breaks parent i condition some none builds =
      let defined = builds.inline_fragments i parent (stands_here (stands_first (tree.InlineFragment i) [])) in
      let there : IsTrue (is_condition_composite schema (Some condition)) = subst (λ c. IsTrue (is_condition_composite schema c)) some defined in
      let no : ⊥ = cc in no

  pub target_breaks : (parent : NameText) (i : InlineFragment) (condition : NameText) (d : ExtendedType) → i.type_condition ≡ Some condition →
      type_definition schema condition ≡ Some d → IsFalse (is_composite d) → ¬ SelectionBuilds schema parent (tree.InlineFragment i)
  target_breaks parent i condition d some is no_composite builds =
      let composite = builds.inline_fragments i parent (stands_here (stands_first (tree.InlineFragment i) [])) in
      let there : IsTrue (is_condition_composite schema (Some condition)) = subst (λ c. IsTrue (is_condition_composite schema c)) some composite in
      let found : IsTrue (is_composite d) = rw is at there in
      let no : ⊥ = cc in no

  pub target_report : (parent : NameText) (i : InlineFragment) (condition : NameText) (d : ExtendedType) → i.type_condition ≡ Some condition →
      type_definition schema condition ≡ Some d → IsFalse (is_composite d) →
      IsSelectionReport schema parent (tree.InlineFragment i ∷ []) (record { location = Some i.span; rule = rule.InvalidFragmentTarget None })
  target_report parent i condition d some is no_composite = record {
    s = tree.InlineFragment i;
    here = parent;
    stands = stands_here (stands_first (tree.InlineFragment i) []);
    breaks = has_invalid_condition i condition d some is no_composite;
  }

  pub condition_report : (parent : NameText) (i : InlineFragment) (condition : NameText) → i.type_condition ≡ Some condition → type_definition schema condition ≡ None →
      IsSelectionReport schema parent (tree.InlineFragment i ∷ []) (record { location = condition.location; rule = rule.UndefinedTypeInInlineFragmentTypeCondition condition })
  condition_report parent i condition some none = record {
    s = tree.InlineFragment i;
    here = parent;
    stands = stands_here (stands_first (tree.InlineFragment i) []);
    breaks = lacks_condition i condition some none;
  }
