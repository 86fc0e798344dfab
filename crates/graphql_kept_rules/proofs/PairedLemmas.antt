-- Sets that one tree says against two schemas, on types of one name, the second of which keeps fields and conditions of the first. Specification: 2.4
-- Selection Sets to 2.8 Fragments.
use Rattle.std.proofs.Common.{◌≡◌, ◌∙◌, Bool, true, false, List, [], ◌∷◌, Option, None, Some, Ok, Err, refl, sym, ap, subst, subst₂}
use Rattle.std.specs.Prelude.{◌≢◌, Contains, IsFalse, IsTrue, unwrap_or}
use Rattle.std.specs.List.{AllZip}
use Rattle.std.specs.Option.{option_map_or}
use Rattle.graphql_nodes.specs.Names.{NameText, SameName}
use Rattle.graphql_nodes.proofs.NameLemmas.{same_name_itself}
use Rattle.graphql_nodes.specs.declared.nodes.Node.{Node}
use Rattle.graphql_documents.proofs.ListLemmas.{stands_behind, stands_first}
use Rattle.graphql_documents.proofs.SelectionLemmas as kinds
use Rattle.graphql_documents.specs.Schemas.{first_of, meta_field, own_field, type_definition, type_field}
use Rattle.graphql_documents.specs.Selections.{selections_of}
use Rattle.graphql_documents.specs.TypeReferences.{inner_named_type}
use Rattle.graphql_documents.specs.declared.documents.components.Component.{Component}
use Rattle.graphql_documents.specs.declared.documents.definitions.FieldDefinition.{FieldDefinition}
use Rattle.graphql_documents.specs.declared.documents.executables.Field.{Field}
use Rattle.graphql_documents.specs.declared.documents.executables.FragmentSpread.{FragmentSpread}
use Rattle.graphql_documents.specs.declared.documents.executables.InlineFragment.{InlineFragment}
use Rattle.graphql_documents.specs.declared.documents.executables.Selection.{Selection}
use Rattle.graphql_documents.specs.declared.documents.executables.Selection.TheVariants as kind
use Rattle.graphql_documents.specs.declared.documents.executables.SelectionSet.{SelectionSet}
use Rattle.graphql_documents.specs.declared.documents.schemas.ExtendedType.{ExtendedType}
use Rattle.graphql_documents.specs.declared.documents.schemas.ExtendedType.TheVariants.{Scalar, Object, Interface, Union, Enum, InputObject}
use Rattle.graphql_documents.specs.declared.documents.schemas.FieldLookupError.TheVariants.{NoSuchField, NoSuchType}
use Rattle.graphql_documents.specs.declared.documents.schemas.Schema.{Schema}
use Rattle.graphql_trees.specs.declared.executable.Field as field_tree
use Rattle.graphql_trees.specs.declared.executable.InlineFragment as inline_fragment_tree
use Rattle.graphql_trees.specs.declared.executable.Selection as selection_tree
use Rattle.graphql_trees.specs.declared.executable.Selection.TheVariants as tree
use Rattle.graphql_specification.specs.Fragments.{NamesComposite}
use Rattle.graphql_document_building.specs.BuildingRules.{SelectionsBuild}
use Rattle.graphql_document_building.specs.SameDocuments.{SameSpread}
use Rattle.graphql_document_building.specs.Selections as says
use Rattle.graphql_document_building.specs.Selections.{FieldHeadSays, FragmentSpreadSays, InlineFragmentHeadSays, SelectionSays, SelectionsSay}
use Rattle.graphql_document_building.specs.Trees.{names_leaf_type, selections_in, stands_below_field, stands_here, stands_in_inline_fragment, type_below}
use Rattle.graphql_schema_changes.specs.Keeps.{KeepsField, KeepsFields}
use Rattle.graphql_kept_rules.proofs.FoundLemmas.{one_ok}
use Rattle.graphql_kept_rules.proofs.NameLemmas.{one_field}
use Rattle.graphql_kept_rules.proofs.SaidFormLemmas.{field_form, inline_form, spread_form}
use Rattle.graphql_kept_rules.proofs.SaidTextLemmas.{spread_alike}
use Rattle.graphql_sameness_laws.proofs.ZipLemmas.{zip_contains}

-- a type with fields is composite
pub has_composite : (schema : Schema) (parent field : NameText) (d : Component FieldDefinition) → type_field schema parent field ≡ Ok d → NamesComposite schema parent
has_composite schema parent field d is = by (type_definition schema parent) refl is
  where
    by : (o : Option ExtendedType) → type_definition schema parent ≡ o →
        option_map_or (λ definition. option_map_or Ok (first_of (own_field definition field)
        (meta_field schema parent definition field)) (Err NoSuchField))
        o (Err NoSuchType) ≡ Ok d → NamesComposite schema parent
    by None found e = absurd (let no : ⊥ = cc in no)
    by (Some (Scalar x)) found e = absurd (let no : ⊥ = cc in no)
    by (Some (Object x)) found e = (Object x, found, refl)
    by (Some (Interface x)) found e = (Interface x, found, refl)
    by (Some (Union x)) found e = (Union x, found, refl)
    by (Some (Enum x)) found e = absurd (let no : ⊥ = cc in no)
    by (Some (InputObject x)) found e = absurd (let no : ⊥ = cc in no)

pub nothing_said : (schema : Schema) (parent : NameText) (xs : List Selection) → SelectionsSay (Some schema) parent [] xs → xs ≡ []
nothing_said schema parent [] says = refl
nothing_said schema parent (x ∷ xs) says = elim says [ ]

module _ (old new : Schema) (keeps : (parent : NameText) → NamesComposite old parent → KeepsFields old new parent) where
  pub record Paired (a b : SelectionSet) : Type 0 where
    pub trees : List selection_tree.Selection
    pub before : SelectionsSay (Some old) a.ty trees (selections_of a)
    pub after : SelectionsSay (Some new) b.ty trees (selections_of b)
    pub ty : SameName a.ty b.ty
    pub builds : SelectionsBuild old a.ty trees

  -- one tree says both
  abbrev pub IsPaired : NameText → NameText → List selection_tree.Selection → Selection → Selection → Type 0
  IsPaired p q trees t s = (x : selection_tree.Selection) × Contains trees x × SelectionSays (Some new) q x t × SelectionSays (Some old) p x s

  all_paired : (p q : NameText) (all trees : List selection_tree.Selection) (xs ys : List Selection) → ((x : selection_tree.Selection) → Contains trees x → Contains all x) →
      SelectionsSay (Some new) q trees ys → SelectionsSay (Some old) p trees xs → AllZip (IsPaired p q all) ys xs
  all_paired p q all [] [] [] among says.no_selections says.no_selections = tt
  all_paired p q all [] [] (y ∷ ys) among after before = elim after [ ]
  all_paired p q all [] (x ∷ xs) (y ∷ ys) among after before = elim after [ ]
  all_paired p q all (t ∷ trees) [] [] among after before = elim after [ ]
  all_paired p q all (t ∷ trees) (x ∷ xs) [] among after before = elim after [ ]
  all_paired p q all [] (x ∷ xs) [] among says.no_selections before = elim before [ ]
  all_paired p q all (t ∷ trees) [] (y ∷ ys) among (says.next_selection first rest) before = elim before [ ]
  all_paired p q all (t ∷ trees) (x ∷ xs) (y ∷ ys) among (says.next_selection first rest) (says.next_selection one more) =
      ((t, among t (stands_first t trees), first, one), all_paired p q all trees xs ys (λ x c. among x (stands_behind t trees x c)) rest more)

  module _ (a b : SelectionSet) (pair : Paired a b) where
    pub paired : (t : Selection) → Contains (selections_of b) t → (s : Selection) × Contains (selections_of a) s × IsPaired a.ty b.ty pair.trees t s
    paired t c = zip_contains (IsPaired a.ty b.ty pair.trees) (selections_of b) (selections_of a) t
        (all_paired a.ty b.ty pair.trees pair.trees (selections_of a) (selections_of b) (λ x c. c) pair.after pair.before) c

    -- ==== fields

    pub record PairedField (f g : Node Field) : Type 0 where
      pub x : field_tree.Field
      pub stands : Contains pair.trees (tree.Field x)
      pub before : FieldHeadSays (Some old) a.ty x f.value.value
      pub after : FieldHeadSays (Some new) b.ty x g.value.value
      pub before_set : SelectionsSay (Some old) f.value.value.selection_set.ty (selections_in (field_tree.out-Field x).selection_set) (selections_of f.value.value.selection_set)
      pub after_set : SelectionsSay (Some new) g.value.value.selection_set.ty (selections_in (field_tree.out-Field x).selection_set) (selections_of g.value.value.selection_set)

    field_by : (g : Node Field) (s t : Selection) (x : selection_tree.Selection) → Contains pair.trees x → SelectionSays (Some new) b.ty x t → t ≡ kind.Field g →
        SelectionSays (Some old) a.ty x s → (f : Node Field) × (s ≡ kind.Field f) × PairedField f g
    field_by g s t x c (says.field_says y h head set location) is old_says =
        let here = field_form old a.ty y s old_says in (
          here.0,
          here.3,
          subst (PairedField here.0) (kinds.same_field g h is) (record {
            x = y;
            stands = c;
            before = here.1;
            after = head;
            before_set = here.2;
            after_set = set;
          }),
        )
    field_by g s t x c (says.fragment_spread_says y p spread) is old_says = absurd (kinds.not_spread g p is)
    field_by g s t x c (says.inline_fragment_says y i head set location) is old_says = absurd (kinds.not_inline g i is)

    pub field_pair : (g : Node Field) → Contains (selections_of b) (kind.Field g) → (f : Node Field) × Contains (selections_of a) (kind.Field f) × PairedField f g
    field_pair g c =
        let s = paired (kind.Field g) c in
        let here = field_by g s.0 (kind.Field g) s.2.0 s.2.1 s.2.2 refl s.2.3 in
        (here.0, subst (Contains (selections_of a)) here.1 s.1, here.2)

    -- the definitions of a field, the second of which keeps the first
    pub record Defined (f g : Node Field) : Type 0 where
      pub d : Component FieldDefinition
      pub e : Component FieldDefinition
      pub was : type_field old a.ty f.value.value.name ≡ Ok d
      pub is : type_field new b.ty g.value.value.name ≡ Ok e
      pub was_built : f.value.value.definition.value.value ≡ d.node.value.value
      pub is_built : g.value.value.definition.value.value ≡ e.node.value.value
      pub was_set : f.value.value.selection_set.ty ≡ type_below d
      pub is_set : g.value.value.selection_set.ty ≡ type_below e
      pub kept : KeepsField old new d e

    pub defined : (f g : Node Field) → PairedField f g → Defined f g
    defined f g p =
        let d = p.before.defines.0 in
        let e = p.after.defines.0 in
        let name = (field_tree.out-Field p.x).name in
        let k = keeps a.ty (has_composite old a.ty name d p.before.defines.1) name d p.before.defines.1 in
        let same : k.0 ≡ e = one_ok (type_field new a.ty name) k.0 e k.1 (one_field new name a.ty b.ty pair.ty ∙ p.after.defines.1) in
        record {
          d = d;
          e = e;
          was = subst (λ n. type_field old a.ty n ≡ Ok d) (sym p.before.name) p.before.defines.1;
          is = subst (λ n. type_field new b.ty n ≡ Ok e) (sym p.after.name) p.after.defines.1;
          was_built = p.before.same_definition.same_value ∙ ap (λ (d : Node FieldDefinition). d.value.value) (sym p.before.defines.2);
          is_built = p.after.same_definition.same_value ∙ ap (λ (d : Node FieldDefinition). d.value.value) (sym p.after.defines.2);
          was_set = p.before.set_type ∙ ap (λ (d : Node FieldDefinition). inner_named_type d.value.value.ty) (sym p.before.defines.2);
          is_set = p.after.set_type ∙ ap (λ (d : Node FieldDefinition). inner_named_type d.value.value.ty) (sym p.after.defines.2);
          kept = subst (KeepsField old new d) same k.2;
        }

    -- something is selected on a field that is no leaf, and then on types of one name
    pub no_leaf : (f g : Node Field) (p : PairedField f g) (is : Defined f g) → selections_of g.value.value.selection_set ≢ [] →
        IsFalse (names_leaf_type old (type_below is.d))
    no_leaf f g p is some = by (names_leaf_type old (type_below is.d)) refl
      where
        by : (t : Bool) → names_leaf_type old (type_below is.d) ≡ t → IsFalse (names_leaf_type old (type_below is.d))
        by false leaf = leaf
        by true leaf =
            let builds = pair.builds.fields p.x a.ty (stands_here p.stands) in
            let was : type_field old a.ty (field_tree.out-Field p.x).name ≡ Ok is.d = subst (λ n. type_field old a.ty n ≡ Ok is.d) p.before.name is.was in
            let one = one_ok (type_field old a.ty (field_tree.out-Field p.x).name) is.d builds.definition was builds.defined in
            let empty = builds.leaf (subst (λ c. IsTrue (names_leaf_type old (type_below c))) one leaf) in
            absurd (some (nothing_said new g.value.value.selection_set.ty (selections_of g.value.value.selection_set)
            (subst (λ o. SelectionsSay (Some new) g.value.value.selection_set.ty (selections_in o) (selections_of g.value.value.selection_set)) empty p.after_set)))

    pub below_field : (f g : Node Field) → PairedField f g → Defined f g → selections_of g.value.value.selection_set ≢ [] →
        Paired f.value.value.selection_set g.value.value.selection_set
    below_field f g p is some =
        let leaf = no_leaf f g p is some in
        let was : type_field old a.ty (field_tree.out-Field p.x).name ≡ Ok is.d = subst (λ n. type_field old a.ty n ≡ Ok is.d) p.before.name is.was in
        record {
          trees = selections_in (field_tree.out-Field p.x).selection_set;
          before = p.before_set;
          after = p.after_set;
          ty = subst₂ SameName (sym is.was_set) (sym is.is_set) (is.kept.composite leaf);
          builds = subst (λ n. SelectionsBuild old n (selections_in (field_tree.out-Field p.x).selection_set)) (sym is.was_set) (record {
            fields = λ h here st. pair.builds.fields h here (stands_below_field p.x is.d p.stands was leaf st);
            inline_fragments = λ h here st. pair.builds.inline_fragments h here (stands_below_field p.x is.d p.stands was leaf st);
          });
        }

    -- ==== spreads and inline fragments

    spread_by : (q : Node FragmentSpread) (s t : Selection) (x : selection_tree.Selection) → SelectionSays (Some new) b.ty x t → t ≡ kind.FragmentSpread q →
        SelectionSays (Some old) a.ty x s → (p : Node FragmentSpread) × (s ≡ kind.FragmentSpread p) × SameSpread p q
    spread_by q s t x (says.field_says y h head set location) is old_says = absurd (kinds.not_spread h q (sym is))
    spread_by q s t x (says.fragment_spread_says y r spread) is old_says =
        let here = spread_form old a.ty y s old_says in
        (here.0, here.2, subst (SameSpread here.0) (kinds.same_spread r q is) (spread_alike y here.0 r here.1 spread))
    spread_by q s t x (says.inline_fragment_says y i head set location) is old_says = absurd (kinds.spread_not_inline i q (sym is))

    pub spread_pair : (q : Node FragmentSpread) → Contains (selections_of b) (kind.FragmentSpread q) →
        (p : Node FragmentSpread) × Contains (selections_of a) (kind.FragmentSpread p) × SameSpread p q
    spread_pair q c =
        let s = paired (kind.FragmentSpread q) c in
        let here = spread_by q s.0 (kind.FragmentSpread q) s.2.0 s.2.2 refl s.2.3 in
        (here.0, subst (Contains (selections_of a)) here.1 s.1, here.2)

    pub record PairedInline (i j : Node InlineFragment) : Type 0 where
      pub x : inline_fragment_tree.InlineFragment
      pub stands : Contains pair.trees (tree.InlineFragment x)
      pub before : InlineFragmentHeadSays a.ty x i.value.value
      pub after : InlineFragmentHeadSays b.ty x j.value.value
      pub before_set : SelectionsSay (Some old) i.value.value.selection_set.ty x.selection_set.selections (selections_of i.value.value.selection_set)
      pub after_set : SelectionsSay (Some new) j.value.value.selection_set.ty x.selection_set.selections (selections_of j.value.value.selection_set)

    inline_by : (j : Node InlineFragment) (s t : Selection) (x : selection_tree.Selection) → Contains pair.trees x → SelectionSays (Some new) b.ty x t → t ≡ kind.InlineFragment j →
        SelectionSays (Some old) a.ty x s → (i : Node InlineFragment) × (s ≡ kind.InlineFragment i) × PairedInline i j
    inline_by j s t x c (says.field_says y h head set location) is old_says = absurd (kinds.not_inline h j (sym is))
    inline_by j s t x c (says.fragment_spread_says y p spread) is old_says = absurd (kinds.spread_not_inline j p is)
    inline_by j s t x c (says.inline_fragment_says y k head set location) is old_says =
        let here = inline_form old a.ty y s old_says in (
          here.0,
          here.3,
          subst (PairedInline here.0) (kinds.same_inline k j is) (record {
            x = y;
            stands = c;
            before = here.1;
            after = head;
            before_set = here.2;
            after_set = set;
          }),
        )

    pub inline_pair : (j : Node InlineFragment) → Contains (selections_of b) (kind.InlineFragment j) →
        (i : Node InlineFragment) × Contains (selections_of a) (kind.InlineFragment i) × PairedInline i j
    inline_pair j c =
        let s = paired (kind.InlineFragment j) c in
        let here = inline_by j s.0 (kind.InlineFragment j) s.2.0 s.2.1 s.2.2 refl s.2.3 in
        (here.0, subst (Contains (selections_of a)) here.1 s.1, here.2)

    one_condition : (o : Option NameText) → SameName (unwrap_or o a.ty) (unwrap_or o b.ty)
    one_condition None = pair.ty
    one_condition (Some condition) = same_name_itself condition

    pub in_inline : (i j : Node InlineFragment) → PairedInline i j → Paired i.value.value.selection_set j.value.value.selection_set
    in_inline i j p = record {
      trees = p.x.selection_set.selections;
      before = p.before_set;
      after = p.after_set;
      ty = subst₂ SameName (sym p.before.set_type) (sym p.after.set_type) (one_condition p.x.type_condition);
      builds = subst (λ n. SelectionsBuild old n p.x.selection_set.selections) (sym p.before.set_type) (record {
        fields = λ h here st. pair.builds.fields h here (stands_in_inline_fragment p.x p.stands (pair.builds.inline_fragments p.x a.ty (stands_here p.stands)) st);
        inline_fragments = λ h here st. pair.builds.inline_fragments h here (stands_in_inline_fragment p.x p.stands (pair.builds.inline_fragments p.x a.ty (stands_here p.stands)) st);
      });
    }
