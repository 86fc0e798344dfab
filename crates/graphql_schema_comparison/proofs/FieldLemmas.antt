-- What is kept of the fields of a composite type.
use Rattle.std.proofs.Common.{◌≡◌, ◌∙◌, ◌⊎◌, inl, inr, Bool, true, false, Some, None, Ok, Err, refl, sym, ap, subst}
use Rattle.std.specs.Prelude.{IsTrue, IsSomeAnd, Option, Result, codes, if◌then◌else◌}
use Rattle.std.specs.Map.{lookup}
use Rattle.std.specs.Option.{option_map, option_map_or}
use Rattle.std.specs.Str.{bytes_eq}
use Rattle.graphql_nodes.specs.Names.{NameText, SameName, same_name}
use Rattle.graphql_nodes.proofs.NameLemmas.{same_name_back, same_name_then}
use Rattle.graphql_nodes.specs.declared.operation_types.OperationType.TheVariants as operation
use Rattle.graphql_documents.specs.Schemas.{NamesKind, fields_of, first_of, is_composite, is_output_type, is_query_root, meta_field, own_field, type_definition, type_field}
use Rattle.graphql_documents.specs.declared.documents.components.Component.{Component}
use Rattle.graphql_documents.specs.declared.documents.components.ComponentName.{ComponentName}
use Rattle.graphql_documents.specs.declared.documents.definitions.FieldDefinition.{FieldDefinition}
use Rattle.graphql_documents.specs.declared.documents.schemas.ExtendedType.{ExtendedType}
use Rattle.graphql_documents.specs.declared.documents.schemas.ExtendedType.TheVariants.{Object, Interface, Union}
use Rattle.graphql_documents.specs.Built.{StandsUnderOwnNames}
use Rattle.graphql_documents.specs.declared.documents.schemas.FieldLookupError.{FieldLookupError}
use Rattle.graphql_documents.specs.declared.documents.schemas.FieldLookupError.TheVariants.{NoSuchField}
use Rattle.graphql_documents.specs.declared.documents.schemas.Schema.{Schema}
use Rattle.graphql_specification.specs.Fragments.{NamesComposite}
use Rattle.graphql_document_building.specs.Documents.{HasOutputFields}
use Rattle.graphql_document_building.specs.Trees.{names_leaf_type, type_below}
use Rattle.graphql_schema_changes.specs.Keeps.{KeepsFields, KeepsRoots, KeepsShapes}
use Rattle.graphql_change_kinds.specs.Kinds.{KeepsSelections}
use Rattle.graphql_schema_comparison.specs.Comparisons.{KeepsAll, KeepsContents, KeepsFieldNamed, KeepsFieldType, KeepsPlace, KeepsType, KeepsUses}
use Rattle.graphql_change_kinds.specs.Forms.{form_in}
use Rattle.graphql_shape_comparison.specs.Shapes.{Knows, KnowsEntry, KnowsType, ShapeTable}
use Rattle.graphql_change_kinds.proofs.FindsLemmas.{looked_up}
use Rattle.graphql_schema_comparison.proofs.KindLemmas.{leaf_alike, still_composite}
use Rattle.graphql_shape_comparison.proofs.NamedLemmas.{one_field, one_field_name, one_type}
use Rattle.graphql_shape_comparison.proofs.ShapeLemmas.{form_stays, no_other_form, one_form_of, one_shape_of, same_inner}

-- ==== meta-fields

module _ {X : Type 0} where
  abbrev pick : Bool → Bool → Bool → Bool → Bool → X → X → X → Option X
  pick composite typename root schema_field by_name a b c =
      if composite then (if typename then Some a else (if root then (if schema_field then Some b else (if by_name then Some c else None)) else None)) else None

  -- which of the three it is
  pick_is : (composite typename root schema_field by_name : Bool) (a b c x : X) → pick composite typename root schema_field by_name a b c ≡ Some x →
      (typename ≡ true) ⊎ (schema_field ≡ true) ⊎ (by_name ≡ true)
  pick_is true true root schema_field by_name a b c x e = inl refl
  pick_is true false true true by_name a b c x e = inr (inl refl)
  pick_is true false true false true a b c x e = inr (inr refl)
  pick_is true false true false false a b c x e = absurd (let no : ⊥ = cc in no)
  pick_is true false false schema_field by_name a b c x e = absurd (let no : ⊥ = cc in no)
  pick_is false typename root schema_field by_name a b c x e = absurd (let no : ⊥ = cc in no)

  -- a composite type has it too, if it is a query root where the other was one
  pick_stays : (composite typename root also schema_field by_name : Bool) (a b c x d e f : X) → pick composite typename root schema_field by_name a b c ≡ Some x →
      (root ≡ true → also ≡ true) → (y : X) × (pick true typename also schema_field by_name d e f ≡ Some y)
  pick_stays true true root also schema_field by_name a b c x d e f is stays = (d, refl)
  pick_stays true false true true true by_name a b c x d e f is stays = (e, refl)
  pick_stays true false true true false true a b c x d e f is stays = (f, refl)
  pick_stays true false true true false false a b c x d e f is stays = absurd (let no : ⊥ = cc in no)
  pick_stays true false true false schema_field by_name a b c x d e f is stays = absurd (let yes : false ≡ true = stays refl in let no : ⊥ = cc in no)
  pick_stays true false false also schema_field by_name a b c x d e f is stays = absurd (let no : ⊥ = cc in no)
  pick_stays false typename root also schema_field by_name a b c x d e f is stays = absurd (let no : ⊥ = cc in no)

-- the query root is still one
root_is : (o p : Option ComponentName) (k : NameText) → option_map_or (λ (root : ComponentName). same_name root.name k) o false ≡ true →
    ((root : NameText) → option_map (λ (root : ComponentName). root.name) o ≡ Some root → IsSomeAnd (option_map (λ (root : ComponentName). root.name) p) (SameName root)) →
    option_map_or (λ (root : ComponentName). same_name root.name k) p false ≡ true
root_is None p k is stays = absurd (let no : ⊥ = cc in no)
root_is (Some r) None k is stays = absurd (stays r.name refl)
root_is (Some r) (Some s) k is stays = same_name_then s.name r.name k (same_name_back r.name s.name (stays r.name refl)) is

still_root : (old new : Schema) → KeepsRoots old new → (k : NameText) → is_query_root old k ≡ true → is_query_root new k ≡ true
still_root old new roots k is =
    root_is old.schema_definition.value.value.query new.schema_definition.value.value.query k is (roots operation.Query)

-- ==== fields of a type that is defined

module _ (schema : Schema) (k : NameText) (d : ExtendedType) (is : type_definition schema k ≡ Some d) where
  field_is : (field : NameText) → type_field schema k field ≡ option_map_or Ok (first_of (own_field d field) (meta_field schema k d field)) (Err NoSuchField)
  field_is field = rw is refl

  of_first : (own meta : Option (Component FieldDefinition)) (x : Component FieldDefinition) →
      option_map_or Ok (first_of own meta) (Err NoSuchField) ≡ Ok x → (own ≡ Some x) ⊎ (meta ≡ Some x)
  of_first (Some y) meta x e = inl (let same : y ≡ x = cc in ap Some same)
  of_first None (Some y) x e = inr (let same : y ≡ x = cc in ap Some same)
  of_first None None x e = absurd (let no : ⊥ = cc in no)

  pub field_cases : (field : NameText) (x : Component FieldDefinition) → type_field schema k field ≡ Ok x → (own_field d field ≡ Some x) ⊎ (meta_field schema k d field ≡ Some x)
  field_cases field x e = of_first (own_field d field) (meta_field schema k d field) x (sym (field_is field) ∙ e)

  first_some : (own meta : Option (Component FieldDefinition)) (x : Component FieldDefinition) → meta ≡ Some x →
      (y : Component FieldDefinition) × (option_map_or Ok (first_of own meta) (Err NoSuchField) ≡ Ok y)
  first_some (Some y) meta x e = (y, refl)
  first_some None meta x e = (x, rw e refl)

  pub has_meta : (field : NameText) (x : Component FieldDefinition) → meta_field schema k d field ≡ Some x → (y : Component FieldDefinition) × (type_field schema k field ≡ Ok y)
  has_meta field x e = let first = first_some (own_field d field) (meta_field schema k d field) x e in (first.0, field_is field ∙ first.1)

  -- which meta-field it is
  pub meta_cases : (field : NameText) (x : Component FieldDefinition) → meta_field schema k d field ≡ Some x →
      (SameName field schema.meta_fields.typename.node.value.value.name) ⊎ (SameName field schema.meta_fields.schema.node.value.value.name) ⊎
      (SameName field schema.meta_fields.type_by_name.node.value.value.name)
  meta_cases field x e =
      named (pick_is (is_composite d) (bytes_eq field.text (codes "__typename")) (is_query_root schema k) (bytes_eq field.text (codes "__schema")) (bytes_eq field.text (codes "__type"))
      schema.meta_fields.typename schema.meta_fields.schema schema.meta_fields.type_by_name x e) where
        named : (bytes_eq field.text (codes "__typename") ≡ true) ⊎ (bytes_eq field.text (codes "__schema") ≡ true) ⊎ (bytes_eq field.text (codes "__type") ≡ true) →
            (SameName field schema.meta_fields.typename.node.value.value.name) ⊎ (SameName field schema.meta_fields.schema.node.value.value.name) ⊎
            (SameName field schema.meta_fields.type_by_name.node.value.value.name)
        named (inl is) = inl (rw schema.meta_fields.is_typename.named is)
        named (inr (inl is)) = inr (inl (rw schema.meta_fields.is_schema.named is))
        named (inr (inr is)) = inr (inr (rw schema.meta_fields.is_type.named is))

own_listed : (d : ExtendedType) (field : NameText) (x : Component FieldDefinition) → own_field d field ≡ Some x → lookup (same_name field) (fields_of d) ≡ Some x
own_listed (Object d) field x e = e
own_listed (Interface d) field x e = e
own_listed _ field x e = absurd (let no : ⊥ = cc in no)

-- a meta-field of a type is one of each composite type that is a query root where the first is one
meta_stays : (old new : Schema) (k : NameText) (d e : ExtendedType) (field : NameText) (x : Component FieldDefinition) → meta_field old k d field ≡ Some x →
    IsTrue (is_composite e) → (is_query_root old k ≡ true → is_query_root new k ≡ true) → (y : Component FieldDefinition) × (meta_field new k e field ≡ Some y)
meta_stays old new k d e field x is composite root =
    let there = pick_stays (is_composite d) (bytes_eq field.text (codes "__typename")) (is_query_root old k) (is_query_root new k)
    (bytes_eq field.text (codes "__schema")) (bytes_eq field.text (codes "__type"))
    old.meta_fields.typename old.meta_fields.schema old.meta_fields.type_by_name x new.meta_fields.typename new.meta_fields.schema new.meta_fields.type_by_name is root in
    (there.0, rw composite there.1)

-- ==== types that are kept

composite_kept : (table : ShapeTable) (old new : Schema) (merging : Bool) (name : NameText) (a b : ExtendedType) → KeepsContents table old new merging name a b →
    IsTrue (is_composite a) → IsTrue (is_composite b) → KeepsPlace table old new merging name a
composite_kept table old new merging name (Object a) b kept p q = kept p q
composite_kept table old new merging name (Interface a) b kept p q = kept p q
composite_kept table old new merging name (Union a) b kept p q = kept p q
composite_kept table old new merging name _ b kept p q = absurd (let no : ⊥ = cc in no)

module _ (old new : Schema) (merging : Bool) (all : KeepsAll old new merging) where
  -- the entry of a type, and what is kept of it
  pub record TypeStays (name : NameText) (d : ExtendedType) : Type 0 where
    pub key : NameText
    pub same : SameName name key
    pub was_defined : type_definition old key ≡ Some d
    pub kept : KeepsType all.table old new merging key d

  pub type_stays : (name : NameText) (d : ExtendedType) → type_definition old name ≡ Some d → TypeStays name d
  type_stays name d is =
      let here = looked_up (same_name name) (λ (entry : NameText × ExtendedType). KeepsType all.table old new merging entry.0 entry.1) old.types.entries d is all.types in
      record { key = here.0; same = here.1; was_defined = one_type old here.0 name (same_name_back name here.0 here.1) ∙ is; kept = here.2 }

  pub place_stays : (name : NameText) (d : ExtendedType) → (stays : TypeStays name d) → IsTrue (is_composite d) → KeepsPlace all.table old new merging stays.key d
  place_stays name d stays composite =
      composite_kept all.table old new merging stays.key d stays.kept.after stays.kept.contents composite (still_composite d stays.kept.after stays.kept.kind composite)

  -- a field, and what is kept of it
  pub record FieldStays (parent field : NameText) (before : Component FieldDefinition) : Type 0 where
    pub after : Component FieldDefinition
    pub is_defined : type_field new parent field ≡ Ok after
    pub kept : KeepsUses all.table old new merging before.node.value.value after.node.value.value

  module _ (parent : NameText) (d : ExtendedType) (stays : TypeStays parent d) (composite : IsTrue (is_composite d)) (field : NameText) (before : Component FieldDefinition)
      (is : type_field old parent field ≡ Ok before) where
    abbrev here : NameText
    here = stays.key

    at_key : type_field old here field ≡ Ok before
    at_key = one_field old field here parent (same_name_back parent here stays.same) ∙ is

    abbrev place : KeepsPlace all.table old new merging here d
    place = place_stays parent d stays composite

    own_stays : own_field d field ≡ Some before → FieldStays parent field before
    own_stays own =
        let found = looked_up (same_name field) (λ (entry : NameText × Component FieldDefinition). KeepsFieldNamed all.table old new merging here entry.0 entry.1)
        (fields_of d) before (own_listed d field before own) place.fields.own in
        record {
          after = found.2.0;
          is_defined = one_field new field parent here stays.same ∙ one_field_name new here field found.0 found.1 ∙ found.2.1;
          kept = found.2.2;
        }

    named_stays : (name : NameText) → SameName field name → (after : Component FieldDefinition) → type_field new here field ≡ Ok after →
        ((x y : Component FieldDefinition) → type_field old here name ≡ Ok x → type_field new here name ≡ Ok y → KeepsUses all.table old new merging x.node.value.value y.node.value.value) →
        FieldStays parent field before
    named_stays name same after there uses = record {
      after = after;
      is_defined = one_field new field parent here stays.same ∙ there;
      kept = uses before after (one_field_name old here name field (same_name_back field name same) ∙ at_key) (one_field_name new here name field (same_name_back field name same) ∙ there);
    }

    meta_field_stays : meta_field old here d field ≡ Some before → FieldStays parent field before
    meta_field_stays meta = by (meta_cases old here d stays.was_defined field before meta) where
      also : (y : Component FieldDefinition) × (type_field new here field ≡ Ok y)
      also =
          let still = meta_stays old new here d stays.kept.after field before meta (still_composite d stays.kept.after stays.kept.kind composite) (still_root old new all.roots here) in
          has_meta new here stays.kept.after stays.kept.is_defined field still.0 still.1

      by : (SameName field old.meta_fields.typename.node.value.value.name) ⊎ (SameName field old.meta_fields.schema.node.value.value.name) ⊎
          (SameName field old.meta_fields.type_by_name.node.value.value.name) → FieldStays parent field before
      by (inl same) = named_stays old.meta_fields.typename.node.value.value.name same also.0 also.1 place.fields.typename
      by (inr (inl same)) = named_stays old.meta_fields.schema.node.value.value.name same also.0 also.1 place.fields.schema_field
      by (inr (inr same)) = named_stays old.meta_fields.type_by_name.node.value.value.name same also.0 also.1 place.fields.type_by_name

    by_cases : (own_field d field ≡ Some before) ⊎ (meta_field old here d field ≡ Some before) → FieldStays parent field before
    by_cases (inl own) = own_stays own
    by_cases (inr meta) = meta_field_stays meta

    field_kept : FieldStays parent field before
    field_kept = by_cases (field_cases old here d stays.was_defined field before at_key)

  pub field_stays : (parent : NameText) → NamesComposite old parent → (field : NameText) (before : Component FieldDefinition) → type_field old parent field ≡ Ok before →
      FieldStays parent field before
  field_stays parent composite field before is = field_kept parent composite.0 (type_stays parent composite.0 composite.1) composite.2 field before is

  -- ==== the parts of a field

  module _ (outputs : HasOutputFields old) where
    -- the name of an output type is that of a leaf as before, for each name that is the same
    leaf_stays : (a b : NameText) → NamesKind old is_output_type a → SameName a b → names_leaf_type new b ≡ names_leaf_type old a
    leaf_stays a b out same =
        let stays = type_stays a out.0 out.1 in
        let there : type_definition new b ≡ Some stays.kept.after =
        one_type new b stays.key (same_name_then b a stays.key (same_name_back a b same) stays.same) ∙ stays.kept.is_defined in
        rw (there, out.1) (leaf_alike out.0 stays.kept.after stays.kept.kind out.2)

    -- what is selected below the field
    selections_stay : (parent field : NameText) (before after : Component FieldDefinition) → type_field old parent field ≡ Ok before →
        KeepsFieldType all.table old new merging before.node.value.value.ty after.node.value.value.ty → KeepsSelections old new before.node.value.value.ty after.node.value.value.ty
    selections_stay parent field before after is (inl same) =
        let name = same_inner before.node.value.value.ty after.node.value.value.ty same in
        record { leaf = leaf_stays (type_below before) (type_below after) (outputs parent field before is) name; composite = λ other. name }
    selections_stay parent field before after is (inr kept) = kept.0

    pub fields_kept : (parent : NameText) → NamesComposite old parent → KeepsFields old new parent
    fields_kept parent composite field before is =
        let stays = field_stays parent composite field before is in
        let selections = selections_stay parent field before stays.after is stays.kept.ty in
        (stays.after, stays.is_defined, record { arguments = stays.kept.arguments; leaf = selections.leaf; composite = selections.composite })

    -- ==== shapes

    -- the table knows each field that both schemas have
    module _ (parent : NameText) (composite : NamesComposite old parent) (field : NameText) (before : Component FieldDefinition) (is : type_field old parent field ≡ Ok before) where
      abbrev KnowsIt : NameText → NameText → Type 0
      KnowsIt key name = KnowsEntry all.table old new key name before

      turned : (key name : NameText) → SameName parent key → SameName field name → KnowsIt key name → KnowsIt parent field
      turned key name same also knows after there =
          knows after (one_field new name key parent (same_name_back parent key same) ∙ one_field_name new parent name field (same_name_back field name also) ∙ there)

      entry_known : KnowsIt parent field
      entry_known =
          let entry = looked_up (same_name parent) (λ (entry : NameText × ExtendedType). IsTrue (is_composite entry.1) → KnowsType all.table old new entry.0 entry.1)
          old.types.entries composite.0 composite.1 all.knows in
          let there : type_definition old entry.0 ≡ Some composite.0 = one_type old entry.0 parent (same_name_back parent entry.0 entry.1) ∙ composite.1 in
          let at : type_field old entry.0 field ≡ Ok before = one_field old field entry.0 parent (same_name_back parent entry.0 entry.1) ∙ is in
          by entry.0 entry.1 there at (entry.2 composite.2) (field_cases old entry.0 composite.0 there field before at) where
            meta : (key : NameText) → SameName parent key → type_field old key field ≡ Ok before → KnowsType all.table old new key composite.0 →
                (SameName field old.meta_fields.typename.node.value.value.name) ⊎ (SameName field old.meta_fields.schema.node.value.value.name) ⊎
                (SameName field old.meta_fields.type_by_name.node.value.value.name) → KnowsIt parent field
            meta key same at knows (inl name) =
                turned key old.meta_fields.typename.node.value.value.name same name
                (knows.typename before (one_field_name old key old.meta_fields.typename.node.value.value.name field (same_name_back field old.meta_fields.typename.node.value.value.name name) ∙ at))
            meta key same at knows (inr (inl name)) =
                turned key old.meta_fields.schema.node.value.value.name same name
                (knows.schema_field before (one_field_name old key old.meta_fields.schema.node.value.value.name field (same_name_back field old.meta_fields.schema.node.value.value.name name) ∙ at))
            meta key same at knows (inr (inr name)) =
                turned key old.meta_fields.type_by_name.node.value.value.name same name
                (knows.type_by_name before (one_field_name old key old.meta_fields.type_by_name.node.value.value.name field (same_name_back field old.meta_fields.type_by_name.node.value.value.name name) ∙ at))

            by : (key : NameText) → SameName parent key → type_definition old key ≡ Some composite.0 → type_field old key field ≡ Ok before → KnowsType all.table old new key composite.0 →
                (own_field composite.0 field ≡ Some before) ⊎ (meta_field old key composite.0 field ≡ Some before) → KnowsIt parent field
            by key same there at knows (inl own) =
                let found = looked_up (same_name field) (λ (entry : NameText × Component FieldDefinition). KnowsEntry all.table old new key entry.0 entry.1)
                (fields_of composite.0) before (own_listed composite.0 field before own) knows.own in
                turned key found.0 same found.1 found.2
            by key same there at knows (inr is_meta) = meta key same at knows (meta_cases old key composite.0 there field before is_meta)

    -- two fields that had one form have one
    module _ (with_merging : IsTrue merging) where
      forms_by : (a c b d : Component FieldDefinition) →
          names_leaf_type new (type_below c) ≡ names_leaf_type old (type_below a) → names_leaf_type new (type_below d) ≡ names_leaf_type old (type_below b) →
          Knows all.table (form_in old a.node.value.value.ty) (form_in new c.node.value.value.ty) →
          Knows all.table (form_in old b.node.value.value.ty) (form_in new d.node.value.value.ty) →
          KeepsFieldType all.table old new merging a.node.value.value.ty c.node.value.value.ty → KeepsFieldType all.table old new merging b.node.value.value.ty d.node.value.value.ty →
          form_in old a.node.value.value.ty ≡ form_in old b.node.value.value.ty → form_in new c.node.value.value.ty ≡ form_in new d.node.value.value.ty
      forms_by a c b d leaf_a leaf_b knows_a knows_b (inr kept) also same =
          sym (no_other_form all.table (form_in old a.node.value.value.ty) (form_in new c.node.value.value.ty) (form_in new d.node.value.value.ty)
          (subst (λ f. Knows all.table f (form_in new d.node.value.value.ty)) (sym same) knows_b) (kept.1 with_merging))
      forms_by a c b d leaf_a leaf_b knows_a knows_b (inl stays) (inr kept) same =
          no_other_form all.table (form_in old b.node.value.value.ty) (form_in new d.node.value.value.ty) (form_in new c.node.value.value.ty)
          (subst (λ f. Knows all.table f (form_in new c.node.value.value.ty)) same knows_a) (kept.1 with_merging)
      forms_by a c b d leaf_a leaf_b knows_a knows_b (inl stays) (inl too) same =
          form_stays old new a.node.value.value.ty c.node.value.value.ty stays leaf_a ∙ same ∙ sym (form_stays old new b.node.value.value.ty d.node.value.value.ty too leaf_b)

      same_after : (r : Result (Component FieldDefinition) FieldLookupError) (x y : Component FieldDefinition) → r ≡ Ok x → r ≡ Ok y → x ≡ y
      same_after r x y e h = cc

      type_at : (parent field : NameText) (composite : NamesComposite old parent) (before after : Component FieldDefinition) → type_field old parent field ≡ Ok before →
          type_field new parent field ≡ Ok after → KeepsFieldType all.table old new merging before.node.value.value.ty after.node.value.value.ty
      type_at parent field composite before after is there =
          let stays = field_stays parent composite field before is in
          subst (λ (f : Component FieldDefinition). KeepsFieldType all.table old new merging before.node.value.value.ty f.node.value.value.ty)
          (same_after (type_field new parent field) stays.after after stays.is_defined there) stays.kept.ty

      pub shapes_kept : StandsUnderOwnNames old → HasOutputFields new → (p q : NameText) → NamesComposite old p → NamesComposite old q → KeepsShapes old new p q
      shapes_kept names new_outputs p q at_p at_q f g a b c d is_a is_b is_c is_d same =
          let kept_a = type_at p f at_p a c is_a is_c in
          let kept_b = type_at q g at_q b d is_b is_d in
          one_shape_of new c.node.value.value.ty d.node.value.value.ty (new_outputs p f c is_c) (new_outputs q g d is_d)
          (forms_by a c b d (selections_stay p f a c is_a kept_a).leaf (selections_stay q g b d is_b kept_b).leaf
          (entry_known p at_p f a is_a c is_c) (entry_known q at_q g b is_b d is_d) kept_a kept_b
          (one_form_of old names a.node.value.value.ty b.node.value.value.ty (outputs p f a is_a) (outputs q g b is_b) same))
