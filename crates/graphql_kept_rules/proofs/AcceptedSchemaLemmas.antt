-- The arguments and input fields of a schema that holds are of input types, once it is retained. Specification: 3.6.1 Field Arguments, 3.10 Input
-- Objects, 3.13 Directives.
use Rattle.std.proofs.Common.{◌≡◌, ◌∙◌, ◌⊎◌, inl, inr, Bool, true, false, List, [], ◌∷◌, map, Option, None, Some, Ok, Err, codes, refl, sym, ap, subst}
use Rattle.std.specs.Prelude.{Contains, flat_map}
use Rattle.std.specs.Option.{option_map_or}
use Rattle.std.specs.Str.{bytes_eq}
use Rattle.std.proofs.lemmas.List.Elements.{All-contains, Contains-append_left, Contains-append_right}
use Rattle.graphql_nodes.specs.Names.{NameText, same_name}
use Rattle.graphql_nodes.specs.declared.nodes.Node.{Node}
use Rattle.graphql_documents.proofs.ListLemmas.{none_stands, stands_flat, stands_mapped}
use Rattle.graphql_documents.specs.Schemas.{fields_of, first_of, is_composite, is_query_root, meta_field, own_field, type_definition, type_field}
use Rattle.graphql_documents.specs.declared.documents.components.Component.{Component}
use Rattle.graphql_documents.specs.declared.documents.definitions.DirectiveDefinition.{DirectiveDefinition}
use Rattle.graphql_documents.specs.declared.documents.definitions.FieldDefinition.{FieldDefinition}
use Rattle.graphql_documents.specs.declared.documents.definitions.InputValueDefinition.{InputValueDefinition}
use Rattle.graphql_documents.specs.declared.documents.schemas.ExtendedType.{ExtendedType}
use Rattle.graphql_documents.specs.declared.documents.schemas.ExtendedType.TheVariants.{Scalar, Object, Interface, Union, Enum, InputObject}
use Rattle.graphql_documents.specs.declared.documents.schemas.FieldLookupError.TheVariants.{NoSuchField, NoSuchType}
use Rattle.graphql_documents.specs.declared.documents.schemas.Schema.{Schema}
use Rattle.graphql_specification.specs.BuiltInScalars.{SchemaRetainsUsedBuiltInScalars}
use Rattle.graphql_specification.specs.DefaultValues.{inputs_of_type}
use Rattle.graphql_specification.specs.Schemas.{SchemaHolds}
use Rattle.graphql_schema_laws.proofs.DefaultValueLaws.{input_of_retained}
use Rattle.graphql_kept_rules.proofs.FoundLemmas.{entry_in}
use Rattle.graphql_kept_rules.specs.InputTypes.{HasInputTypes, HasMetaArgumentTypes, IsOfInputType}

-- a field of a type is its own or a meta-field
one_of_two : (o p : Option (Component FieldDefinition)) (f : Component FieldDefinition) → option_map_or Ok (first_of o p) (Err NoSuchField) ≡ Ok f → (o ≡ Some f) ⊎ (p ≡ Some f)
one_of_two None None f e = absurd (let no : ⊥ = cc in no)
one_of_two None (Some g) f e = inr (let same : g ≡ f = cc in ap Some same)
one_of_two (Some g) p f e = inl (let same : g ≡ f = cc in ap Some same)

module _ (schema retained : Schema) (holds : SchemaHolds schema) (is : SchemaRetainsUsedBuiltInScalars schema retained) where
  abbrev inputs_of_directives : List (Node InputValueDefinition)
  inputs_of_directives = flat_map (λ (entry : NameText × Node DirectiveDefinition). entry.1.value.value.arguments.items) retained.directive_definitions.entries

  abbrev inputs_of_types : List (Node InputValueDefinition)
  inputs_of_types = flat_map (λ (entry : NameText × ExtendedType). inputs_of_type entry.1) retained.types.entries

  of_type : (name : NameText) (d : ExtendedType) (a : Node InputValueDefinition) → type_definition retained name ≡ Some d → Contains (inputs_of_type d) a → IsOfInputType retained a.value.value
  of_type name d a found c =
      let here = entry_in (same_name name) retained.types.entries d found in
      input_of_retained schema retained holds is a (Contains-append_right inputs_of_directives inputs_of_types a
      (stands_flat (λ (entry : NameText × ExtendedType). inputs_of_type entry.1) retained.types.entries (here.0, d) a here.1 c))

  of_field : (name : NameText) (d : ExtendedType) (key : NameText) (f : Component FieldDefinition) (a : Node InputValueDefinition) → type_definition retained name ≡ Some d →
      Contains (fields_of d) (key, f) → Contains f.node.value.value.arguments.items a → IsOfInputType retained a.value.value
  of_field name d key f a found stands c =
      of_type name d a found (Contains-append_left (flat_map (λ (entry : NameText × Component FieldDefinition). entry.1.node.value.value.arguments.items) (fields_of d)) _ a
      (stands_flat (λ (entry : NameText × Component FieldDefinition). entry.1.node.value.value.arguments.items) (fields_of d) (key, f) a stands c))

  own_in : (d : ExtendedType) (field : NameText) (f : Component FieldDefinition) → own_field d field ≡ Some f → (key : NameText) × Contains (fields_of d) (key, f)
  own_in (Object d) field f found = let here = entry_in (same_name field) d.value.value.fields.entries f found in (here.0, here.1)
  own_in (Interface d) field f found = let here = entry_in (same_name field) d.value.value.fields.entries f found in (here.0, here.1)
  own_in (Scalar d) field f found = absurd (let no : ⊥ = cc in no)
  own_in (Union d) field f found = absurd (let no : ⊥ = cc in no)
  own_in (Enum d) field f found = absurd (let no : ⊥ = cc in no)
  own_in (InputObject d) field f found = absurd (let no : ⊥ = cc in no)

  -- ==== meta-fields

  no_more : {X Y : Type 0} (f : X → Y) (xs : List X) (x : X) → map f xs ≡ [] → ¬ Contains xs x
  no_more f [] x e c = none_stands x c
  no_more f (y ∷ ys) x e c = let no : ⊥ = cc in no

  module _ (metas : HasMetaArgumentTypes retained) where
    of_meta : (parent : NameText) (d : ExtendedType) (field : NameText) (f : Component FieldDefinition) (a : Node InputValueDefinition) →
        meta_field retained parent d field ≡ Some f → Contains f.node.value.value.arguments.items a → IsOfInputType retained a.value.value
    of_meta parent d field f a found c =
        by (is_composite d) (bytes_eq field.text (codes "__typename")) (is_query_root retained parent) (bytes_eq field.text (codes "__schema")) (bytes_eq field.text (codes "__type"))
        refl refl refl refl refl
      where
        alike : (g : Component FieldDefinition) → meta_field retained parent d field ≡ Some g → (Contains g.node.value.value.arguments.items a → IsOfInputType retained a.value.value) →
            IsOfInputType retained a.value.value
        alike g here h =
            let both : Some f ≡ Some g = sym found ∙ here in
            let one : f ≡ g = cc in
            h (subst (λ (x : Component FieldDefinition). Contains x.node.value.value.arguments.items a) one c)

        none : meta_field retained parent d field ≡ None → IsOfInputType retained a.value.value
        none here = absurd (let no : ⊥ = cc in no)

        by : (x b q e g : Bool) → is_composite d ≡ x → bytes_eq field.text (codes "__typename") ≡ b → is_query_root retained parent ≡ q →
            bytes_eq field.text (codes "__schema") ≡ e → bytes_eq field.text (codes "__type") ≡ g → IsOfInputType retained a.value.value
        by false b q e g hx hb hq he hg = none (rw hx refl)
        by true true q e g hx hb hq he hg = alike retained.meta_fields.typename (rw (hx, hb) refl)
            (λ stands. absurd (no_more _ retained.meta_fields.typename.node.value.value.arguments.items a retained.meta_fields.is_typename.takes stands))
        by true false false e g hx hb hq he hg = none (rw (hx, hb, hq) refl)
        by true false true true g hx hb hq he hg = alike retained.meta_fields.schema (rw (hx, hb, hq, he) refl)
            (λ stands. absurd (no_more _ retained.meta_fields.schema.node.value.value.arguments.items a retained.meta_fields.is_schema.takes stands))
        by true false true false true hx hb hq he hg = alike retained.meta_fields.type_by_name (rw (hx, hb, hq, he, hg) refl)
            (λ stands. All-contains (λ x. IsOfInputType retained x.value.value) retained.meta_fields.type_by_name.node.value.value.arguments.items a metas stands)
        by true false true false false hx hb hq he hg = none (rw (hx, hb, hq, he, hg) refl)

    of_found : (parent field : NameText) (f : Component FieldDefinition) (a : Node InputValueDefinition) → type_field retained parent field ≡ Ok f →
        Contains f.node.value.value.arguments.items a → IsOfInputType retained a.value.value
    of_found parent field f a found c = by (type_definition retained parent) refl found
      where
        by : (o : Option ExtendedType) → type_definition retained parent ≡ o →
            option_map_or (λ definition. option_map_or Ok (first_of (own_field definition field) (meta_field retained parent definition field)) (Err NoSuchField)) o (Err NoSuchType) ≡ Ok f →
            IsOfInputType retained a.value.value
        by None defined e = absurd (let no : ⊥ = cc in no)
        by (Some d) defined e = elim (one_of_two (own_field d field) (meta_field retained parent d field) f e) [
          | inl own ↦ let here = own_in d field f own in of_field parent d here.0 f a defined here.1 c
          | inr meta ↦ of_meta parent d field f a meta c
        ]

    pub input_types : HasInputTypes retained
    input_types = record {
      input_fields = λ name d field found c.
          of_type name (InputObject d) field.1.node found (stands_mapped (λ (entry : NameText × Component InputValueDefinition). entry.1.node) d.value.value.fields.entries field c);
      field_arguments = λ parent field d a found c. of_found parent field d a found c;
      directive_arguments = λ name d a found c.
          let here = entry_in (same_name name) retained.directive_definitions.entries d found in
          input_of_retained schema retained holds is a (Contains-append_left inputs_of_directives inputs_of_types a
          (stands_flat (λ (entry : NameText × Node DirectiveDefinition). entry.1.value.value.arguments.items) retained.directive_definitions.entries (here.0, d) a here.1 c));
    }
