-- Fields that are the same hold at the same places. Specification: 5.3 Fields, 5.4 Arguments.
use Rattle.std.proofs.Common.{◌≡◌, ◌∙◌, List, Option, None, Some, sym, subst}
use Rattle.std.specs.List.{AllZip}
use Rattle.std.specs.Option.{option_and_then}
use Rattle.graphql_nodes.specs.Names.{NameText}
use Rattle.graphql_nodes.specs.declared.directive_locations.DirectiveLocation.TheVariants as allowed_at
use Rattle.graphql_nodes.specs.declared.nodes.Node.{Node}
use Rattle.graphql_documents.specs.Contents.{SameIfAny}
use Rattle.graphql_documents.specs.Schemas.{type_definition}
use Rattle.graphql_documents.specs.Selections.{definition_at}
use Rattle.graphql_documents.specs.TypeReferences.{as_written, inner_named_type}
use Rattle.graphql_documents.specs.declared.documents.components.Component.{Component}
use Rattle.graphql_documents.specs.declared.documents.definitions.FieldDefinition.{FieldDefinition}
use Rattle.graphql_documents.specs.declared.documents.definitions.VariableDefinition.{VariableDefinition}
use Rattle.graphql_documents.specs.declared.documents.executables.Field.{Field}
use Rattle.graphql_documents.specs.declared.documents.schemas.Schema.{Schema}
use Rattle.graphql_documents.specs.declared.documents.type_references.Type.{«Type»}
use Rattle.graphql_specification.specs.Fields.{FieldFormHolds, FieldHolds, FieldValuesHold, HasDefinition, HasNeededSelection}
use Rattle.graphql_document_building.specs.SameDocuments.{SameSelection}
use Rattle.graphql_document_building.specs.SameLeaves.{SameField, SameVariable}
use Rattle.graphql_building_laws.specs.SameSchemas.{SameComponent, SameSchema, SameType}
use Rattle.graphql_sameness_laws.proofs.ArgumentLemmas.{argument_names_too, argument_values_too, distinct_names_too}
use Rattle.graphql_sameness_laws.proofs.DirectiveLemmas.{applications_too, schemas_back}
use Rattle.graphql_sameness_laws.proofs.LeafLemmas.{field_back}
use Rattle.graphql_sameness_laws.proofs.SchemaLookupLemmas.{definition_alike, schema_too, type_alike}
use Rattle.graphql_sameness_laws.proofs.SchemaSamenessLemmas.{component_back, schema_back}
use Rattle.graphql_sameness_laws.proofs.SelectionLemmas.{SameFieldNode, selections_back, selections_zip}
use Rattle.graphql_sameness_laws.proofs.TypeKindLemmas.{both_composite}
use Rattle.graphql_sameness_laws.proofs.TypeLemmas.{one_name}
use Rattle.graphql_sameness_laws.proofs.ZipLemmas.{options_then, other_side, zip_empty}

module _ (oa ob : Option Schema) (schemas : SameIfAny SameSchema oa ob) where
  -- the definition in the first schema, if the second has one
  pub definition_before : (parent : Option NameText) (name other : NameText) (e : Component FieldDefinition) → name ≡ other → definition_at ob parent other ≡ Some e →
      (d : Component FieldDefinition) × (definition_at oa parent name ≡ Some d) × SameComponent SameField d e
  definition_before parent name other e is found =
      let here = other_side (SameComponent SameField) (definition_at ob parent other) (definition_at oa parent other) e
      (definition_alike ob oa parent other (schemas_back oa ob schemas)) found in
      (here.0, subst (λ n. definition_at oa parent n ≡ Some here.0) (sym is) here.1, component_back SameField field_back e here.0 here.2)

  needed_too : (f g : Node Field) (ty other : «Type») → SameFieldNode f g → as_written ty ≡ as_written other →
      HasNeededSelection oa f.value.value ty → HasNeededSelection ob g.value.value other
  needed_too f g ty other same written needs y has composite empty =
      let x = other_side SameType
      (option_and_then (λ s. type_definition s (inner_named_type other)) ob) (option_and_then (λ s. type_definition s (inner_named_type other)) oa) y
      (options_then SameSchema SameType (λ s. type_definition s (inner_named_type other)) (λ s. type_definition s (inner_named_type other))
      (λ a b alike. type_alike a b alike (inner_named_type other)) ob oa (schemas_back oa ob schemas)) has in
      needs x.0 (subst (λ n. HasDefinition oa n x.0) (sym (one_name ty other written)) x.1) (sym (both_composite y x.0 x.2) ∙ composite)
      (zip_empty (SameSelection None) _ _ (selections_zip (selections_back same.set.selections)) empty)

  form_too : (parent : Option NameText) (f g : Node Field) → SameFieldNode f g → FieldFormHolds oa parent f.value.value → FieldFormHolds ob parent g.value.value
  form_too parent f g same h = record {
    distinct = distinct_names_too _ _ same.head.arguments h.distinct;
    agrees = λ e found.
        let d = definition_before parent f.value.value.name g.value.value.name e same.head.name found in
        let here = h.agrees d.0 d.1 in
        record {
          arguments = argument_names_too _ _ d.2.1.arguments _ _ same.head.arguments here.arguments;
          selection = needed_too f g d.0.node.value.value.ty e.node.value.value.ty same d.2.1.ty here.selection;
        };
  }

  module _ (variables others : List (Node VariableDefinition)) (alike : AllZip SameVariable variables others) where
    values_too : (parent : Option NameText) (f g : Node Field) → SameFieldNode f g → FieldValuesHold oa variables parent f.value.value →
        FieldValuesHold ob others parent g.value.value
    values_too parent f g same h b e has found =
        let a = schema_too ob oa b (schemas_back oa ob schemas) has in
        let d = definition_before parent f.value.value.name g.value.value.name e same.head.name found in
        argument_values_too a.0 b (schema_back b a.0 a.2) variables others alike _ _ d.2.1.arguments _ _ same.head.arguments (h a.0 d.0 a.1 d.1)

    pub field_holds_too : (parent : Option NameText) (f g : Node Field) → SameFieldNode f g → FieldHolds oa variables parent f.value.value →
        FieldHolds ob others parent g.value.value
    field_holds_too parent f g same h = record {
      directives = applications_too oa ob schemas variables others alike allowed_at.Field _ _ same.head.directives h.directives;
      form = form_too parent f g same h.form;
      values = values_too parent f g same h.values;
    }
