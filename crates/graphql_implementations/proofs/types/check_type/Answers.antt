use Rattle.std.proofs.Common.{◌∙◌, refl, subst, sym, true≢false}
use Rattle.graphql_specification.specs.Implementations.{of_implementing_type, IsValidImplementationType}
use Rattle.graphql_documents.specs.TypeReferences.{IsTypeCopy}
use Rattle.graphql_diagnostics.specs.declared.data.DiagnosticData.TheVariants as report
use Rattle.graphql_documents.specs.declared.documents.definitions.FieldDefinition.{FieldDefinition}
use Rattle.graphql_diagnostics.proofs.ReportLemmas.{checks-push, holds}
use Rattle.graphql_implementations.specs.ImplementationSteps.{TypeImplements, ImplementedFieldTypesReport}
use Rattle.graphql_implementations.proofs.types.check_type.Goals as goal

pub returns-then-is_valid_implementation_field_type : goal.returns-then-is_valid_implementation_field_type
returns-then-is_valid_implementation_field_type c =
    let S = c.args.field.now.implementer.now.schema.now in
    holds _ _ _
    (subst (λ (d : FieldDefinition). IsValidImplementationType S d.ty c.args.field.now.own.now.node.value.value.ty) c.deref.ensures
    (subst (λ (d : FieldDefinition). IsValidImplementationType S c.deref.result.now.ty d.ty) c.deref-2.ensures
    (c.is_valid_implementation_field_type.ensures.0 c.if-is_valid_implementation_field_type.true)))

pub returns : goal.returns
returns c =
    let f = c.args.field.now in
    let S = f.implementer.now.schema.now in
    let invalid : ¬ TypeImplements S f.wanted.now f.own.now =
    λ valid. true≢false (sym (c.is_valid_implementation_field_type.ensures.1
    (subst (λ (d : FieldDefinition). IsValidImplementationType S c.deref.result.now.ty d.ty) (sym c.deref-2.ensures)
    (subst (λ (d : FieldDefinition). IsValidImplementationType S d.ty f.own.now.node.value.value.ty) (sym c.deref.ensures) valid))) ∙
    c.if-is_valid_implementation_field_type.false) in
    checks-push _ _ _ _ _ _ c.push.ensures.ok c.push.ensures.err invalid
    (subst (λ n. ImplementedFieldTypesReport f.implementer.now (report.InvalidImplementationFieldType c.in_ok-name.name c.in_ok-interface.interface n c.in_ok-interface_type.interface_type c.in_ok-actual_type.actual_type f.own.now.node.location f.wanted.now.node.location) f.own.now.node.location)
    (sym c.in_ok-field_name.ensures.cases)
    (of_implementing_type (record {
      listed = f.listed.now;
      wanted = f.wanted.now;
      own = f.own.now;
      implements = c.requires;
      invalid = invalid;
      name_is = c.in_ok-name.ensures.cases;
      interface_is = c.in_ok-interface.ensures.cases;
      interface_type_is = subst (λ (d : FieldDefinition). IsTypeCopy d.ty c.in_ok-interface_type.interface_type) c.deref.ensures c.in_ok-interface_type.ensures.cases;
      actual_type_is = subst (λ (d : FieldDefinition). IsTypeCopy d.ty c.in_ok-actual_type.actual_type) c.deref-2.ensures c.in_ok-actual_type.ensures.cases;
      field_location_is = refl;
      interface_field_location_is = refl;
      at_is = refl;
    })))
