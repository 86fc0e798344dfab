use Rattle.std.proofs.Common.{◌≡◌, ◌∙◌, List, ap, subst, sym}
use Rattle.std.specs.Prelude.{◌⊎◌, Result}
use Rattle.indexmap.specs.IndexMap.{values}
use Rattle.graphql_documents.specs.declared.documents.components.Component.{Component}
use Rattle.graphql_documents.specs.declared.documents.definitions.FieldDefinition.{FieldDefinition}
use Rattle.graphql_documents.specs.declared.documents.directives.Directive.{Directive}
use Rattle.graphql_documents.specs.declared.documents.schemas.EnumType.{EnumType}
use Rattle.graphql_documents.specs.declared.documents.schemas.InputObjectType.{InputObjectType}
use Rattle.graphql_documents.specs.declared.documents.schemas.InterfaceType.{InterfaceType}
use Rattle.graphql_documents.specs.declared.documents.schemas.ObjectType.{ObjectType}
use Rattle.graphql_documents.specs.declared.documents.schemas.ScalarType.{ScalarType}
use Rattle.graphql_documents.specs.declared.documents.schemas.UnionType.{UnionType}
use Rattle.graphql_input_rules.specs.SchemaValues.{EnumValuesWrite, FieldsWrite, InAppliedDirectives, InputFieldsWrite, TypeWrites}
use Rattle.graphql_input_rules.specs.declared.reports.InputFieldRepetition.{InputFieldRepetition}
use Rattle.graphql_input_rules.proofs.PlaceLemmas.{Checked}
use Rattle.graphql_input_rules.proofs.schema_input_fields.check_type.Goals as goal

-- the same directives and fields
with_fields : {T E : Type 0} {xs ys : List (Component Directive)} {fs gs : List (Component FieldDefinition)} (r : Result T E) (old new : List InputFieldRepetition) →
    xs ≡ ys → fs ≡ gs → Checked r (λ v. InAppliedDirectives xs v ⊎ FieldsWrite fs v) old new →
    Checked r (λ v. InAppliedDirectives ys v ⊎ FieldsWrite gs v) old new
with_fields {ys = ys} {fs = fs} r old new e f c =
    subst (λ l. Checked r (λ v. InAppliedDirectives ys v ⊎ FieldsWrite l v) old new) f
    (subst (λ l. Checked r (λ v. InAppliedDirectives l v ⊎ FieldsWrite fs v) old new) e c)

pub returns-in-Scalar : goal.returns-in-Scalar
returns-in-Scalar c =
    let r = c.check_applied_directives.result in
    let old = c.args.reports.now.kept.items in
    let new = c.check_applied_directives.new.reports.kept.items in
    subst (λ t. Checked r (TypeWrites t) old new) (sym c.in-Scalar.is)
    (subst (λ l. Checked r (InAppliedDirectives l) old new) (c.deref-in-Scalar.ensures.value ∙ ap (λ (d : ScalarType). d.directives.items) c.deref.ensures) c.check_applied_directives.ensures)

pub returns-in-Object : goal.returns-in-Object
returns-in-Object c =
    let r = c.check_type_with_fields.result in
    let old = c.args.reports.now.kept.items in
    let new = c.check_type_with_fields.new.reports.kept.items in
    subst (λ t. Checked r (TypeWrites t) old new) (sym c.in-Object.is)
    (with_fields r old new (c.deref-in-Object-2.ensures.value ∙ ap (λ (d : ObjectType). d.directives.items) c.deref-in-Object.ensures)
    (ap (λ (d : ObjectType). values d.fields) c.deref-in-Object-3.ensures) c.check_type_with_fields.ensures)

pub returns-in-Interface : goal.returns-in-Interface
returns-in-Interface c =
    let r = c.check_type_with_fields-in-Interface.result in
    let old = c.args.reports.now.kept.items in
    let new = c.check_type_with_fields-in-Interface.new.reports.kept.items in
    subst (λ t. Checked r (TypeWrites t) old new) (sym c.in-Interface.is)
    (with_fields r old new (c.deref-in-Interface-2.ensures.value ∙ ap (λ (d : InterfaceType). d.directives.items) c.deref-in-Interface.ensures)
    (ap (λ (d : InterfaceType). values d.fields) c.deref-in-Interface-3.ensures) c.check_type_with_fields-in-Interface.ensures)

pub returns-in-Union : goal.returns-in-Union
returns-in-Union c =
    let r = c.check_applied_directives-in-Union.result in
    let old = c.args.reports.now.kept.items in
    let new = c.check_applied_directives-in-Union.new.reports.kept.items in
    subst (λ t. Checked r (TypeWrites t) old new) (sym c.in-Union.is)
    (subst (λ l. Checked r (InAppliedDirectives l) old new) (c.deref-in-Union-2.ensures.value ∙ ap (λ (d : UnionType). d.directives.items) c.deref-in-Union.ensures) c.check_applied_directives-in-Union.ensures)

pub returns-in-Enum : goal.returns-in-Enum
returns-in-Enum c =
    let r = c.check_enum.result in
    let old = c.args.reports.now.kept.items in
    let new = c.check_enum.new.reports.kept.items in
    subst (λ t. Checked r (TypeWrites t) old new) (sym c.in-Enum.is)
    (subst (λ (d : EnumType). Checked r (λ v. InAppliedDirectives d.directives.items v ⊎ EnumValuesWrite (values d.values) v) old new) c.deref-in-Enum.ensures c.check_enum.ensures)

pub returns-in-InputObject : goal.returns-in-InputObject
returns-in-InputObject c =
    let r = c.check_input_object.result in
    let old = c.args.reports.now.kept.items in
    let new = c.check_input_object.new.reports.kept.items in
    subst (λ t. Checked r (TypeWrites t) old new) (sym c.in-InputObject.is)
    (subst (λ (d : InputObjectType). Checked r (λ v. InAppliedDirectives d.directives.items v ⊎ InputFieldsWrite (values d.fields) v) old new) c.deref-in-InputObject.ensures c.check_input_object.ensures)
