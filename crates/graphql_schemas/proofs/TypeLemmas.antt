-- What is checked of a type definition, part by part.
use Rattle.std.proofs.Common.{◌≡◌, ◌↔◌, ◌++◌, Bool, true, false, inl, inr, List, [], ◌∷◌, length, map, refl, sym, ap, subst, ◌∙◌, All, Contains}
use Rattle.std.proofs.lemmas.List.{append-nil, nil_from_length}
use Rattle.std.proofs.lemmas.List.Elements.{All-append, All-cons, All-contains, All-head, All-map, All-nil}
use Rattle.std.specs.List.{list_any}
use Rattle.std.specs.Prelude.{◌≢◌, codes, IsTrue, IsFalse, Option, Some, Result, Ok, Err, OnOk, flat_map}
use Rattle.graphql_diagnostics.specs.Diagnostics.{IsDiagnostic, IsLimitEntry}
use Rattle.graphql_specification.specs.Directives.{DirectivesReport}
use Rattle.graphql_specification.specs.FieldDefinitions.{FieldDefinitionsReport, of_one_field, of_type_of_one, FieldDefinitionsHold}
use Rattle.graphql_specification.specs.InputValueDefinitions.{InputValueReport, InputValuesReport, NameReport, of_reserved_name, DirectivesHoldAt, InputValueDefinitionHolds}
use Rattle.graphql_specification.specs.Implementations.{ImplementationReport, InterfacesReport, InterfaceFieldsReport, ImplementationFieldTypesReport, ImplementationFieldArgumentsReport, of_interfaces, of_interface_fields, of_field_types, of_field_arguments, DoesNotListItself, FieldArgumentsImplement, FieldList, FieldTypesImplement, HasInterfaceFields, ImplementationsHold, ListedInterfacesAreDefined, ListsTransitiveInterfaces}
use Rattle.graphql_nodes.specs.Names.{IsFreeName, NameText, same_name}
use Rattle.graphql_diagnostics.specs.Reports.{KeepsReports, Reports, ReportsWithin}
use Rattle.graphql_specification.specs.InputObjectCycles.{InputObjectHasNoCycle}
use Rattle.graphql_documents.specs.Directives.{directives_of_type}
use Rattle.graphql_specification.specs.Types.{EnumHolds, EnumValueHolds, InputObjectHolds, InterfaceHolds, ObjectHolds, ScalarHolds, UnionHolds, EnumValueReport, TypeReport, directive_location_of, enum_value_breaks, enum_value_directives, enum_value_name, input_field_breaks, is_unchecked, type_directives, type_field_breaks, type_implementation, type_of_field_breaks}
use Rattle.graphql_documents.specs.Schemas.{IsListed, NamesKind, fields_of, input_fields_of, interfaces_of, is_built_in, is_object_type, location_of, own_name}
use Rattle.graphql_specification.specs.BuiltInScalars.{argument_types, field_types, types_referred_by}
use Rattle.graphql_documents.specs.TypeReferences.{inner_named_type}
use Rattle.graphql_diagnostics.specs.declared.data.DiagnosticData.{DiagnosticData}
use Rattle.graphql_diagnostics.specs.declared.lists.DiagnosticEntry.{DiagnosticEntry}
use Rattle.graphql_documents.specs.declared.documents.components.Component.{Component}
use Rattle.graphql_documents.specs.declared.documents.components.ComponentName.{ComponentName}
use Rattle.graphql_nodes.specs.declared.directive_locations.DirectiveLocation.TheVariants as allowed_at
use Rattle.graphql_documents.specs.declared.documents.definitions.EnumValueDefinition.{EnumValueDefinition}
use Rattle.graphql_documents.specs.declared.documents.definitions.InputValueDefinition.{InputValueDefinition}
use Rattle.graphql_documents.specs.declared.documents.directives.Directive.{Directive}
use Rattle.graphql_nodes.specs.declared.nodes.Node.{Node}
use Rattle.graphql_documents.specs.declared.documents.schemas.EnumType.{EnumType}
use Rattle.graphql_documents.specs.declared.documents.schemas.ExtendedType.TheVariants as types
use Rattle.graphql_documents.specs.declared.documents.schemas.ExtendedType.{ExtendedType}
use Rattle.graphql_documents.specs.declared.documents.schemas.InputObjectType.{InputObjectType}
use Rattle.graphql_documents.specs.declared.documents.schemas.InterfaceType.{InterfaceType}
use Rattle.graphql_documents.specs.declared.documents.schemas.ObjectType.{ObjectType}
use Rattle.graphql_documents.specs.declared.documents.schemas.ScalarType.{ScalarType}
use Rattle.graphql_documents.specs.declared.documents.schemas.Schema.{Schema}
use Rattle.graphql_documents.specs.declared.documents.schemas.UnionType.{UnionType}
use Rattle.graphql_nodes.specs.declared.spans.SourceSpan.{SourceSpan}
use Rattle.graphql_diagnostics.proofs.DiagnosticLemmas.{diagnostic_wider}
use Rattle.graphql_documents.proofs.ListLemmas.{All-append_left, All-append_right, each_standing, made_of, stands_mapped}
use Rattle.graphql_diagnostics.proofs.ReportLemmas.{kept_wider, wider}
use Rattle.graphql_diagnostics.proofs.ReportWithinLemmas.{ChecksListWithin, both_within, in_words_within, wider_within}
use Rattle.graphql_documents.proofs.SubtypeLemmas.{listed_asked}
use Rattle.graphql_field_definitions.specs.BuiltInScalarUses.{Records}
use Rattle.graphql_schemas.specs.TypeSteps.{AreOf}
use Rattle.graphql_field_definitions.specs.declared.built_in_scalars.BuiltInScalars.{BuiltInScalars}
use Rattle.graphql_field_definitions.proofs.BuiltInScalarLemmas.{records_as}

-- whether a list is empty, by its length
pub is_filled : {X : Type 0} (xs : List X) (answer : Bool) → IsTrue answer ↔ (length xs ≡ 0) → answer ≡ false → xs ≢ []
is_filled xs answer says denied is =
    let granted : answer ≡ true = says.1 (ap length is) in
    let h : ⊥ = cc in h

pub is_bare : {X : Type 0} (xs : List X) (answer : Bool) → IsTrue answer ↔ (length xs ≡ 0) → answer ≡ true → xs ≡ []
is_bare xs answer says granted = nil_from_length xs (says.0 granted)

-- a walk within a limit over what was done: one more
pub done_more_within : {X : Type 0} (P : X → Type 0) (Q : DiagnosticEntry → Type 0) (done : List X) (x : X) (old mid new : List DiagnosticEntry) →
    ReportsWithin IsLimitEntry (All P done) Q old mid → ReportsWithin IsLimitEntry (P x) Q mid new → ReportsWithin IsLimitEntry (All P (done ++ x ∷ [])) Q old new
done_more_within P Q done x old mid new a b =
    in_words_within IsLimitEntry (
      λ p. All-append P done (x ∷ []) p.0 (All-cons P x [] p.1 (All-nil P)),
      λ all. (All-append_left P done (x ∷ []) all, All-head P x [] (All-append_right P done (x ∷ []) all)),
    )
    (both_within IsLimitEntry a b)

-- a check within a limit, its reports seen from further off
pub checks_wider_within : {T E : Type 0} (r : Result T E) (P : Type 0) (Q Q' : DiagnosticEntry → Type 0) (old new : List DiagnosticEntry) →
    ((e : DiagnosticEntry) → Q e → Q' e) → ChecksListWithin IsLimitEntry r P Q old new → ChecksListWithin IsLimitEntry r P Q' old new
checks_wider_within (Ok x) P Q Q' old new w c = wider_within IsLimitEntry w c
checks_wider_within (Err x) P Q Q' old new w c = kept_wider w c

-- what is reported of a part is reported of the type
module _ (schema : Schema) (d : ExtendedType) where
  pub names_directives : IsFalse (is_unchecked d) → (e : DiagnosticEntry) →
      IsDiagnostic (DirectivesReport (Some schema) [] (directive_location_of d) (directives_of_type d)) e → IsDiagnostic (TypeReport schema d) e
  names_directives checked =
      diagnostic_wider (DirectivesReport (Some schema) [] (directive_location_of d) (directives_of_type d)) (TypeReport schema d) (λ r at breaks. type_directives checked breaks)

  of_fields : (r : DiagnosticData) (at : Option SourceSpan) → FieldDefinitionsReport schema (fields_of d) r at → TypeReport schema d r at
  of_fields r at (of_one_field in' breaks) = type_field_breaks in' breaks
  of_fields r at (of_type_of_one in' breaks) = type_of_field_breaks in' breaks

  pub names_fields : (e : DiagnosticEntry) → IsDiagnostic (FieldDefinitionsReport schema (fields_of d)) e → IsDiagnostic (TypeReport schema d) e
  names_fields = diagnostic_wider (FieldDefinitionsReport schema (fields_of d)) (TypeReport schema d) of_fields

  pub names_implementation : (e : DiagnosticEntry) → IsDiagnostic (ImplementationReport schema d) e → IsDiagnostic (TypeReport schema d) e
  names_implementation = diagnostic_wider (ImplementationReport schema d) (TypeReport schema d) (λ r at breaks. type_implementation breaks)

  module _ {old new : List DiagnosticEntry} where
    -- the directives, as they were read
    pub directives_checked : (given : List (Component Directive)) → map (λ (c : Component Directive). c.node) given ≡ directives_of_type d → IsFalse (is_unchecked d) →
        Reports (DirectivesHoldAt schema (directive_location_of d) (map (λ (c : Component Directive). c.node) given))
        (IsDiagnostic (DirectivesReport (Some schema) [] (directive_location_of d) (map (λ (c : Component Directive). c.node) given))) old new →
        Reports (DirectivesHoldAt schema (directive_location_of d) (directives_of_type d)) (IsDiagnostic (TypeReport schema d)) old new
    directives_checked given same checked r =
        wider (names_directives checked)
        (subst (λ (l : List (Node Directive)). Reports (DirectivesHoldAt schema (directive_location_of d) l) (IsDiagnostic (DirectivesReport (Some schema) [] (directive_location_of d) l)) old new) same r)

    pub directives_kept : (given : List (Component Directive)) → map (λ (c : Component Directive). c.node) given ≡ directives_of_type d → IsFalse (is_unchecked d) →
        KeepsReports (IsDiagnostic (DirectivesReport (Some schema) [] (directive_location_of d) (map (λ (c : Component Directive). c.node) given))) old new →
        KeepsReports (IsDiagnostic (TypeReport schema d)) old new
    directives_kept given same checked r =
        kept_wider (names_directives checked)
        (subst (λ (l : List (Node Directive)). KeepsReports (IsDiagnostic (DirectivesReport (Some schema) [] (directive_location_of d) l)) old new) same r)

    -- the fields, as they were read
    pub fields_checked : (fields : FieldList) → fields ≡ fields_of d →
        Reports (FieldDefinitionsHold schema fields) (IsDiagnostic (FieldDefinitionsReport schema fields)) old new →
        Reports (FieldDefinitionsHold schema (fields_of d)) (IsDiagnostic (TypeReport schema d)) old new
    fields_checked fields same r =
        wider names_fields (subst (λ (l : FieldList). Reports (FieldDefinitionsHold schema l) (IsDiagnostic (FieldDefinitionsReport schema l)) old new) same r)

    pub fields_kept : (fields : FieldList) → fields ≡ fields_of d →
        KeepsReports (IsDiagnostic (FieldDefinitionsReport schema fields)) old new → KeepsReports (IsDiagnostic (TypeReport schema d)) old new
    fields_kept fields same r =
        kept_wider names_fields (subst (λ (l : FieldList). KeepsReports (IsDiagnostic (FieldDefinitionsReport schema l)) old new) same r)

  -- the interfaces, as they were read
  module _ {name : NameText} {location : Option SourceSpan} {fields : FieldList} {interfaces : List ComponentName} (are : AreOf d name location fields interfaces) where
    pub names_interfaces : (e : DiagnosticEntry) → IsDiagnostic (InterfacesReport schema name location interfaces) e → IsDiagnostic (ImplementationReport schema d) e
    names_interfaces =
        rw (are.name_is, are.location_is, are.interfaces_are)
        (diagnostic_wider (InterfacesReport schema (own_name d) (location_of d) (interfaces_of d)) (ImplementationReport schema d) (λ r at breaks. of_interfaces breaks))

    pub names_interface_fields : (e : DiagnosticEntry) → IsDiagnostic (InterfaceFieldsReport schema name location fields interfaces) e → IsDiagnostic (ImplementationReport schema d) e
    names_interface_fields =
        rw (are.name_is, are.location_is, are.fields_are, are.interfaces_are)
        (diagnostic_wider (InterfaceFieldsReport schema (own_name d) (location_of d) (fields_of d) (interfaces_of d)) (ImplementationReport schema d) (λ r at breaks. of_interface_fields breaks))

    pub names_field_types : (e : DiagnosticEntry) → IsDiagnostic (ImplementationFieldTypesReport schema name fields interfaces) e → IsDiagnostic (ImplementationReport schema d) e
    names_field_types =
        rw (are.name_is, are.fields_are, are.interfaces_are)
        (diagnostic_wider (ImplementationFieldTypesReport schema (own_name d) (fields_of d) (interfaces_of d)) (ImplementationReport schema d) (λ r at breaks. of_field_types breaks))

    pub names_field_arguments : (e : DiagnosticEntry) → IsDiagnostic (ImplementationFieldArgumentsReport schema name fields interfaces) e → IsDiagnostic (ImplementationReport schema d) e
    names_field_arguments =
        rw (are.name_is, are.fields_are, are.interfaces_are)
        (diagnostic_wider (ImplementationFieldArgumentsReport schema (own_name d) (fields_of d) (interfaces_of d)) (ImplementationReport schema d) (λ r at breaks. of_field_arguments breaks))

    pub implementations_same : ImplementationsHold schema fields interfaces ↔ ImplementationsHold schema (fields_of d) (interfaces_of d)
    implementations_same = rw (are.fields_are, are.interfaces_are) (λ h. h, λ h. h)

pub implementations_decide : (schema : Schema) (fields : FieldList) (interfaces : List ComponentName) →
    ((((ListedInterfacesAreDefined schema interfaces × ListsTransitiveInterfaces schema interfaces) × HasInterfaceFields schema fields interfaces) ×
    FieldTypesImplement schema fields interfaces) × FieldArgumentsImplement schema fields interfaces) ↔ ImplementationsHold schema fields interfaces
implementations_decide schema fields interfaces = (
  λ p. record { defined = p.0.0.0.0; transitive = p.0.0.0.1; has_fields = p.0.0.1; field_types = p.0.1; field_arguments = p.1 },
  λ h. ((((h.defined, h.transitive), h.has_fields), h.field_types), h.field_arguments),
)

-- the rules of a type are those of its parts
pub scalar_decides : (schema : Schema) (d : Node ScalarType) → IsFalse (is_built_in (types.Scalar d)) →
    DirectivesHoldAt schema allowed_at.Scalar (directives_of_type (types.Scalar d)) ↔ ScalarHolds schema d
scalar_decides schema d checked = (λ h. inr h, by_either) where
  by_either : ScalarHolds schema d → DirectivesHoldAt schema allowed_at.Scalar (directives_of_type (types.Scalar d))
  by_either (inl built_in) = absurd (let h : ⊥ = cc in h)
  by_either (inr h) = h

pub object_decides : (schema : Schema) (d : Node ObjectType) →
    (((DirectivesHoldAt schema allowed_at.Object (directives_of_type (types.Object d)) × FieldDefinitionsHold schema d.value.value.fields.entries) ×
    (d.value.value.fields.entries ≢ [])) × ImplementationsHold schema d.value.value.fields.entries d.value.value.implements_interfaces.keys) ↔ ObjectHolds schema d
object_decides schema d = (
  λ p. record { directives = p.0.0.0; fields = p.0.0.1; is_not_empty = p.0.1; implementations = p.1 },
  λ h. (((h.directives, h.fields), h.is_not_empty), h.implementations),
)

pub interface_decides : (schema : Schema) (d : Node InterfaceType) →
    ((((DirectivesHoldAt schema allowed_at.Interface (directives_of_type (types.Interface d)) × DoesNotListItself d.value.value.name d.value.value.implements_interfaces.keys) ×
    FieldDefinitionsHold schema d.value.value.fields.entries) × (d.value.value.fields.entries ≢ [])) ×
    ImplementationsHold schema d.value.value.fields.entries d.value.value.implements_interfaces.keys) ↔ InterfaceHolds schema d
interface_decides schema d = (
  λ p. record { directives = p.0.0.0.0; not_itself = p.0.0.0.1; fields = p.0.0.1; is_not_empty = p.0.1; implementations = p.1 },
  λ h. ((((h.directives, h.not_itself), h.fields), h.is_not_empty), h.implementations),
)

pub union_decides : (schema : Schema) (d : Node UnionType) →
    ((DirectivesHoldAt schema allowed_at.Union (directives_of_type (types.Union d)) × All (λ (member : ComponentName). NamesKind schema is_object_type member.name) d.value.value.members.keys) ×
    (d.value.value.members.keys ≢ [])) ↔ UnionHolds schema d
union_decides schema d = (
  λ p. record { directives = p.0.0; members = p.0.1; is_not_empty = p.1 },
  λ h. ((h.directives, h.members), h.is_not_empty),
)

pub enum_decides : (schema : Schema) (d : Node EnumType) →
    ((DirectivesHoldAt schema allowed_at.Enum (directives_of_type (types.Enum d)) × All (λ entry. EnumValueHolds schema entry.1.node.value.value) d.value.value.values.entries) ×
    (d.value.value.values.entries ≢ [])) ↔ EnumHolds schema d
enum_decides schema d = (
  λ p. record { directives = p.0.0; values = p.0.1; is_not_empty = p.1 },
  λ h. ((h.directives, h.values), h.is_not_empty),
)

pub input_object_decides : (schema : Schema) (d : Node InputObjectType) →
    (((DirectivesHoldAt schema allowed_at.InputObject (directives_of_type (types.InputObject d)) × InputObjectHasNoCycle schema d) ×
    All (λ entry. InputValueDefinitionHolds schema allowed_at.InputFieldDefinition entry.1.node.value.value) d.value.value.fields.entries) ×
    (d.value.value.fields.entries ≢ [])) ↔ InputObjectHolds schema d
input_object_decides schema d = (
  λ p. record { directives = p.0.0.0; no_cycle = p.0.0.1; fields = p.0.1; is_not_empty = p.1 },
  λ h. (((h.directives, h.no_cycle), h.fields), h.is_not_empty),
)

-- what is true of all that a map makes
pub all_made : {X Y : Type 0} (P : Y → Type 0) (f : X → Y) (xs : List X) → All P (map f xs) ↔ All (λ x. P (f x)) xs
all_made P f xs = (
  λ all. each_standing (λ x. P (f x)) xs (λ x in'. All-contains P (map f xs) (f x) all (stands_mapped f xs x in')),
  λ all. All-map P f xs all,
)

made_twice : {X Y Z : Type 0} (g : Y → Z) (f : X → Y) (xs : List X) → map g (map f xs) ≡ map (λ x. g (f x)) xs
made_twice g f [] = refl
made_twice g f (x ∷ xs) = ap (λ l. g (f x) ∷ l) (made_twice g f xs)

-- the fields of an input object, as they were read
module _ (schema : Schema) (d : Node InputObjectType) where
  pub input_types : argument_types (map (λ entry. entry.1.node) d.value.value.fields.entries) ≡ types_referred_by (types.InputObject d)
  input_types =
      made_twice (λ (a : Node InputValueDefinition). inner_named_type a.value.value.ty.value.value)
      (λ (entry : NameText × Component InputValueDefinition). entry.1.node) d.value.value.fields.entries

  of_input_fields : (r : DiagnosticData) (at : Option SourceSpan) →
      InputValuesReport schema allowed_at.InputFieldDefinition (codes "an input object field") (map (λ entry. entry.1.node) d.value.value.fields.entries) r at →
      TypeReport schema (types.InputObject d) r at
  of_input_fields r at breaks =
      let from = made_of (λ (entry : NameText × Component InputValueDefinition). entry.1.node) d.value.value.fields.entries breaks.0 breaks.1 in
      input_field_breaks from.1
      (subst (λ n. InputValueReport schema allowed_at.InputFieldDefinition (codes "an input object field") n r at) (sym from.2) breaks.2)

  pub names_input_fields : (e : DiagnosticEntry) →
      IsDiagnostic (InputValuesReport schema allowed_at.InputFieldDefinition (codes "an input object field") (map (λ entry. entry.1.node) d.value.value.fields.entries)) e →
      IsDiagnostic (TypeReport schema (types.InputObject d)) e
  names_input_fields =
      diagnostic_wider (InputValuesReport schema allowed_at.InputFieldDefinition (codes "an input object field") (map (λ entry. entry.1.node) d.value.value.fields.entries))
      (TypeReport schema (types.InputObject d)) of_input_fields

  pub input_fields_decide :
      All (λ (n : Node InputValueDefinition). InputValueDefinitionHolds schema allowed_at.InputFieldDefinition n.value.value) (map (λ entry. entry.1.node) d.value.value.fields.entries) ↔
      All (λ entry. InputValueDefinitionHolds schema allowed_at.InputFieldDefinition entry.1.node.value.value) d.value.value.fields.entries
  input_fields_decide =
      all_made (λ (n : Node InputValueDefinition). InputValueDefinitionHolds schema allowed_at.InputFieldDefinition n.value.value)
      (λ (entry : NameText × Component InputValueDefinition). entry.1.node) d.value.value.fields.entries

-- a value of an enum, by its name and its directives
module _ (schema : Schema) (d : Node EnumValueDefinition) where
  of_value_name : (r : DiagnosticData) (at : Option SourceSpan) → NameReport (codes "an enum value") d.value.value.value r at → EnumValueReport schema d r at
  of_value_name r at (of_reserved_name said) = enum_value_name said

  pub names_value_name : (e : DiagnosticEntry) → IsDiagnostic (NameReport (codes "an enum value") d.value.value.value) e → IsDiagnostic (EnumValueReport schema d) e
  names_value_name = diagnostic_wider (NameReport (codes "an enum value") d.value.value.value) (EnumValueReport schema d) of_value_name

  pub names_value_directives : (e : DiagnosticEntry) →
      IsDiagnostic (DirectivesReport (Some schema) [] allowed_at.EnumValue d.value.value.directives.items) e → IsDiagnostic (EnumValueReport schema d) e
  names_value_directives =
      diagnostic_wider (DirectivesReport (Some schema) [] allowed_at.EnumValue d.value.value.directives.items) (EnumValueReport schema d) (λ r at breaks. enum_value_directives breaks)

pub enum_value_decides : (schema : Schema) (d : EnumValueDefinition) →
    (IsFreeName d.value × DirectivesHoldAt schema allowed_at.EnumValue d.directives.items) ↔ EnumValueHolds schema d
enum_value_decides schema d = (λ p. record { name = p.0; directives = p.1 }, λ h. (h.name, h.directives))

-- and one of those of an enum
pub names_enum_value : (schema : Schema) (d : Node EnumType) (entry : NameText × Component EnumValueDefinition) → Contains d.value.value.values.entries entry →
    (e : DiagnosticEntry) → IsDiagnostic (EnumValueReport schema entry.1.node) e → IsDiagnostic (TypeReport schema (types.Enum d)) e
names_enum_value schema d entry stands =
    diagnostic_wider (EnumValueReport schema entry.1.node) (TypeReport schema (types.Enum d)) (λ r at breaks. enum_value_breaks stands breaks)

-- the name of no listed interface
pub not_listed : (names : List ComponentName) (name : NameText) → list_any (λ (c : ComponentName). same_name name c.name) names ≡ false → ¬ IsListed name names
not_listed names name none listed =
    let asked : list_any (λ (c : ComponentName). same_name name c.name) names ≡ true = (listed_asked names name).1 listed in
    let h : ⊥ = cc in h

-- a check within a limit in other words
pub checks_iff_within : {T E : Type 0} (r : Result T E) (P R : Type 0) (Q : DiagnosticEntry → Type 0) (old new : List DiagnosticEntry) → P ↔ R →
    ChecksListWithin IsLimitEntry r P Q old new → ChecksListWithin IsLimitEntry r R Q old new
checks_iff_within (Ok x) P R Q old new w c = in_words_within IsLimitEntry w c
checks_iff_within (Err x) P R Q old new w c = c

-- what is known whatever a call answers
pub on_ok_known : {T E : Type 0} (r : Result T E) {A : Type 0} → A → OnOk r A
on_ok_known (Ok x) a = a
on_ok_known (Err x) a = tt

-- the types to which a type refers that has no input fields
pub records_fields : {old new : BuiltInScalars} (d : ExtendedType) → input_fields_of d ≡ [] → (fields : FieldList) → fields ≡ fields_of d →
    Records old new (flat_map (λ entry. field_types entry.1.node.value.value) fields) → Records old new (types_referred_by d)
records_fields {old} {new} d none fields same r =
    let wanted : flat_map (λ entry. field_types entry.1.node.value.value) fields ≡ types_referred_by d =
    ap (λ (l : FieldList). flat_map (λ entry. field_types entry.1.node.value.value) l) same ∙
    sym (append-nil (flat_map (λ entry. field_types entry.1.node.value.value) (fields_of d))) ∙
    ap (λ (l : List (NameText × Component InputValueDefinition)).
    flat_map (λ entry. field_types entry.1.node.value.value) (fields_of d) ++ map (λ entry. inner_named_type entry.1.node.value.value.ty.value.value) l) (sym none) in
    records_as wanted r
