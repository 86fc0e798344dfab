-- That what a change of an argument or input field says is so. Specification: 3.6.1 Field Arguments, 3.10 Input Objects.
use Rattle.std.proofs.Common.{◌≡◌, ◌∙◌, ◌⊎◌, inl, inr, List, Bool, true, false, Option, Some, None, Ok, refl, sym, subst, Contains}
use Rattle.std.specs.Prelude.{◌↔◌, if◌then◌else◌, IsNone}
use Rattle.std.proofs.lemmas.Option.{same_Some}
use Rattle.indexmap.specs.IndexMap.{get}
use Rattle.graphql_nodes.specs.Names.{NameText, SameName, same_name}
use Rattle.graphql_nodes.proofs.NameLemmas.{same_name_back, same_name_itself}
use Rattle.graphql_nodes.specs.declared.nodes.Node.{Node}
use Rattle.graphql_documents.specs.Definitions.{definition_named}
use Rattle.graphql_documents.specs.Directives.{directive_definition}
use Rattle.graphql_documents.specs.Schemas.{type_definition, type_field}
use Rattle.graphql_documents.specs.declared.documents.components.Component.{Component}
use Rattle.graphql_documents.specs.declared.documents.definitions.DirectiveDefinition.{DirectiveDefinition}
use Rattle.graphql_documents.specs.declared.documents.definitions.FieldDefinition.{FieldDefinition}
use Rattle.graphql_documents.specs.declared.documents.definitions.InputValueDefinition.{InputValueDefinition}
use Rattle.graphql_documents.specs.declared.documents.schemas.ExtendedType.TheVariants.{InputObject}
use Rattle.graphql_documents.specs.declared.documents.schemas.InputObjectType.{InputObjectType}
use Rattle.graphql_documents.specs.declared.documents.schemas.Schema.{Schema}
use Rattle.graphql_change_kinds.specs.Changes.{HasDirectiveArgument, HasInput, IsArgumentOf, IsFieldOf, IsGivenTwice, LacksInput, SaysApplicable}
use Rattle.graphql_input_comparison.specs.Inputs.{InputField}
use Rattle.graphql_input_comparison.specs.Owners.{HasArguments, HasInputFields, IsNewArgument, IsNewField, IsOwner, OwnerHas, OwnerHasTwice, OwnerLacks, coordinate_of, field_coordinate}
use Rattle.graphql_input_comparison.specs.declared.inputs.Owner.{Owner}
use Rattle.graphql_input_comparison.specs.declared.inputs.Owner.TheVariants as owner
use Rattle.graphql_change_kinds.specs.declared.changes.InputCoordinate.TheVariants as input
use Rattle.graphql_change_kinds.proofs.FindsLemmas.{found_any, looked_up_any, one_ok}
use Rattle.graphql_change_kinds.proofs.TruthLemmas.{any_of, no_entry, none_found, of_any}

none_of : {X : Type 0} (r : Option X) → IsNone r → r ≡ None
none_of None e = refl
none_of (Some y) e = absurd (let no : ⊥ = cc in no)

-- ==== owners

pub says_applicable : (old : Schema) (o : Owner) (name : NameText) → IsOwner old o → SaysApplicable old (coordinate_of o name)
says_applicable old (owner.Field ty field) name known = tt
says_applicable old (owner.InputObject ty) name known = tt
says_applicable old (owner.Directive directive true) name known = known
says_applicable old (owner.Directive directive false) name known = known

-- the arguments of a field, of a directive, and the fields of an input object
pub field_arguments : (schema : Schema) (ty field : NameText) (d : Component FieldDefinition) → type_field schema ty field ≡ Ok d → (name : NameText) (a : InputValueDefinition) →
    HasInput schema (input.Argument (record { ty = ty; field = field; argument = name })) a ↔ IsArgumentOf d.node.value.value.arguments.items name a
field_arguments schema ty field d is name a =
    (λ has. subst (λ (x : Component FieldDefinition). IsArgumentOf x.node.value.value.arguments.items name a) (one_ok _ has.0 d has.1 is) has.2, λ at. (d, is, at))

directive_argument : (schema : Schema) (directive : NameText) (d : Node DirectiveDefinition) → directive_definition schema directive ≡ Some d → (name : NameText) (a : InputValueDefinition) →
    HasDirectiveArgument schema directive name a ↔ IsArgumentOf d.value.value.arguments.items name a
directive_argument schema directive d is name a =
    (λ has. subst (λ (x : Node DirectiveDefinition). IsArgumentOf x.value.value.arguments.items name a) (same_Some has.0 d (sym has.1 ∙ is)) has.2, λ at. (d, is, at))

pub directive_arguments : (schema : Schema) (directive : NameText) (d : Node DirectiveDefinition) → directive_definition schema directive ≡ Some d → (is_executable : Bool) (name : NameText) (a : InputValueDefinition) →
    HasInput schema (if is_executable then input.DirectiveArgument (record { directive = directive; argument = name }) else input.SchemaDirectiveArgument (record { directive = directive; argument = name })) a ↔
    IsArgumentOf d.value.value.arguments.items name a
directive_arguments schema directive d is true name a = directive_argument schema directive d is name a
directive_arguments schema directive d is false name a = directive_argument schema directive d is name a

pub input_fields : (schema : Schema) (ty : NameText) (d : Node InputObjectType) → type_definition schema ty ≡ Some (InputObject d) → HasInputFields schema ty d.value.value
input_fields schema ty d is name a =
    (λ has. subst (λ (x : Node InputObjectType). IsFieldOf x.value.value name a) (let e : Some (InputObject has.0) ≡ Some (InputObject d) = sym has.1 ∙ is in let same : has.0 ≡ d = cc in same) has.2, λ at. (d, is, at))

-- ==== arguments

module _ (schema : Schema) (o : Owner) (arguments : List (Node InputValueDefinition)) (has : HasArguments schema o arguments) where
  -- an argument of the list
  pub has_argument : (x : Node InputValueDefinition) → Contains arguments x → OwnerHas schema o x.value.value.name x.value.value
  has_argument x at = (has x.value.value.name x.value.value).1 (any_of _ arguments x at (same_name_itself x.value.value.name, refl))

  -- one that is found there
  pub has_found : (name : NameText) (x : Node InputValueDefinition) → definition_named name arguments ≡ Some x → OwnerHas schema o name x.value.value
  has_found name x found =
      (has name x.value.value).1 (found_any (λ (d : Node InputValueDefinition). same_name d.value.value.name name)
      (λ (b : Node InputValueDefinition). SameName b.value.value.name name × (b.value.value ≡ x.value.value)) arguments x found (λ same. (same, refl)))

  -- none is found there
  pub lacks_argument : (name : NameText) → definition_named name arguments ≡ None → OwnerLacks schema o name
  lacks_argument name none a given =
      let one = of_any _ arguments ((has name a).0 given) in
      none_found (λ (d : Node InputValueDefinition). same_name d.value.value.name name) arguments none one.0 one.1 one.2.0

-- a new argument is not among the old ones, or not alone among the new ones
pub is_new_argument : (old new : Schema) (o : Owner) (before after : List (Node InputValueDefinition)) → HasArguments old o before → HasArguments new o after →
    (x : Node InputValueDefinition) → Contains after x → IsNewArgument before after x.value.value →
    OwnerLacks old o x.value.value.name ⊎ OwnerHasTwice new o x.value.value.name
is_new_argument old new o before after was is x at (inl none) =
    inl (lacks_argument old o before was x.value.value.name (none_of _ none))
is_new_argument old new o before after was is x at (inr twice) =
    let other = of_any _ after twice.1 in
    let name = x.value.value.name in
    inr (
      x.value.value,
      other.0.value.value,
      has_argument new o after is x at,
      (is name other.0.value.value).1 (any_of _ after other.0 other.1 (other.2.0, refl)),
      twice.0,
      other.2.1,
    )

-- ==== input fields

module _ (schema : Schema) (ty : NameText) (d : InputObjectType) (has : HasInputFields schema ty d) where
  pub has_field : (x : InputField) → Contains d.fields.entries x → HasInput schema (field_coordinate ty x.0) x.1.node.value.value
  has_field x at = (has x.0 x.1.node.value.value).1 (any_of _ d.fields.entries x at (same_name_itself x.0, refl))

  pub has_field_found : (name : NameText) (x : Component InputValueDefinition) → get same_name d.fields name ≡ Some x → HasInput schema (field_coordinate ty name) x.node.value.value
  has_field_found name x found =
      (has name x.node.value.value).1 (looked_up_any (same_name name) (λ (e : InputField). SameName e.0 name × (e.1.node.value.value ≡ x.node.value.value)) d.fields.entries x found
      (λ key same. (same_name_back name key same, refl)))

  pub lacks_field : (name : NameText) → get same_name d.fields name ≡ None → (a : InputValueDefinition) → ¬ HasInput schema (field_coordinate ty name) a
  lacks_field name none a given =
      let one = of_any _ d.fields.entries ((has name a).0 given) in
      no_entry (same_name name) d.fields.entries none one.0 one.1 (same_name_back one.0.0 name one.2.0)

pub is_new_field : (old new : Schema) (ty : NameText) (before after : InputObjectType) → HasInputFields old ty before → HasInputFields new ty after →
    (x : InputField) → Contains after.fields.entries x → IsNewField before after x.0 x.1.node.value.value →
    LacksInput old (field_coordinate ty x.0) ⊎ IsGivenTwice new (field_coordinate ty x.0)
is_new_field old new ty before after was is x at (inl none) = inl (lacks_field old ty before was x.0 (none_of _ none))
is_new_field old new ty before after was is x at (inr twice) =
    let other = of_any _ after.fields.entries twice.1 in
    inr (
      x.1.node.value.value,
      other.0.1.node.value.value,
      has_field new ty after is x at,
      (is x.0 other.0.1.node.value.value).1 (any_of _ after.fields.entries other.0 other.1 (other.2.0, refl)),
      twice.0,
      other.2.1,
    )
