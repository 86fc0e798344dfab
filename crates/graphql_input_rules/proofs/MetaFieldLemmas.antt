-- The meta-fields of a schema write no value.
use Rattle.std.proofs.Common.{◌≡◌, ◌∙◌, ◌≤◌, ℕ, List, [], ◌∷◌, All, Bool, Contains, arith, ap, codes, false, get_or, length, refl, subst, sym, true≢false}
use Rattle.std.specs.Prelude.{is_some, sum_by}
use Rattle.std.proofs.lemmas.List.{nil_from_length}
use Rattle.std.proofs.lemmas.List.Elements.{All-cons, All-contains, All-nil}
use Rattle.std.proofs.lemmas.List.Sums.{get_or-le-sum_by}
use mathlib.Core.Logic.{inl, inr}
use Rattle.graphql_nodes.specs.declared.nodes.Node.{Node}
use Rattle.graphql_documents.proofs.ListLemmas.{stands_mapped}
use Rattle.graphql_documents.specs.MetaFields.{HasSignature, argument_signature}
use Rattle.graphql_documents.specs.declared.documents.components.Component.{Component}
use Rattle.graphql_documents.specs.declared.documents.definitions.FieldDefinition.{FieldDefinition}
use Rattle.graphql_documents.specs.declared.documents.definitions.InputValueDefinition.{InputValueDefinition}
use Rattle.graphql_documents.specs.declared.documents.directives.Directive.{Directive}
use Rattle.graphql_documents.specs.declared.documents.meta_fields.MetaFields.{MetaFields}
use Rattle.graphql_documents.specs.declared.documents.values.Value.{Value}
use Rattle.graphql_variables.proofs.UseLemmas.{any_has, none_in_none}
use Rattle.graphql_input_rules.specs.SchemaValues.{ArgumentsWrite, FieldDefinitionWrites, FieldsWrite, InputValueWrites, meta_fields_of}
use Rattle.graphql_input_rules.specs.ValuesWritten.{InDirectives}

no_directives : (xs : List (Node Directive)) (v : Value) → length xs ≡ 0 → ¬ InDirectives xs v
no_directives xs v none w = none_in_none _ (subst (λ l. InDirectives l v) (nil_from_length xs none) w)

-- the number of the directives on an argument
abbrev on_argument : Node InputValueDefinition → ℕ
on_argument a = length a.value.value.directives.items

abbrev HasNoDefault : List ℕ × List ℕ × Bool → Type 0
HasNoDefault signature = signature.2 ≡ false

no_argument : (a : InputValueDefinition) (v : Value) → length a.directives.items ≡ 0 → HasNoDefault (argument_signature a) → ¬ InputValueWrites a v
no_argument a v none no_default (inl w) = no_directives a.directives.items v none w
no_argument a v none no_default (inr (d, is, w)) = true≢false (sym (ap is_some is) ∙ no_default)

-- what has no directives, and no argument with directives or a default value, writes nothing
module _ (d : FieldDefinition) (name ty : List ℕ) (signatures : List (List ℕ × List ℕ × Bool)) (is : HasSignature d name signatures ty)
    (no_defaults : All HasNoDefault signatures) (v : Value) where
  no_arguments : ¬ ArgumentsWrite d.arguments.items v
  no_arguments any =
      let (a, (k, within, at), w) = any_has (λ (a : Node InputValueDefinition). InputValueWrites a.value.value v) d.arguments.items any in
      let least : on_argument (get_or d.arguments.items k a) ≤ sum_by on_argument d.arguments.items = get_or-le-sum_by on_argument d.arguments.items k a within in
      let none : on_argument (get_or d.arguments.items k a) ≡ 0 = omega (arith, least, is.no_argument_directives) in
      let stands = stands_mapped (λ (a : Node InputValueDefinition). argument_signature a.value.value) d.arguments.items a (k, within, at) in
      no_argument a.value.value v (subst (λ a. on_argument a ≡ 0) at none)
      (All-contains HasNoDefault signatures (argument_signature a.value.value) no_defaults (subst (λ l. Contains l (argument_signature a.value.value)) is.takes stands)) w

  pub no_field : ¬ FieldDefinitionWrites d v
  no_field (inl w) = no_directives d.directives.items v is.no_directives w
  no_field (inr w) = no_arguments w

pub no_meta_field : (fields : MetaFields) (v : Value) → ¬ FieldsWrite (meta_fields_of fields) v
no_meta_field fields v any =
    let h = any_has In (meta_fields_of fields) any in
    All-contains (λ f. ¬ In f) (meta_fields_of fields) h.0 none h.1 h.2 where
      In : Component FieldDefinition → Type 0
      In f = FieldDefinitionWrites f.node.value.value v

      no_default : All HasNoDefault ((codes "name", codes "String!", false) ∷ [])
      no_default = All-cons HasNoDefault (codes "name", codes "String!", false) [] refl (All-nil HasNoDefault)

      none : All (λ f. ¬ In f) (meta_fields_of fields)
      none =
          All-cons (λ f. ¬ In f) fields.typename (fields.schema ∷ fields.type_by_name ∷ [])
          (no_field fields.typename.node.value.value _ _ [] fields.is_typename (All-nil HasNoDefault) v)
          (All-cons (λ f. ¬ In f) fields.schema (fields.type_by_name ∷ [])
          (no_field fields.schema.node.value.value _ _ [] fields.is_schema (All-nil HasNoDefault) v)
          (All-cons (λ f. ¬ In f) fields.type_by_name []
          (no_field fields.type_by_name.node.value.value _ _ _ fields.is_type no_default v) (All-nil (λ f. ¬ In f))))
