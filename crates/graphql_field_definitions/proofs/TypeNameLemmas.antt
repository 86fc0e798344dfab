-- Names that are to stand for types of some kinds.
use Rattle.std.proofs.Common.{◌≡◌, Bool, IsFalse, IsTrue, None, Some, ⊎_elim, subst, sym, ◌∙◌}
use Rattle.std.proofs.lemmas.Option.{none-some, same_Some}
use Rattle.graphql_nodes.specs.Names.{NameText}
use Rattle.graphql_specification.specs.InputValueDefinitions.{NamesType}
use Rattle.graphql_documents.specs.Schemas.{NamesKind, type_definition}
use Rattle.graphql_specification.specs.BuiltInScalars.{names_built_in_scalar}
use Rattle.graphql_documents.specs.declared.documents.schemas.ExtendedType.{ExtendedType}
use Rattle.graphql_documents.specs.declared.documents.schemas.Schema.{Schema}

-- a type of another kind
pub of_no_kind : (schema : Schema) (test : ExtendedType → Bool) (name : NameText) (d : ExtendedType) →
    type_definition schema name ≡ Some d → IsFalse (test d) → NamesKind schema test name → ⊥
of_no_kind schema test name d defined other h =
    let passes : IsTrue (test d) = subst (λ x. IsTrue (test x)) (same_Some h.0 d (sym h.1 ∙ defined)) h.2 in
    let clash : ⊥ = cc in clash

-- a name of no type
pub of_no_type : (schema : Schema) (test : ExtendedType → Bool) (name : NameText) → type_definition schema name ≡ None → NamesKind schema test name → ⊥
of_no_type schema test name undefined h = none-some h.0 (sym undefined ∙ h.1)

-- the same where a built-in scalar may still be added
pub no_such_type : (schema : Schema) (test : ExtendedType → Bool) (name : NameText) (d : ExtendedType) →
    type_definition schema name ≡ Some d → IsFalse (test d) → NamesType schema test name → ⊥
no_such_type schema test name d defined other h =
    ⊎_elim (λ kind. of_no_kind schema test name d defined other kind) (λ missing. none-some d (sym missing.0 ∙ defined)) h

pub no_type_at_all : (schema : Schema) (test : ExtendedType → Bool) (name : NameText) →
    type_definition schema name ≡ None → IsFalse (names_built_in_scalar name.text) → NamesType schema test name → ⊥
no_type_at_all schema test name undefined other h =
    ⊎_elim (λ kind. of_no_type schema test name undefined kind) (λ missing. let built_in = missing.1 in let clash : ⊥ = cc in clash) h
