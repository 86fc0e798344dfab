-- Variables are defined as they should be against a schema that keeps what an older one had. Specification: 5.8 Variables.
use Rattle.std.proofs.Common.{◌≡◌, ◌∙◌, List, [], Some, refl, sym, subst, subst₂}
use Rattle.std.specs.Prelude.{IsTrue}
use Rattle.std.specs.List.{AllZip}
use Rattle.graphql_nodes.specs.Names.{AreDistinct}
use Rattle.graphql_nodes.specs.declared.directive_locations.DirectiveLocation.TheVariants as allowed_at
use Rattle.graphql_nodes.specs.declared.nodes.Node.{Node}
use Rattle.graphql_documents.specs.Schemas.{NamesKind, is_input_type}
use Rattle.graphql_documents.specs.TypeReferences.{as_written, inner_named_type, is_assignable}
use Rattle.graphql_documents.specs.declared.documents.definitions.VariableDefinition.{VariableDefinition}
use Rattle.graphql_documents.specs.declared.documents.schemas.Schema.{Schema}
use Rattle.graphql_documents.specs.declared.documents.type_references.Type.{«Type»}
use Rattle.graphql_specification.specs.Values.{Accepts}
use Rattle.graphql_specification.specs.Variables.{VariableDefinitionHolds, VariableDefinitionsHold}
use Rattle.graphql_document_building.specs.SameLeaves.{SameValue, SameVariable}
use Rattle.graphql_schema_changes.specs.Keeps.{AnyInput}
use Rattle.graphql_sameness_laws.proofs.LeafLemmas.{variable_back}
use Rattle.graphql_sameness_laws.proofs.NamedLemmas.{default_alike}
use Rattle.graphql_sameness_laws.proofs.TypeLemmas as types
use Rattle.graphql_sameness_laws.proofs.ValueLemmas.{contents_back}
use Rattle.graphql_sameness_laws.proofs.ZipLemmas.{other_side, zip_all, zip_one}
use Rattle.graphql_kept_rules.proofs.AssignableLemmas.{assignable_itself}
use Rattle.graphql_kept_rules.proofs.KeptFieldLemmas.{applications_kept}
use Rattle.graphql_kept_rules.proofs.KeptLeafLemmas.{input_after}
use Rattle.graphql_kept_rules.proofs.KeptValueLemmas.{accepts_still}
use Rattle.graphql_kept_rules.proofs.SchemasKeptLemmas.{SchemasKept}

one_schema : (new s : Schema) → Some new ≡ Some s → new ≡ s
one_schema new s e = cc

-- a type fits one that is written as it is
written_fits : (a b : «Type») → as_written a ≡ as_written b → IsTrue (is_assignable a b)
written_fits a b written = sym (types.both_assignable a a a b refl written) ∙ assignable_itself a

module _ (old new : Schema) (k : SchemasKept old new) where
  definition_still : (v w : Node VariableDefinition) → SameVariable v w → VariableDefinitionHolds (Some old) v.value.value → VariableDefinitionHolds (Some new) w.value.value
  definition_still v w same h =
      let input = h.type_holds old refl in
      record {
        directives = applications_kept old new k [] [] tt allowed_at.VariableDefinition tt _ _ same.directives h.directives;
        type_holds = λ s has.
            let kept = k.keeps.inputs (inner_named_type v.value.value.ty.value.value) input in
            subst₂ (λ s n. NamesKind s is_input_type n) (one_schema new s has) (types.one_name v.value.value.ty.value.value w.value.value.ty.value.value same.ty.written)
            (kept.after, kept.is_defined, input_after kept.values);
        default_holds = λ s has value is.
            let x = other_side SameValue w.value.value.default_value v.value.value.default_value value (default_alike _ _ (variable_back v w same).default_value) is in
            subst (λ s. Accepts s [] w.value.value.ty.value.value value.value.value) (one_schema new s has)
            (accepts_still old new (AnyInput old) k.keeps.inputs (λ name d field input is c. k.inputs.input_fields name d field is c) k.unique [] [] tt
            (h.default_holds old refl x.0 x.1) w.value.value.ty.value.value value.value.value
            (written_fits v.value.value.ty.value.value w.value.value.ty.value.value same.ty.written) (contents_back x.2.contents) input);
      }

  pub definitions_still : (xs ys : List (Node VariableDefinition)) → AllZip SameVariable xs ys → VariableDefinitionsHold (Some old) xs → VariableDefinitionsHold (Some new) ys
  definitions_still xs ys zip h = record {
    each = zip_all SameVariable (λ v. VariableDefinitionHolds (Some old) v.value.value) (λ v. VariableDefinitionHolds (Some new) v.value.value) definition_still xs ys zip h.each;
    distinct = subst AreDistinct (zip_one SameVariable (λ v. v.value.value.name) (λ x y p. p.name) xs ys zip) h.distinct;
  }
