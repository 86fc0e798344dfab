use Rattle.std.proofs.Common.{ap, subst, ◌∙◌}
use Rattle.graphql_documents.specs.declared.documents.definitions.FieldDefinition.{FieldDefinition}
use Rattle.graphql_documents.specs.declared.documents.executables.Field.{Field}
use Rattle.graphql_pair_merging.specs.Disagreements.{HasDefinition}
use Rattle.graphql_pair_merging.proofs.disagreements.has_defined_type.Goals as goal

pub returns : goal.returns
returns c found =
    subst (λ (d : FieldDefinition). HasDefinition c.args.schema.now d.ty) (c.deref-2.ensures ∙ ap (λ (f : Field). f.definition.value.value) c.deref.ensures) (c.is_defined.ensures found)
