use Rattle.std.proofs.Common.{◌≡◌, ◌++◌, [], ◌∷◌, sym, ap, subst, ◌∙◌}
use Rattle.std.specs.Prelude.{All}
use Rattle.std.proofs.lemmas.List.{append-nil}
use Rattle.std.proofs.lemmas.List.Elements.{All-push}
use Rattle.graphql_nodes.specs.Names.{NameText}
use Rattle.graphql_nodes.specs.declared.nodes.Node.{Node}
use Rattle.graphql_documents.specs.declared.documents.schemas.ExtendedType.{ExtendedType}
use Rattle.graphql_documents.specs.declared.documents.schemas.ExtendedType.TheVariants.{InputObject}
use Rattle.graphql_documents.specs.declared.documents.schemas.InputObjectType.{InputObjectType}
use Rattle.graphql_documents.proofs.ListLemmas.{done_next}
use Rattle.graphql_schema_laws.specs.InputFields.{HasFieldsOfMap}
use Rattle.graphql_schema_laws.proofs.input_fields.fields_of_input_objects_are_of_maps.Goals as goal

abbrev IsOfMap : NameText × ExtendedType → Type 0
IsOfMap entry = (d : Node InputObjectType) → entry.1 ≡ InputObject d → HasFieldsOfMap d.value.value

pub loop-definition-preserved : goal.loop-definition-preserved
loop-definition-preserved c =
    let x : NameText × ExtendedType = (c.in-Some.field-0-0.now, c.in-Some.definition.now) in
    let done = c.loop-definition.invariant.done in
    record {
      can_next = tt;
      is_finite = tt;
      done = done ++ x ∷ [];
      all = done_next _ done c.loop-definition.definition-iterator c.next.new.self x c.loop-definition.invariant.all c.in-Some.ensures.steps;
      so_far = All-push IsOfMap done x c.loop-definition.invariant.so_far c.fields_of_type_are_of_a_map.ensures;
    }

pub returns : goal.returns
returns c =
    let done : c.args.schema.now.types.entries ≡ c.loop-definition.invariant.done =
    c.loop-definition.invariant.all ∙ ap (λ l. c.loop-definition.invariant.done ++ l) c.in-None.ensures.steps.0 ∙ append-nil c.loop-definition.invariant.done in
    subst (All IsOfMap) (sym done) c.loop-definition.invariant.so_far
