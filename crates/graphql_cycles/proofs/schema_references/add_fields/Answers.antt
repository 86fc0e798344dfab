use Rattle.std.proofs.Common.{[], ◌∷◌, ◌++◌, map}
use Rattle.graphql_nodes.specs.Names.{NameText}
use Rattle.graphql_documents.specs.declared.documents.components.Component.{Component}
use Rattle.graphql_documents.specs.declared.documents.definitions.InputValueDefinition.{InputValueDefinition}
use Rattle.graphql_documents.proofs.ListLemmas.{done_next}
use Rattle.graphql_cycles.proofs.ReferenceLemmas.{fields_more}
use Rattle.graphql_cycles.specs.References.{reference_of}
use Rattle.graphql_cycles.proofs.schema_references.add_fields.Goals as goal

pub loop-field-preserved : goal.loop-field-preserved
loop-field-preserved c =
    let x : NameText × Component InputValueDefinition = (c.in-Some.field-0-0.now, c.in-Some.field.now) in
    let done = c.loop-field.invariant.done in
    record {
      can_next = tt;
      is_finite = tt;
      done = done ++ x ∷ [];
      all = done_next _ done c.loop-field.field-iterator c.next.new.self x c.loop-field.invariant.all c.in-Some.ensures.steps;
      added = fields_more (map reference_of c.args.found.now.items) (map reference_of c.loop-field.found.items) (map reference_of c.add_input.new.found.items)
          done x c.loop-field.invariant.added c.in_ok-add_input.ensures;
    }
