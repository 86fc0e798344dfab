use Rattle.std.proofs.Common.{[], ◌∷◌, ◌++◌, map}
use Rattle.graphql_nodes.specs.Names.{NameText}
use Rattle.graphql_documents.specs.declared.documents.components.Component.{Component}
use Rattle.graphql_documents.specs.declared.documents.definitions.EnumValueDefinition.{EnumValueDefinition}
use Rattle.graphql_documents.proofs.ListLemmas.{done_next}
use Rattle.graphql_cycles.proofs.ReferenceLemmas.{values_more}
use Rattle.graphql_cycles.specs.References.{reference_of}
use Rattle.graphql_cycles.proofs.schema_references.add_values.Goals as goal

pub loop-value-preserved : goal.loop-value-preserved
loop-value-preserved c =
    let x : NameText × Component EnumValueDefinition = (c.in-Some.field-0-0.now, c.in-Some.value.now) in
    let done = c.loop-value.invariant.done in
    record {
      can_next = tt;
      is_finite = tt;
      done = done ++ x ∷ [];
      all = done_next _ done c.loop-value.value-iterator c.next.new.self x c.loop-value.invariant.all c.in-Some.ensures.steps;
      added = values_more (map reference_of c.args.found.now.items) (map reference_of c.loop-value.found.items) (map reference_of c.add_directives.new.found.items)
          done x c.deref.result.now c.deref-in-loop-value.result.now c.deref.ensures c.deref-in-loop-value.ensures.value
          c.loop-value.invariant.added c.in_ok-add_directives.ensures;
    }
