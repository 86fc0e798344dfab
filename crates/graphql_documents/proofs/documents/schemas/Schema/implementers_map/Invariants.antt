use Rattle.std.proofs.Common.{◌≡◌, ◌++◌, [], List, fold}
use Rattle.graphql_documents.specs.Implementers.{implementer_entries, with_implementer}
use Rattle.graphql_nodes.specs.Names.{NameText}
use Rattle.graphql_documents.specs.declared.documents.schemas.ExtendedType.{ExtendedType}
use Rattle.graphql_documents.proofs.ImplementerLemmas.{listings_in}
use Rattle.graphql_documents.proofs.documents.schemas.Schema.implementers_map.Given as goal

abbrev pub invariant-loop-definition : goal.invariant-loop-definition
invariant-loop-definition l = record {
  can_next : (goal.iterator-loop-definition).can_next l.definition-iterator;
  is_finite : (goal.iterator-loop-definition).is_finite l.definition-iterator;
  done : List (NameText × ExtendedType);
  all : l.self.types.entries ≡ done ++ l.definition-iterator;
  made : implementer_entries l.implementers.entries ≡ fold with_implementer [] (listings_in done);
}
