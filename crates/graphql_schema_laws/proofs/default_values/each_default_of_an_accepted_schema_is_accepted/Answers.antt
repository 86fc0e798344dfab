use Rattle.std.proofs.lemmas.List.Elements.{All-contains}
use Rattle.graphql_specification.specs.DefaultValues.{DefaultValueHolds, inputs_of}
use Rattle.graphql_documents.specs.declared.documents.definitions.InputValueDefinition.{InputValueDefinition}
use Rattle.graphql_nodes.specs.declared.nodes.Node.{Node}
use Rattle.graphql_schema_laws.proofs.DefaultValueLaws.{input_of_retained}
use Rattle.graphql_schema_laws.proofs.default_values.each_default_of_an_accepted_schema_is_accepted.Goals as goal

pub returns : goal.returns
returns c = λ schema retained d value holds is defaults stands given.
    All-contains (λ (x : Node InputValueDefinition). DefaultValueHolds retained x.value.value) (inputs_of retained) d defaults stands
    (input_of_retained schema retained holds is d stands) value given
