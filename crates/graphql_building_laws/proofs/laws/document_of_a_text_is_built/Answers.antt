use Rattle.graphql_document_building.proofs.BuiltLemmas.{document_is_built}
use Rattle.graphql_building_laws.proofs.OutputFieldLaws.{has_output_fields}
use Rattle.graphql_building_laws.proofs.OwnNameLaws.{retained_under_own_names, said_under_own_names}
use Rattle.graphql_building_laws.proofs.laws.document_of_a_text_is_built.Goals as goal

pub returns : goal.returns
returns c = λ trees schema retained tree document says holds is types said.
    document_is_built retained tree document said (retained_under_own_names schema retained (said_under_own_names trees schema says) is)
    (has_output_fields schema retained holds is types)
