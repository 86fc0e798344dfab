use Rattle.graphql_kept_rules.proofs.TextWrittenLemmas.{input_fields_unique_too}
use Rattle.graphql_kept_rules.proofs.texts.input_fields_of_one_text_are_unique_alike.Goals as goal

pub returns : goal.returns
returns c = input_fields_unique_too
