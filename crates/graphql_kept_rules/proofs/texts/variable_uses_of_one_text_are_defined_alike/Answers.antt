use Rattle.graphql_kept_rules.proofs.TextVariableLemmas.{variable_uses_too}
use Rattle.graphql_kept_rules.proofs.texts.variable_uses_of_one_text_are_defined_alike.Goals as goal

pub returns : goal.returns
returns c = variable_uses_too
