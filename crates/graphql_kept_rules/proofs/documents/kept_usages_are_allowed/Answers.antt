use Rattle.graphql_kept_rules.proofs.KeptDocumentLemmas.{all_usages_still}
use Rattle.graphql_kept_rules.proofs.documents.kept_usages_are_allowed.Goals as goal

pub returns : goal.returns
returns c old new keeps outputs inputs roots unique tree d e builds before after =
    all_usages_still old new (record { keeps = keeps; outputs = outputs; inputs = inputs; roots = roots; unique = unique }) tree builds d e before after
