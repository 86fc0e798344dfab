use Rattle.graphql_kept_rules.proofs.KeptDocumentLemmas.{all_fields_merge_still}
use Rattle.graphql_kept_rules.proofs.documents.kept_fields_merge.Goals as goal

pub returns : goal.returns
returns c old new keeps outputs inputs roots unique names tree d e builds before after =
    all_fields_merge_still old new (record { keeps = keeps.rules; outputs = outputs; inputs = inputs; roots = roots; unique = unique }) tree builds d e before after
    names keeps.merging
