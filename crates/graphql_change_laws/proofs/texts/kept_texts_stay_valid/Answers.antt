use Rattle.graphql_change_laws.proofs.TheoremLemmas.{documents_stay_valid}
use Rattle.graphql_change_laws.proofs.VerdictLemmas.{text_stays_valid}
use Rattle.graphql_change_laws.proofs.texts.kept_texts_stay_valid.Goals as goal

pub returns : goal.returns
returns c bounds said old new accepted usable roots metas sound unique keeps source enough =
    text_stays_valid bounds old new (documents_stay_valid said old new accepted usable roots metas sound unique keeps) source enough
