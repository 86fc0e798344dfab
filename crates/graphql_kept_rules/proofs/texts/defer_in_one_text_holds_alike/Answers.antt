use Rattle.graphql_kept_rules.proofs.TextDeferLemmas.{defer_holds_too}
use Rattle.graphql_kept_rules.proofs.texts.defer_in_one_text_holds_alike.Goals as goal

pub returns : goal.returns
returns c = defer_holds_too
