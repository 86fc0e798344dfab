use Rattle.std.proofs.Common.{refl}
use Rattle.graphql_project_checking.specs.Silence.{has_none, is_added}
use Rattle.graphql_project_checking.proofs.texts.add_if_token.Goals as goal

pub returns-then-has_no_token : goal.returns-then-has_no_token
returns-then-has_no_token c = has_none (c.has_no_token.ensures.none c.if-has_no_token.true) refl

pub returns : goal.returns
returns c = is_added c.in_ok-push.ensures.items
