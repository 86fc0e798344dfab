use Rattle.std.proofs.Common.{◌∙◌, ap, subst, sym}
use Rattle.graphql_embed.specs.Outcomes.{TellsSharing, is_not_shared, is_shared, status_of_refusal}
use Rattle.graphql_embed.proofs.graphql_schema_share.Goals as goal

pub returns-in-Ok-clause-tells : goal.returns-in-Ok-clause-tells
returns-in-Ok-clause-tells c = is_shared c.in-Ok.ensures.shared

pub returns-in-Err-clause-tells : goal.returns-in-Err-clause-tells
returns-in-Err-clause-tells c =
    subst (TellsSharing c.args.handle.now.kept c.share.new.other.kept) (sym (c.status_of_refusal.ensures ∙ ap status_of_refusal c.in-Err.ensures.refused))
    (is_not_shared c.in-Err.ensures.closed)
