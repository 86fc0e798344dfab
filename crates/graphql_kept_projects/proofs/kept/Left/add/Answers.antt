use Rattle.std.proofs.Common.{refl, subst}
use Rattle.std.specs.Prelude.{IfSome}
use Rattle.graphql_kept_projects.proofs.LeftLemmas.{rest_is_left}
use Rattle.graphql_kept_projects.specs.declared.kept.LeftText.{LeftText}
use Rattle.graphql_kept_reports.specs.Cuts.{IsKeptOf}
use Rattle.graphql_kept_projects.proofs.kept.Left.add.Goals as goal

pub returns : goal.returns
returns c =
    let kept = c.in_ok-kept.kept in
    let is_kept = subst (λ t. IfSome kept (IsKeptOf t)) c.as_str.ensures.value c.in_ok-kept.ensures in
    let rest : LeftText = record { file_id = c.args.left.file_id; text = c.rest_of-text.result.0 } in
    (rest, (refl, rest_is_left c.args.left.text c.rest_of-text.result.0 kept is_kept c.rest_of-text.ensures), c.in_ok-push.ensures.items)
