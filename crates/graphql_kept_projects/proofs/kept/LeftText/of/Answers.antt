use Rattle.std.proofs.Common.{refl, subst, sym}
use Rattle.graphql_kept_projects.specs.Left.{IsLeftOf, all_is_left}
use Rattle.graphql_kept_projects.proofs.kept.LeftText.of.Goals as goal

pub returns : goal.returns
returns c = record { same_file = refl; is_left = subst (IsLeftOf c.args.source.text.now) (sym c.in_ok-from_str.ensures.ok) all_is_left }
