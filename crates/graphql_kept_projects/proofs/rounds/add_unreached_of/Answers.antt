use Rattle.std.proofs.Common.{subst, sym}
use Rattle.std.specs.List.{AllZip}
use Rattle.graphql_kept_projects.specs.Left.{IsSourceLeft}
use Rattle.graphql_kept_projects.proofs.LeftLemmas.{zip_sources}
use Rattle.graphql_kept_projects.proofs.rounds.add_unreached_of.Goals as goal

pub returns : goal.returns
returns c = λ read left.
    c.add_unreached.ensures read
    (subst (AllZip IsSourceLeft read) (sym c.deref-2.ensures.value) (zip_sources read c.args.left.now.texts.items c.in_ok-sources.sources.items left c.in_ok-sources.ensures))
