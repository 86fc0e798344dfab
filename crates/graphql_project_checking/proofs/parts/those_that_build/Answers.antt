use Rattle.std.proofs.Common.{subst, sym}
use Rattle.std.specs.Prelude.{reverse}
use Rattle.graphql_project_checking.specs.Truth.{KeepsThatBuild}
use Rattle.graphql_project_checking.proofs.parts.those_that_build.Goals as goal

pub returns : goal.returns
returns c =
    let s = c.args.schema.now in
    subst (KeepsThatBuild s c.args.document.definitions) (sym c.in_ok-definitions.ensures)
    (subst (λ l. KeepsThatBuild s l (reverse c.in_ok-kept.kept)) c.into_definitions-definitions.ensures c.in_ok-kept.ensures)
