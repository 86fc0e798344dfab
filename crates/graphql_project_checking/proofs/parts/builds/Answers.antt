use Rattle.std.proofs.Common.{[], Some, subst, sym}
use Rattle.std.specs.Prelude.{All}
use Rattle.std.proofs.lemmas.List.Elements.{All-cons, All-head, All-nil}
use Rattle.graphql_document_checking.specs.BuildingRules.{DefinitionBuilds}
use Rattle.graphql_project_checking.proofs.PartTruthLemmas.{silent_of}
use Rattle.graphql_project_checking.proofs.SilenceLemmas.{holds_of}
use Rattle.graphql_project_checking.proofs.parts.builds.Goals as goal

pub returns : goal.returns
returns c =
    let Builds = DefinitionBuilds (Some c.args.schema.now) in
    let d = c.args.definition.now in
    let one = c.from_ref.ensures.value in (
      λ yes. All-head Builds d [] (subst (All Builds) one (holds_of _ _ _ _ c.in_ok-check_definitions.ensures c.new-reports.ensures.empty (c.is_empty.ensures.0 yes))),
      λ builds. c.is_empty.ensures.1 (silent_of _ _ _ _ c.in_ok-check_definitions.ensures c.new-reports.ensures.empty
          (subst (All Builds) (sym one) (All-cons Builds d [] builds (All-nil Builds)))),
    )
