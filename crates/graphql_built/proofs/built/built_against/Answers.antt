use Rattle.std.proofs.Common.{sym, ◌∙◌}
use Rattle.graphql_built.proofs.BuiltLemmas.{document_built}
use Rattle.graphql_built.proofs.built.built_against.Goals as goal
use Rattle.graphql_built.proofs.built.built_against.Goals.{else-stands_under_own_names, then-stands_under_own_names}

pub returns-then-operations_are_built : goal.returns-then-operations_are_built
returns-then-operations_are_built c =
    elim c.if-stands_under_own_names.branch [
      | then-stands_under_own_names w ↦
          document_built c.args.schema.now c.args.document.now _ (c.stands_under_own_names.ensures.0 w.if-stands_under_own_names.true)
          (w.operations_are_built.ensures.0 (sym w.value-is ∙ c.if-operations_are_built.true)) c.fragments_are_built.ensures
      | else-stands_under_own_names w ↦ absurd (let no : ⊥ = cc in no)
    ]
