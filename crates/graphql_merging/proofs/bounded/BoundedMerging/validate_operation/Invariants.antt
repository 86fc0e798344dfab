use Rattle.graphql_merging.proofs.bounded.BoundedMerging.validate_operation.Given as goal

abbrev pub ghosts-validate_operation_uncounted : goal.ghosts-validate_operation_uncounted
ghosts-validate_operation_uncounted a = record { name = a.blank.name; parts = a.blank.parts }
