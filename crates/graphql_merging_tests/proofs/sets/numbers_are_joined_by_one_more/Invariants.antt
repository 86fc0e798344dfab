use Rattle.graphql_merging_tests.proofs.sets.numbers_are_joined_by_one_more.Given as goal

abbrev pub ghosts-join_one_more : goal.ghosts-join_one_more
ghosts-join_one_more g a = record { name = a.blank.name; parts = a.blank.parts }
