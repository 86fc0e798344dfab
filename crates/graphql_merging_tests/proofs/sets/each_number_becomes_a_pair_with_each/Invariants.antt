use Rattle.graphql_merging_tests.proofs.sets.each_number_becomes_a_pair_with_each.Given as goal

abbrev pub ghosts-add_pairs : goal.ghosts-add_pairs
ghosts-add_pairs g a = record { name = a.blank.name; parts = a.blank.parts }
