use Rattle.graphql_merging_tests.proofs.sets.a_set_gets_the_numbers_of_another.Given as goal

abbrev pub ghosts-add_set : goal.ghosts-add_set
ghosts-add_set g a = record { name = a.blank.name; parts = a.blank.parts }
