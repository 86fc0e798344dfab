use Rattle.graphql_pair_merging.proofs.merging.merge_by_pairs_within.Given as goal

abbrev pub ghosts-merge_by_pairs_uncounted : goal.ghosts-merge_by_pairs_uncounted
ghosts-merge_by_pairs_uncounted a = record { name = a.blank.name; parts = a.blank.parts }
