mod ChangeLemmas
