mod LevelLemmas
