use Rattle.graphql_validation.proofs.CollectedFieldLemmas.{agree_under_key}
use Rattle.graphql_validation.proofs.laws.fields_under_one_key_agree.Goals as goal

pub returns : goal.returns
returns c schema document operation built stands merges path object sets gathered fields walk key x y in_x in_y =
    agree_under_key schema document built operation stands merges path object sets gathered fields walk key x y in_x in_y
