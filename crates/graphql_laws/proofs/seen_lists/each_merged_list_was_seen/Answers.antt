use Rattle.graphql_laws.proofs.SeenMergedLaws.{merged_was_seen}
use Rattle.graphql_laws.proofs.seen_lists.each_merged_list_was_seen.Goals as goal

pub returns : goal.returns
returns c schema document operations pass seen has fields merged =
    let w = merged_was_seen document schema operations seen has merged in
    (w.known, w.is_seen, w.same_fields)
