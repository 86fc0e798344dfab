use Rattle.graphql_merging.specs.Mergers.{document_of, merging_of, schema_of}
use Rattle.graphql_merging.proofs.MergedOperationLemmas.{conflicts_decide}
use Rattle.graphql_merging.proofs.laws.conflicts_decide_whether_operations_merge.Goals as goal

pub returns : goal.returns
returns c m built own sound kept shallow =
    conflicts_decide (schema_of m) (document_of m) (merging_of m) built own (sound kept) shallow
