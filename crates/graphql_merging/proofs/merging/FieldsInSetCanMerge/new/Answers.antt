use Rattle.std.proofs.Common.{ap, map, refl}
use Rattle.graphql_contents.specs.Documents.{document_in}
use Rattle.graphql_documents.specs.Selections.{fragments_of}
use Rattle.graphql_merging.proofs.MergedOperationLemmas.{nothing_merged}
use Rattle.graphql_merging.proofs.merging.FieldsInSetCanMerge.new.Goals as goal

pub returns-clause-sound : goal.returns-clause-sound
returns-clause-sound c kept =
    nothing_merged c.args.schema.now (fragments_of (document_in c.new.result)) _ (ap (map (λ o. o.now)) c.new-2.ensures.items) c.new-3.ensures.lists c.new-4.ensures.lists
    c.new-3.ensures.comparisons refl refl
