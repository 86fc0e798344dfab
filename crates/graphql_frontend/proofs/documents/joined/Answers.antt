use Rattle.std.proofs.Common.{◌++◌, ◌∙◌, ap, append_assoc, flat_map, sym}
use Rattle.graphql_trees.specs.declared.documents.Document.{Document}
use Rattle.graphql_frontend.proofs.documents.joined.Goals as goal

pub loop-document-preserved : goal.loop-document-preserved
loop-document-preserved c =
    let definitions_of = flat_map (λ (t : Document). t.definitions) in
    let old = c.loop-document.definitions in
    let more = c.in-Some.document.definitions in
    let rest = c.next.new.self.rest.items in
    let grown = c.in_ok-append.ensures ∙ ap (λ l. old ++ l) c.into_definitions.ensures in
    ap (λ l. l ++ definitions_of rest) grown ∙ append_assoc old more (definitions_of rest)
    ∙ ap (λ l. old ++ definitions_of l) (sym c.in-Some.ensures.steps.0) ∙ c.loop-document.invariant
