use Rattle.std.proofs.Common.{List, [], map, IsTrue, refl}
use Rattle.std.proofs.lemmas.Result.{IfOk-weaker}
use Rattle.graphql_documents.proofs.SelectionLemmas.{one_fragment_found}
use Rattle.graphql_documents.specs.Selections.{InExpandedSet, fragments_of, selections_of, fields_among}
use Rattle.graphql_nodes.specs.Names.{NameText}
use Rattle.graphql_documents.specs.Walks.{root_walk}
use Rattle.graphql_specification.specs.Subscriptions.{WalkedFields}
use Rattle.graphql_variables.specs.declared.walks.Walked.{Walked}
use Rattle.graphql_variables.proofs.WalkedLemmas.{listed_words, visited_inside}
use Rattle.graphql_variables.specs.WalkSteps.{VisitedFrom}
use Rattle.graphql_variables.proofs.walks.walk_selections.Goals as goal

pub returns-clause-listed : goal.returns-clause-listed
returns-clause-listed c =
    let fragments = fragments_of c.args.document.now in
    let set = c.args.selection_set.now in
    IfOk-weaker _ _ _ (λ walked. listed_words {P = VisitedFrom fragments root_walk set} {Q = InExpandedSet fragments set}
    (visited_inside fragments (one_fragment_found c.args.document.now) set)) c.over.ensures.listed

pub returns-clause-ordered : goal.returns-clause-ordered
returns-clause-ordered c =
    let fragments = fragments_of c.args.document.now in
    let Ordered = λ (walked : Walked). (visited : List NameText) × WalkedFields fragments [] (selections_of c.args.selection_set.now) (fields_among (map (λ s. s.now) walked.selections.items)) visited in
    IfOk-weaker _ _ (λ walked. IsTrue walked.complete → Ordered walked) (λ walked ordered done. ordered done refl) c.over.ensures.ordered
