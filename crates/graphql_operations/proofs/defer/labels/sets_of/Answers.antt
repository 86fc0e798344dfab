use Rattle.std.proofs.Common.{◌≡◌, ◌++◌, [], ◌∷◌, Bor, List, map, rules, refl, ap, ◌∙◌}
use Rattle.std.proofs.lemmas.Iterator.{YieldsList-from_map_by, YieldsList-from_slice}
use Rattle.std.proofs.lemmas.Iterator.Consumers.{YieldsList-from_chain, YieldsList-from_rest, map_from_collect}
use Rattle.indexmap.specs.IndexMap.{values}
use Rattle.graphql_documents.specs.declared.documents.executables.Fragment.{Fragment}
use Rattle.graphql_documents.specs.declared.documents.executables.Operation.{Operation}
use Rattle.graphql_documents.specs.declared.documents.executables.SelectionSet.{SelectionSet}
use Rattle.graphql_nodes.specs.declared.nodes.Node.{Node}
use Rattle.graphql_operations.proofs.defer.labels.sets_of.Goals as goal

-- a map over references
mapped : {X Y : Type 0} (f : X → Y) (xs : List (Bor X)) → map (λ b. f b.now) xs ≡ map f (map (λ b. b.now) xs)
mapped f [] = refl
mapped f (x ∷ xs) = ap (λ l. f x.now ∷ l) (mapped f xs)

pub returns : goal.returns
returns c =
    let set_of = λ (o : Node Operation). o.value.value.selection_set in
    let of_fragments = map (λ (d : Node Fragment). d.value.value.selection_set) (values c.args.document.now.fragments) in
    let collected = map_from_collect c.collect.result c.collect.ensures.ran
    (YieldsList-from_chain {s = c.chain.result}
    (YieldsList-from_map_by _ (λ (s : Bor SelectionSet). s.now) (λ (o : Bor (Node Operation)). o.now.value.value.selection_set) (YieldsList-from_slice c.deref.result.now (cc)) (cc) (λ x r q k. search rules))
    (YieldsList-from_map_by _ (λ (s : Bor SelectionSet). s.now) (λ (d : Node Fragment). d.value.value.selection_set) (YieldsList-from_rest (values c.args.document.now.fragments) (cc)) (cc) (λ x r q k. search rules))
    (cc) (cc)) in
    let items : map (λ (s : Bor SelectionSet). s.now) c.in_ok-collect.field-0.items ≡ map (λ (o : Bor (Node Operation)). set_of o.now) c.deref.result.now ++ of_fragments = rw c.in_ok-collect.was at collected in
    let operations = ap (λ (l : List (Bor (Node Operation))). map (λ b. b.now) l) c.deref.ensures.value ∙ c.in_ok-operations.ensures in
    items ∙ ap (λ l. l ++ of_fragments) (mapped set_of c.deref.result.now ∙ ap (map set_of) operations)
