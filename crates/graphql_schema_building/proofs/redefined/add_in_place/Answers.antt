use Rattle.std.proofs.Common.{◌++◌, ◌∷◌, ◌∙◌, [], ap, sym, map, take}
use Rattle.std.proofs.lemmas.List.{append-nil, append_assoc, map-append}
use Rattle.graphql_repetitions.specs.References.{nows}
use Rattle.graphql_repetitions.proofs.ReferenceLemmas.{nows_all, nows_more}
use Rattle.graphql_schema_building.specs.SchemaSays.{in_place_of}
use Rattle.graphql_schema_building.proofs.redefined.add_in_place.Goals as goal

pub loop-directive-init : goal.loop-directive-init
loop-directive-init c = λ all f. sym (append-nil (nows c.args.said.now.items))

pub loop-directive-preserved : goal.loop-directive-preserved
loop-directive-preserved c = λ all f.
    let xs = c.args.built_in.now in
    let i = c.loop-directive.directive-index in
    let x = c.directive-item.result in
    let old = nows c.args.said.now.items in
    let placed = c.in_place_of.result in
    ap nows c.in_ok-push.ensures.items ∙ map-append (λ r. r.now) c.loop-directive.said.items (placed ∷ []) ∙
    ap (λ l. l ++ placed.now ∷ []) (c.loop-directive.invariant all f) ∙
    append_assoc old (map (in_place_of all) (nows (take i xs))) (placed.now ∷ []) ∙
    ap (λ y. old ++ (map (in_place_of all) (nows (take i xs)) ++ y ∷ [])) (c.in_place_of.ensures all f) ∙
    ap (λ l. old ++ l)
    (sym (map-append (in_place_of all) (nows (take i xs)) (x.now ∷ [])) ∙ ap (map (in_place_of all)) (sym (nows_more xs i x c.loop-directive-test.true c.directive-item.is)))

pub returns : goal.returns
returns c = λ all f.
    c.loop-directive.invariant all f ∙
    ap (λ l. nows c.args.said.now.items ++ map (in_place_of all) l) (nows_all c.args.built_in.now c.loop-directive.directive-index c.loop-directive-test.false)
