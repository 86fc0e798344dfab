use Rattle.std.proofs.Common.{◌++◌, ◌∷◌, ◌∙◌, [], ap, sym, take}
use Rattle.std.specs.Prelude.{filter, not}
use Rattle.std.specs.List.{list_any}
use Rattle.std.proofs.lemmas.List.{append-nil, append_assoc}
use Rattle.std.proofs.lemmas.List.Elements.{filter-append}
use Rattle.graphql_nodes.specs.Names.{same_name}
use Rattle.graphql_trees.specs.declared.type_system.DirectiveDefinition.{DirectiveDefinition}
use Rattle.graphql_repetitions.specs.References.{nows}
use Rattle.graphql_repetitions.proofs.ReferenceLemmas.{nows_all, nows_more}
use Rattle.graphql_schema_building.proofs.redefined.add_others.Goals as goal

pub loop-directive-init : goal.loop-directive-init
loop-directive-init c = λ all f. sym (append-nil (nows c.args.said.now.items))

pub loop-directive-preserved : goal.loop-directive-preserved
loop-directive-preserved c = λ all f.
    let xs = c.args.own.now in
    let i = c.loop-directive.directive-index in
    let x = c.directive-item.result in
    let old = nows c.args.said.now.items in
    let is_new = λ (o : DirectiveDefinition). not (list_any (λ (d : DirectiveDefinition). same_name d.name o.name) all) in
    c.in_ok-add_other.ensures all f ∙
    ap (λ l. l ++ filter is_new (x.now ∷ [])) (c.loop-directive.invariant all f) ∙
    append_assoc old (filter is_new (nows (take i xs))) (filter is_new (x.now ∷ [])) ∙
    ap (λ l. old ++ l)
    (sym (filter-append is_new (nows (take i xs)) (x.now ∷ [])) ∙ ap (filter is_new) (sym (nows_more xs i x c.loop-directive-test.true c.directive-item.is)))

pub returns : goal.returns
returns c = λ all f.
    let is_new = λ (o : DirectiveDefinition). not (list_any (λ (d : DirectiveDefinition). same_name d.name o.name) all) in
    c.loop-directive.invariant all f ∙
    ap (λ l. nows c.args.said.now.items ++ filter is_new l) (nows_all c.args.own.now c.loop-directive.directive-index c.loop-directive-test.false)
