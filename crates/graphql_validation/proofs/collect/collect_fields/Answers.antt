use Rattle.std.proofs.Common.{◌∷◌, ◌++◌, ◌∙◌, [], Bor, List, ap, map, subst, sym, take}
use Rattle.std.proofs.lemmas.List.{map-append, take_all}
use Rattle.std.proofs.lemmas.Result.{MatchResult-weaker}
use Rattle.graphql_documents.specs.declared.documents.executables.SelectionSet.{SelectionSet}
use Rattle.graphql_documents.proofs.ListLemmas.{more_is}
use Rattle.graphql_field_conflicts.specs.FieldSelections.{listed}
use Rattle.graphql_merging.specs.Groups.{by_keys}
use Rattle.graphql_validation.specs.declared.collect.FieldCollection.{FieldCollection}
use Rattle.graphql_validation.specs.CollectionSteps.{WalksOver, visited_of, walks_none}
use Rattle.graphql_validation.proofs.CollectionLemmas.{collected_over, over_then}
use Rattle.graphql_validation.proofs.collect.collect_fields.Goals as goal

pub loop-set-init : goal.loop-set-init
loop-set-init c = record {
  fields = [];
  walks = subst (λ keys. WalksOver (record { schema = c.args.schema; document = c.args.document; object_type = c.args.object_type }) [] [] [] (map (λ b. b.now) keys)) (sym c.with_hasher.ensures.empty) walks_none;
  appended = ap listed c.new.ensures.items;
}

pub loop-set-preserved : goal.loop-set-preserved
loop-set-preserved c =
    let of : FieldCollection = record { schema = c.args.schema; document = c.args.document; object_type = c.args.object_type } in
    let xs = c.args.sets.now in
    let i = c.loop-set.set-index in
    let x = c.set-item.result in
    let before = c.loop-set.invariant in
    let m = c.in_ok-collect_set.ensures in
    let further = ap (λ (l : List (Bor SelectionSet)). map (λ s. s.now) l) (more_is xs i x c.loop-set-test.true c.set-item.is) ∙ map-append (λ s. s.now) (take i xs) (x ∷ []) in
    record {
      fields = before.fields ++ m.fields;
      walks = subst (λ l. WalksOver of l [] (before.fields ++ m.fields) (visited_of c.collect_set.new.found)) (sym further) (over_then of x.now before.walks m.walks);
      appended = m.appended ∙ ap (λ l. l ++ m.fields) before.appended;
    }

pub returns : goal.returns
returns c =
    let of : FieldCollection = record { schema = c.args.schema; document = c.args.document; object_type = c.args.object_type } in
    let before = c.loop-set.invariant in
    let all = ap (λ (l : List (Bor SelectionSet)). map (λ s. s.now) l) (take_all c.loop-set.set-index c.args.sets.now c.loop-set-test.false) in
    let walks = subst (λ l. WalksOver of l [] before.fields (visited_of c.loop-set.found)) all before.walks in
    MatchResult-weaker c.fields_by_key.result c.fields_by_key.ensures
    (λ found is. (before.fields, collected_over of walks, is ∙ ap by_keys (ap listed c.deref.ensures.value ∙ before.appended)))
    (λ e none. none)
