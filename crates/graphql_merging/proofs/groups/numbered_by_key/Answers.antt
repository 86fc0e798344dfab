use Rattle.std.proofs.Common.{ap, arith, fold, sym, [], ◌∙◌}
use Rattle.std.proofs.lemmas.List.{take_all}
use Rattle.std.proofs.lemmas.List.Elements.{All-contains}
use Rattle.graphql_documents.specs.Selections.{response_key}
use Rattle.graphql_merging.specs.NumberedFields.{IsNumberedIn, listed, selection_of}
use Rattle.graphql_merging.specs.Groups.{with_field, with_keyed}
use Rattle.graphql_merging.specs.NumberedGroups.{named_fields}
use Rattle.graphql_merging.proofs.NumberedGroupLemmas.{fold_more}
use Rattle.graphql_merging.proofs.GroupLemmas.{keyed}
use Rattle.graphql_merging.proofs.groups.numbered_by_key.Goals as goal

pub returns-clause-found : goal.returns-clause-found
returns-clause-found g c =
    c.loop-field.invariant.found ∙
    ap (λ fields. fold with_keyed [] (listed fields)) (take_all c.loop-field.field-index c.args.fields.now c.loop-field-test.false) ∙
    keyed (listed c.args.fields.now)

pub loop-field-preserved : goal.loop-field-preserved
loop-field-preserved g c =
    let x = c.field-item.result in
    let before = c.loop-field.invariant in
    let e = c.in_ok-push_under.ensures in
    let known = named_fields c.loop-field.fields_by_key.entries in
    record {
      found = e.found ∙ ap (λ n. with_field known n (selection_of x)) (c.response_key.ensures ∙ ap response_key c.deref.ensures) ∙
          ap (λ known. with_keyed known (selection_of x)) before.found ∙
          fold_more with_keyed [] c.args.fields.now c.loop-field.field-index x c.loop-field-test.true c.field-item.is;
      numbered = λ contents all. e.numbered contents (before.numbered contents all)
          (All-contains (IsNumberedIn contents) c.args.fields.now x all (c.loop-field.field-index, c.loop-field-test.true, sym c.field-item.is));
      steps = omega (arith, before.steps, c.take.ensures);
    }
