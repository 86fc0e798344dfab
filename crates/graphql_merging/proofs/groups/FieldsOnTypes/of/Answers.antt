use Rattle.std.proofs.Common.{ap, arith, fold, sym, [], ◌∷◌, ◌++◌, ◌∙◌}
use Rattle.std.proofs.lemmas.List.{take_all}
use Rattle.std.proofs.lemmas.List.Elements.{All-contains}
use Rattle.graphql_documents.specs.Schemas.{type_definition}
use Rattle.graphql_specification.specs.MergedSets.{is_abstract, with_parents}
use Rattle.graphql_specification.specs.Merging as merging
use Rattle.graphql_merging.specs.NumberedFields.{IsNumberedIn, listed, selection_of}
use Rattle.graphql_merging.specs.Groups.{with_owned}
use Rattle.graphql_merging.proofs.GroupLemmas.{owned}
use Rattle.graphql_merging.proofs.NumberedGroupLemmas.{filter_more, fold_more}
use Rattle.graphql_merging.proofs.groups.FieldsOnTypes.of.Goals as goal

pub returns-clause-objects : goal.returns-clause-objects
returns-clause-objects g c =
    c.loop-field.invariant.objects ∙
    ap (λ fields. fold (with_owned c.args.schema.now) [] (listed fields))
    (take_all c.loop-field.field-index c.args.fields.now c.loop-field-test.false) ∙
    owned c.args.schema.now (listed c.args.fields.now)

pub loop-field-preserved : goal.loop-field-preserved
loop-field-preserved g c =
    let schema = c.args.schema.now in
    let fields = c.args.fields.now in
    let x = c.field-item.result in
    let i = c.loop-field.field-index in
    let before = c.loop-field.invariant in
    let e = c.in_ok-add.ensures in
    let abstract_in = λ (y : merging.FieldSelection). is_abstract (type_definition schema y.parent) in
    record {
      objects = e.objects ∙ ap (λ known. with_owned schema known (selection_of x)) before.objects ∙
          fold_more (with_owned schema) [] fields i x c.loop-field-test.true c.field-item.is;
      on_abstract = e.on_abstract ∙ ap (λ l. l ++ with_parents schema is_abstract (selection_of x ∷ [])) before.on_abstract ∙
          filter_more abstract_in fields i x c.loop-field-test.true c.field-item.is;
      numbered = λ contents all.
          let held = before.numbered contents all in
          e.numbered contents held.0 held.1 (All-contains (IsNumberedIn contents) fields x all (i, c.loop-field-test.true, sym c.field-item.is));
      few = omega (arith, before.few, e.few);
      steps = omega (arith, before.steps, c.take.ensures);
    }
