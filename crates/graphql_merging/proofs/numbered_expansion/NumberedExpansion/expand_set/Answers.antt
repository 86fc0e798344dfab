use Rattle.std.proofs.Common.{◌<◌, Bor, arith, get_or, length, refl, subst, sym, ◌∙◌}
use Rattle.std.proofs.lemmas.List.{take_all}
use Rattle.std.proofs.lemmas.Slice.Zip.{AllZip-long}
use Rattle.graphql_contents.specs.Contents.{AreNumbered, HasNumber}
use Rattle.graphql_contents.specs.Documents.{HasFragments, contents_in}
use Rattle.graphql_contents.specs.declared.documents.NumberedDocument.{NumberedDocument}
use Rattle.graphql_documents.specs.Selections.{selections_of}
use Rattle.graphql_documents.proofs.ListLemmas.{more_is}
use Rattle.graphql_merging.specs.ExpansionSteps.{Expands}
use Rattle.graphql_merging.specs.NumberedExpansions.{HasNumbers, expanding}
use Rattle.graphql_merging.proofs.ExpansionStepLemmas.{expands_none, expands_then}
use Rattle.graphql_merging.proofs.NumberedFieldLemmas.{number_at}
use Rattle.graphql_merging.proofs.numbered_expansion.NumberedExpansion.expand_set.Goals as goal

pub loop-index-init : goal.loop-index-init
loop-index-init g c = record { document = refl; expands = expands_none (expanding c.args.self.now) c.args.set.set.now.ty; numbers = c.requires.numbers; steps = omega arith }

pub bounds-set-index : goal.bounds-set-index
bounds-set-index g c =
    let set = c.args.set in
    let long = AllZip-long (HasNumber (contents_in c.args.self.now.numbered.now)) (selections_of set.set.now) set.contents.now c.requires.set in
    subst (λ n. c.loop-index.index < n) (sym long) (subst (λ l. c.loop-index.index < length l) c.deref-selection-items.ensures.value c.loop-index-test.true)

pub expand_selection-requires-clause-fragments : goal.expand_selection-requires-clause-fragments
expand_selection-requires-clause-fragments g c = subst (λ (n : Bor NumberedDocument). HasFragments n.now) (sym c.loop-index.invariant.document) c.requires.fragments

pub expand_selection-requires-clause-numbers : goal.expand_selection-requires-clause-numbers
expand_selection-requires-clause-numbers g c =
    subst (λ (n : Bor NumberedDocument). HasNumbers (contents_in n.now) c.loop-index.self) (sym c.loop-index.invariant.document) c.loop-index.invariant.numbers

pub expand_selection-requires-clause-content : goal.expand_selection-requires-clause-content
expand_selection-requires-clause-content g c =
    let set = c.args.set in
    let contents = contents_in c.args.self.now.numbered.now in
    let items = c.deref-selection-items.ensures.value in
    subst (λ (n : Bor NumberedDocument). HasNumber (contents_in n.now) c.selection-item.result (get_or set.contents.now c.loop-index.index 0)) (sym c.loop-index.invariant.document)
    (number_at contents c.deref-selection-items.result.now set.contents.now c.loop-index.index c.selection-item.result
    (subst (λ l. AreNumbered contents l set.contents.now) (sym items) c.requires.set) c.loop-index-test.true c.selection-item.is)

pub returns-in_err-expand_selection-clause-document : goal.returns-in_err-expand_selection-clause-document
returns-in_err-expand_selection-clause-document g c = c.expand_selection.ensures.document ∙ c.loop-index.invariant.document

pub loop-index-preserved : goal.loop-index-preserved
loop-index-preserved g c =
    let before = c.loop-index.invariant in
    let e = c.in_ok-expand_selection.ensures in
    record {
      document = e.document ∙ before.document;
      expands = subst (Expands (expanding c.args.self.now) (expanding c.expand_selection.new.self) c.args.set.set.now.ty)
          (sym (more_is c.deref-selection-items.result.now c.loop-index.index c.selection-item.result c.loop-index-test.true c.selection-item.is))
          (expands_then before.expands e.expands);
      numbers = subst (λ (n : Bor NumberedDocument). HasNumbers (contents_in n.now) c.expand_selection.new.self) before.document e.numbers;
      steps = omega (arith, before.steps, c.take.ensures);
    }

pub returns-clause-document : goal.returns-clause-document
returns-clause-document g c = c.loop-index.invariant.document

pub returns-clause-expands : goal.returns-clause-expands
returns-clause-expands g c =
    subst (Expands (expanding c.args.self.now) (expanding c.loop-index.self) c.args.set.set.now.ty)
    (take_all c.loop-index.index c.deref-selection-items.result.now c.loop-index-test.false ∙ c.deref-selection-items.ensures.value) c.loop-index.invariant.expands

pub returns-clause-numbers : goal.returns-clause-numbers
returns-clause-numbers g c = c.loop-index.invariant.numbers
