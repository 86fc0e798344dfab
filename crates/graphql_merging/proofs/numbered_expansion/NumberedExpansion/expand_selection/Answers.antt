use Rattle.std.proofs.Common.{◌++◌, ◌∷◌, [], ap, map, refl, subst, sym, ◌∙◌}
use Rattle.std.proofs.lemmas.List.{map-append}
use Rattle.graphql_contents.specs.Contents.{AreNumbered}
use Rattle.graphql_contents.specs.Documents.{contents_in}
use Rattle.graphql_contents.specs.declared.documents.NumberedSet.{NumberedSet}
use Rattle.graphql_documents.specs.Selections.{selections_of}
use Rattle.graphql_documents.specs.declared.documents.executables.InlineFragment.{InlineFragment}
use Rattle.graphql_merging.specs.NumberedExpansions.{expanding}
use Rattle.graphql_merging.specs.NumberedFields.{listed, selection_of}
use Rattle.graphql_merging.proofs.ExpansionStepLemmas.{field_expands, inline_expands}
use Rattle.graphql_merging.proofs.NumberedFieldLemmas.{field_numbered, inline_set_numbered, set_numbered}
use Rattle.graphql_merging.proofs.numbered_expansion.NumberedExpansion.expand_selection.Goals as goal

pub returns-in_ok-push-in-Field-clause-expands : goal.returns-in_ok-push-in-Field-clause-expands
returns-in_ok-push-in-Field-clause-expands c =
    let old = c.args.self.now in
    let fields = ap listed c.in_ok-push-in-Field.ensures.items ∙ map-append selection_of old.fields.items _ in
    field_expands c.args.parent_type.now c.in-Field.field c.in-Field.is refl fields refl refl

pub returns-in_ok-push-in-Field-clause-numbers : goal.returns-in_ok-push-in-Field-clause-numbers
returns-in_ok-push-in-Field-clause-numbers c =
    let old = c.args.self.now in
    record {
      fields = field_numbered (contents_in old.numbered.now) old.fields.items _ _ c.args.selection.now c.in_ok-push-in-Field.ensures.items c.in-Field.is c.requires.content c.requires.numbers.fields;
      queue = c.requires.numbers.queue;
    }

pub returns-in_ok-push_back-in-InlineFragment-clause-expands : goal.returns-in_ok-push_back-in-InlineFragment-clause-expands
returns-in_ok-push_back-in-InlineFragment-clause-expands c =
    let old = c.args.self.now in
    let queue = ap (map (λ (s : NumberedSet). s.set.now)) c.in_ok-push_back-in-InlineFragment.ensures.items ∙ map-append (λ (s : NumberedSet). s.set.now) old.queue.items _ ∙
    ap (λ (i : InlineFragment). (expanding old).queue ++ i.selection_set ∷ []) c.deref.ensures in
    inline_expands c.args.parent_type.now c.in-InlineFragment.inline c.in-InlineFragment.is refl refl refl queue

pub returns-in_ok-push_back-in-InlineFragment-clause-numbers : goal.returns-in_ok-push_back-in-InlineFragment-clause-numbers
returns-in_ok-push_back-in-InlineFragment-clause-numbers c =
    let old = c.args.self.now in
    let contents = contents_in old.numbered.now in
    let i = c.in-InlineFragment.inline in
    record {
      fields = c.requires.numbers.fields;
      queue = set_numbered contents old.queue.items _ _ c.in_ok-push_back-in-InlineFragment.ensures.items
          (subst (λ (x : InlineFragment). AreNumbered contents (selections_of x.selection_set) c.nested.result.now) (sym c.deref.ensures)
          (inline_set_numbered contents c.args.selection.now i c.nested.result.now c.in-InlineFragment.is (c.nested.ensures c.args.selection.now c.requires.content)))
          c.requires.numbers.queue;
    }
