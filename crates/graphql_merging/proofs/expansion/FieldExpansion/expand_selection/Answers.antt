use Rattle.std.proofs.Common.{◌++◌, ◌∷◌, [], Bor, map, refl, ap, ◌∙◌}
use Rattle.std.proofs.lemmas.List.{map-append}
use Rattle.graphql_documents.specs.declared.documents.executables.InlineFragment.{InlineFragment}
use Rattle.graphql_documents.specs.declared.documents.executables.SelectionSet.{SelectionSet}
use Rattle.graphql_merging.specs.ExpansionSteps.{expanding}
use Rattle.graphql_field_conflicts.specs.FieldSelections.{listed, selection_of}
use Rattle.graphql_merging.proofs.ExpansionStepLemmas.{field_expands, inline_expands}
use Rattle.graphql_merging.proofs.expansion.FieldExpansion.expand_selection.Goals as goal

pub returns-in_ok-push-in-Field : goal.returns-in_ok-push-in-Field
returns-in_ok-push-in-Field c =
    let old = c.args.self.now in
    let fields = ap listed c.in_ok-push-in-Field.ensures.items ∙ map-append selection_of old.fields.items _ in
    field_expands c.args.parent_type.now c.in-Field.field c.in-Field.is refl fields refl refl

pub returns-in_ok-push_back-in-InlineFragment : goal.returns-in_ok-push_back-in-InlineFragment
returns-in_ok-push_back-in-InlineFragment c =
    let old = c.args.self.now in
    let queue = ap (map (λ (set : Bor SelectionSet). set.now)) c.in_ok-push_back-in-InlineFragment.ensures.items ∙ map-append (λ (set : Bor SelectionSet). set.now) old.queue.items _ ∙
    ap (λ (i : InlineFragment). (expanding old).queue ++ i.selection_set ∷ []) c.deref.ensures in
    inline_expands c.args.parent_type.now c.in-InlineFragment.inline c.in-InlineFragment.is refl refl refl queue
