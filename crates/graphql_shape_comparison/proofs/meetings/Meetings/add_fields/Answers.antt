use Rattle.std.proofs.Common.{◌≡◌, ◌∙◌, ◌++◌, [], ◌∷◌, refl, sym}
use Rattle.std.proofs.lemmas.List.Elements.{All-nil}
use Rattle.graphql_documents.proofs.ListLemmas.{done_next}
use Rattle.graphql_nodes.specs.Names.{NameText}
use Rattle.graphql_documents.specs.declared.documents.components.Component.{Component}
use Rattle.graphql_documents.specs.declared.documents.definitions.FieldDefinition.{FieldDefinition}
use Rattle.graphql_shape_comparison.specs.Shapes.{KnowsEntry}
use Rattle.graphql_change_kinds.proofs.TruthLemmas.{found_own}
use Rattle.graphql_shape_comparison.proofs.LearnsLemmas.{entry_more, learned_behind, learned_here, learned_whole}
use Rattle.graphql_shape_comparison.proofs.meetings.Meetings.add_fields.Goals as goal

pub loop-name-init : goal.loop-name-init
loop-name-init c = record {
  can_next = tt;
  is_finite = tt;
  done = [];
  all = refl;
  learned = learned_here (All-nil (λ (entry : NameText × Component FieldDefinition). KnowsEntry c.args.self.now.by_shape c.args.pair.old.now c.args.pair.new.now c.args.ty.now entry.0 entry.1));
}

pub loop-name-preserved : goal.loop-name-preserved
loop-name-preserved c =
    let done = c.loop-name.invariant.done in
    let x : NameText × Component FieldDefinition = (c.in-Some.name.now, c.in-Some.field.now) in
    record {
      can_next = tt;
      is_finite = tt;
      done = done ++ x ∷ [];
      all = done_next _ done c.loop-name.name-iterator c.next.new.self x c.loop-name.invariant.all c.in-Some.ensures.steps;
      learned = learned_behind (λ table (entry : NameText × Component FieldDefinition). KnowsEntry table c.args.pair.old.now c.args.pair.new.now c.args.ty.now entry.0 entry.1)
          (λ more entry knows. entry_more c.args.pair.old.now c.args.pair.new.now more c.args.ty.now entry.0 entry.1 knows) done x c.loop-name.invariant.learned c.in_ok-add_field.ensures;
    }

pub returns : goal.returns
returns c =
    let whole : c.args.fields.now.entries ≡ c.into_iter-name-iterator.result = cc in
    learned_whole (λ table (entry : NameText × Component FieldDefinition). KnowsEntry table c.args.pair.old.now c.args.pair.new.now c.args.ty.now entry.0 entry.1) c.args.fields.now.entries c.loop-name.invariant.done
    c.loop-name.name-iterator (whole ∙ c.loop-name.invariant.all) c.in-None.ensures.steps.0 c.loop-name.invariant.learned

pub add_field-requires : goal.add_field-requires
add_field-requires c =
    let x : NameText × Component FieldDefinition = (c.in-Some.name.now, c.in-Some.field.now) in
    let gives = c.into_iter-name-iterator.ensures.into_iter_gives in
    c.requires x.0 x.1 (found_own c.args.fields.now.entries c.loop-name.invariant.done c.loop-name.name-iterator x c.next.new.self (sym gives.0 ∙ c.loop-name.invariant.all) c.in-Some.ensures.steps gives.4)
