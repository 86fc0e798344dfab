use Rattle.std.proofs.Common.{◌≡◌, ◌∙◌, ◌++◌, [], ◌∷◌, refl, sym}
use Rattle.graphql_documents.proofs.ListLemmas.{done_next}
use Rattle.graphql_nodes.specs.Names.{NameText}
use Rattle.graphql_documents.specs.declared.documents.components.Component.{Component}
use Rattle.graphql_documents.specs.declared.documents.definitions.FieldDefinition.{FieldDefinition}
use Rattle.graphql_schema_comparison.specs.Comparisons.{KeepsFieldNamed}
use Rattle.graphql_change_kinds.proofs.TruthLemmas.{found_own}
use Rattle.graphql_change_kinds.proofs.FindsLemmas.{found_behind, found_none, found_whole}
use Rattle.graphql_schema_comparison.proofs.fields.compare_listed_fields.Goals as goal

pub loop-name-init : goal.loop-name-init
loop-name-init c = record { can_next = tt; is_finite = tt; done = []; all = refl; found = found_none (λ merging (entry : NameText × Component FieldDefinition). KeepsFieldNamed c.args.meetings.now.by_shape c.args.pair.old.now c.args.pair.new.now merging c.args.ty.now entry.0 entry.1) }

pub loop-name-preserved : goal.loop-name-preserved
loop-name-preserved c =
    let done = c.loop-name.invariant.done in
    let x : NameText × Component FieldDefinition = (c.in-Some.name.now, c.in-Some.field.now) in
    record {
      can_next = tt;
      is_finite = tt;
      done = done ++ x ∷ [];
      all = done_next _ done c.loop-name.name-iterator c.next.new.self x c.loop-name.invariant.all c.in-Some.ensures.steps;
      found = found_behind (λ merging (entry : NameText × Component FieldDefinition). KeepsFieldNamed c.args.meetings.now.by_shape c.args.pair.old.now c.args.pair.new.now merging c.args.ty.now entry.0 entry.1) done x c.loop-name.invariant.found c.in_ok-compare_own_field.ensures;
    }

pub returns : goal.returns
returns c =
    let whole : c.args.fields.now.entries ≡ c.into_iter-name-iterator.result = cc in
    found_whole (λ merging (entry : NameText × Component FieldDefinition). KeepsFieldNamed c.args.meetings.now.by_shape c.args.pair.old.now c.args.pair.new.now merging c.args.ty.now entry.0 entry.1) c.args.fields.now.entries c.loop-name.invariant.done
    c.loop-name.name-iterator (whole ∙ c.loop-name.invariant.all) c.in-None.ensures.steps.0 c.loop-name.invariant.found

pub compare_own_field-requires-clause-was : goal.compare_own_field-requires-clause-was
compare_own_field-requires-clause-was c =
    let x : NameText × Component FieldDefinition = (c.in-Some.name.now, c.in-Some.field.now) in
    let gives = c.into_iter-name-iterator.ensures.into_iter_gives in
    c.requires.was x.0 x.1 (found_own c.args.fields.now.entries c.loop-name.invariant.done c.loop-name.name-iterator x c.next.new.self (sym gives.0 ∙ c.loop-name.invariant.all) c.in-Some.ensures.steps gives.4)
