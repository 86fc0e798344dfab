use Rattle.graphql_composite_comparison.proofs.ListedLemmas.{implements_listed}
use Rattle.std.proofs.Common.{◌≡◌, ◌∙◌, All, subst, sym, List, Contains}
use Rattle.std.specs.Prelude.{IsTrue}
use Rattle.std.proofs.lemmas.List.Elements.{All-weaker}
use Rattle.graphql_documents.specs.Schemas.{IsSubtype, is_object_type}
use Rattle.graphql_documents.specs.declared.documents.components.ComponentName.{ComponentName}
use Rattle.graphql_change_kinds.proofs.FindsLemmas.{found_all_of, found_more, found_none, found_words}
use Rattle.graphql_composite_comparison.proofs.composites.compare_old_interfaces.Goals as goal

pub loop-listed-init : goal.loop-listed-init
loop-listed-init c = found_none (λ merging (x : ComponentName). IsTrue c.is_object_type-is_object.result → IsSubtype c.args.pair.new.now x.name c.args.ty.now)

pub loop-listed-preserved : goal.loop-listed-preserved
loop-listed-preserved c =
    found_more (λ merging (x : ComponentName). IsTrue c.is_object_type-is_object.result → IsSubtype c.args.pair.new.now x.name c.args.ty.now) c.implements_interfaces-listed-items.result.now c.loop-listed.listed-index c.listed-item.result c.loop-listed-test.true c.listed-item.is
    c.loop-listed.invariant c.in_ok-compare_old_interface.ensures

pub returns : goal.returns
returns c =
    let object : c.is_object_type-is_object.result ≡ is_object_type c.args.old.now = c.is_object_type-is_object.ensures in
    let items = c.implements_interfaces-listed-items.result.now in
    found_words (λ merging all is. subst (All (λ (x : ComponentName). IsSubtype c.args.pair.new.now x.name c.args.ty.now)) c.implements_interfaces-listed-items.ensures
    (All-weaker (λ (x : ComponentName). IsTrue c.is_object_type-is_object.result → IsSubtype c.args.pair.new.now x.name c.args.ty.now)
    (λ (x : ComponentName). IsSubtype c.args.pair.new.now x.name c.args.ty.now) (λ x keeps. keeps (object ∙ is)) items all))
    (found_all_of (λ merging (x : ComponentName). IsTrue c.is_object_type-is_object.result → IsSubtype c.args.pair.new.now x.name c.args.ty.now) items
    c.loop-listed.listed-index c.loop-listed-test.false c.loop-listed.invariant)

pub compare_old_interface-requires-clause-was : goal.compare_old_interface-requires-clause-was
compare_old_interface-requires-clause-was c =
    implements_listed c.args.pair.old.now c.args.ty.now c.args.old.now c.requires.was c.listed-item.result
    (subst (λ (l : List ComponentName). Contains l c.listed-item.result) c.implements_interfaces-listed-items.ensures
    (c.loop-listed.listed-index, c.loop-listed-test.true, sym c.listed-item.is))

pub compare_old_interface-requires-clause-object : goal.compare_old_interface-requires-clause-object
compare_old_interface-requires-clause-object c = λ is. (c.args.old.now, c.requires.was, sym c.is_object_type-is_object.ensures ∙ is)
