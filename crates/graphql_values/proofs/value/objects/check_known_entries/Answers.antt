use Rattle.std.proofs.Common.{rules}
use Rattle.graphql_diagnostics.proofs.ReportLemmas.{checks-push}
use Rattle.graphql_specification.specs.Values.{IsInputField, within_itself}
use Rattle.graphql_nodes.specs.Names.{NameText}
use Rattle.graphql_nodes.specs.declared.nodes.Node.{Node}
use Rattle.graphql_documents.specs.declared.documents.values.Value.{Value}
use Rattle.graphql_values.proofs.ObjectLemmas.{none_reported, not_all_known, unknown_entry}
use Rattle.graphql_values.proofs.value.objects.check_known_entries.Goals as goal

pub returns-then-not-contains_key : goal.returns-then-not-contains_key
returns-then-not-contains_key c = λ schema variables ty is.
    let o = c.args.input_object.now in
    let given = c.args.entries.now in
    let i = c.loop-name.name-index in
    let entry = c.loop-name-item.result in
    let unknown : ¬ IsInputField o.value.value entry.0 = search rules in
    checks-push _ _ _ _ _ _ (rw c.loop-name.invariant.unchanged at c.push.ensures.ok) (rw c.loop-name.invariant.unchanged at c.push.ensures.err)
    (not_all_known o given i entry c.loop-name-test.true c.loop-name-item.is unknown)
    (record {
      inner_ty = ty;
      inner = c.args.value.now;
      lies = within_itself;
      broken = unknown_entry o given i entry c.loop-name-test.true c.loop-name-item.is unknown schema ty.ty c.args.value.now is c.requires
          c.loop-name.invariant.known _ _ (search rules) (search rules);
    })

pub returns : goal.returns
returns c = λ schema variables ty is.
    none_reported (λ (entry : NameText × Node Value). IsInputField c.args.input_object.now.value.value entry.0) _ _ c.loop-name.name-index _ _ c.loop-name.invariant.unchanged c.loop-name-test.false c.loop-name.invariant.known
