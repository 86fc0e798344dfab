use Rattle.std.proofs.Common.{◌≡◌}
use Rattle.indexmap.specs.IndexMap.{values}
use Rattle.graphql_documents.specs.declared.documents.schemas.ExtendedType.{ExtendedType}
use Rattle.graphql_documents.specs.declared.documents.values.Value.{Value}
use Rattle.graphql_input_rules.specs.SchemaValues.{TypeWrites}
use Rattle.graphql_input_rules.proofs.PlaceLemmas.{walk_begins, walk_ends, walk_goes_on, walk_refused}
use Rattle.graphql_input_rules.proofs.schema_input_fields.check_types.Goals as goal

abbrev In : ExtendedType → Value → Type 0
In t v = TypeWrites t v

pub loop-definition-init : goal.loop-definition-init
loop-definition-init c =
    let all = values c.args.types.now in
    let same : all ≡ c.into_iter-definition-iterator.result = cc in
    record { can_next = tt; is_finite = tt; walk = walk_begins In all c.into_iter-definition-iterator.result c.args.reports.now.kept.items same }

pub loop-definition-preserved : goal.loop-definition-preserved
loop-definition-preserved c =
    let all = values c.args.types.now in
    let mid = c.loop-definition.reports.kept.items in
    let new = c.check_type.new.reports.kept.items in
    record {
      can_next = tt;
      is_finite = tt;
      walk = walk_goes_on In all c.loop-definition.definition-iterator c.next.new.self c.in-Some.definition.now c.args.reports.now.kept.items mid new c.in-Some.ensures.steps c.loop-definition.invariant.walk
          c.in_ok-check_type.ensures;
    }

pub returns-in_err-check_type : goal.returns-in_err-check_type
returns-in_err-check_type c =
    let all = values c.args.types.now in
    let mid = c.loop-definition.reports.kept.items in
    let new = c.check_type.new.reports.kept.items in
    walk_refused In all c.loop-definition.definition-iterator c.next.new.self c.in-Some.definition.now c.args.reports.now.kept.items mid new c.in-Some.ensures.steps c.loop-definition.invariant.walk
    c.from_residual.result c.from_residual.ensures.0
    c.in_err-check_type.ensures

pub returns : goal.returns
returns c = walk_ends In (values c.args.types.now) c.loop-definition.definition-iterator c.args.reports.now.kept.items c.loop-definition.reports.kept.items c.in-None.ensures.steps.0 c.loop-definition.invariant.walk
