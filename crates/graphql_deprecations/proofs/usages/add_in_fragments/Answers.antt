use Rattle.std.proofs.Common.{◌≡◌, subst}
use Rattle.std.specs.Prelude.{List}
use Rattle.indexmap.specs.IndexMap.{values}
use Rattle.graphql_nodes.specs.declared.nodes.Node.{Node}
use Rattle.graphql_documents.specs.declared.documents.executables.Fragment.{Fragment}
use Rattle.graphql_deprecations.specs.Deprecations.{Usage}
use Rattle.graphql_deprecations.specs.InOrder.{Adds, FragmentUses}
use Rattle.graphql_deprecations.proofs.AddLemmas.{walk_begins, walk_ends, walk_goes_on}
use Rattle.graphql_deprecations.proofs.usages.add_in_fragments.Goals as goal

pub loop-fragment-init : goal.loop-fragment-init
loop-fragment-init c =
    let Of : Node Fragment → List Usage → Type 0 = λ x. FragmentUses c.args.schema.now x.value.value in
    let all = values c.args.fragments.now in
    let same : all ≡ c.into_iter-fragment-iterator.result = cc in
    record { can_next = tt; is_finite = tt; walk = walk_begins Of all c.into_iter-fragment-iterator.result c.args.found.now.items same }

pub loop-fragment-preserved : goal.loop-fragment-preserved
loop-fragment-preserved c =
    let Of : Node Fragment → List Usage → Type 0 = λ x. FragmentUses c.args.schema.now x.value.value in
    let mid = c.loop-fragment.found.items in
    let new = c.add_in_fragment.new.found.items in
    record {
      can_next = tt;
      is_finite = tt;
      walk = walk_goes_on Of (values c.args.fragments.now) c.loop-fragment.fragment-iterator c.next.new.self c.in-Some.fragment.now c.in-Some.ensures.steps c.loop-fragment.invariant.walk
          (subst (λ x. Adds (FragmentUses c.args.schema.now x) mid new) c.deref.ensures c.in_ok-add_in_fragment.ensures);
    }

pub returns : goal.returns
returns c =
    let Of : Node Fragment → List Usage → Type 0 = λ x. FragmentUses c.args.schema.now x.value.value in
    walk_ends Of (values c.args.fragments.now) c.loop-fragment.fragment-iterator c.in-None.ensures.steps.0 c.loop-fragment.invariant.walk
