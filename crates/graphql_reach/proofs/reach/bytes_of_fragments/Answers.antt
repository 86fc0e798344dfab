use Rattle.std.proofs.Common.{◌≡◌, ◌∷◌, ℕ, arith, sum_by, ap, map}
use Rattle.std.proofs.lemmas.List.Sums.{sum_by-cons}
use Rattle.graphql_reach.proofs.CountLemmas.{sum_of_values}
use Rattle.graphql_nodes.specs.declared.nodes.Node.{Node}
use Rattle.graphql_documents.specs.declared.documents.executables.Fragment.{Fragment}
use Rattle.graphql_reach.specs.Reach.{bytes_at}
use Rattle.graphql_reach.proofs.reach.bytes_of_fragments.Goals as goal

abbrev node_bytes : Node Fragment → ℕ
node_bytes d = bytes_at d.location

pub loop-fragment-init : goal.loop-fragment-init
loop-fragment-init c =
    let is : c.into_iter-fragment-iterator.result ≡ map (λ e. e.1) c.args.document.now.fragments.entries = cc in
    omega (arith, ap (sum_by node_bytes) is, sum_of_values c.args.document.now.fragments.entries)

pub loop-fragment-preserved : goal.loop-fragment-preserved
loop-fragment-preserved c =
    let is : c.loop-fragment.fragment-iterator ≡ c.in-Some.fragment.now ∷ c.next.new.self = c.in-Some.ensures.steps in
    omega (arith, c.in_ok-bytes.ensures, c.loop-fragment.invariant, ap (sum_by node_bytes) is, sum_by-cons node_bytes c.in-Some.fragment.now c.next.new.self, c.bytes_at.ensures)

pub returns : goal.returns
returns c = omega (arith, c.loop-fragment.invariant, ap (sum_by node_bytes) c.in-None.ensures.steps.0)
