use Rattle.std.proofs.Common.{◌≡◌, ◌∙◌, ap, subst}
use Rattle.std.specs.Prelude.{IfOk, MatchOption}
use Rattle.graphql_documents.specs.Executables.{operations_of}
use Rattle.graphql_reach.specs.Reach.{IsFirstToPass, ReachAtMost, nodes_at}
use Rattle.graphql_reach.proofs.ReachLemmas.{answer_is_exact}
use Rattle.graphql_reach.proofs.reach.check_reach.Goals as goal

pub returns : goal.returns
returns c =
    let d = c.args.document.now in
    let r = c.check_operations.result in
    let all : nodes_at c.deref-2.result.now ≡ operations_of d = ap nodes_at c.deref-2.ensures.value ∙ c.in_ok-operations.ensures in
    let found = subst (λ l. IfOk r (λ found. MatchOption found (ReachAtMost d l c.args.most) (IsFirstToPass c.args.most d l))) all c.check_operations.ensures in
    record { found = found; exact = answer_is_exact d c.args.most (operations_of d) r found }
