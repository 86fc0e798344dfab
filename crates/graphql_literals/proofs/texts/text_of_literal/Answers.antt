use Rattle.std.proofs.Common.{◌≡◌, take, rules}
use Rattle.graphql_literals.proofs.Utf8Lemmas.{prefix_edges, prefix_utf8}
use Rattle.graphql_literals.proofs.texts.text_of_literal.Goals as goal

pub returns-clause-found : goal.returns-clause-found
returns-clause-found c = λ is.
    let program = c.args.program.now in
    let literal = c.args.literal.now in
    let prefix = c.in-Some.prefix.now in
    let cut : prefix ≡ take literal.end program = search rules in
    c.text_of_bytes.ensures.found (c.in_ok-bytes.ensures.utf8 (prefix_utf8 program prefix literal cut is c.utf8.program) (prefix_edges program prefix literal cut is))
