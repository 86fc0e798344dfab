use Rattle.graphql_tokens.proofs.LexingLemmas.{scan_only}
use Rattle.graphql_tokens.proofs.lexer.tokens.Goals as goal

pub returns-in-End-clause-only : goal.returns-in-End-clause-only
returns-in-End-clause-only c = λ others w within.
    (scan_only c.args.bound c.args.text.now c.in-Ok.scanned.tokens.items others c.in-Ok.scanned.stop c.in-Ok.ensures w within).1

pub returns-in-NoToken-clause-only : goal.returns-in-NoToken-clause-only
returns-in-NoToken-clause-only c = λ others w within.
    let end = (scan_only c.args.bound c.args.text.now c.in-Ok.scanned.tokens.items others c.in-Ok.scanned.stop c.in-Ok.ensures w within).0 in
    absurd (let is = c.in-NoToken.is in let h : ⊥ = cc in h)

pub returns-in-TooMany-clause-only : goal.returns-in-TooMany-clause-only
returns-in-TooMany-clause-only c = λ others w within.
    let end = (scan_only c.args.bound c.args.text.now c.in-Ok.scanned.tokens.items others c.in-Ok.scanned.stop c.in-Ok.ensures w within).0 in
    absurd (let is = c.in-TooMany.is in let h : ⊥ = cc in h)
