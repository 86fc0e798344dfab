use Rattle.std.proofs.Common.{◌∙◌, Bool, ap, arith, get_or, if◌then◌else◌, length}
use Rattle.graphql_blanks.specs.Blanks.{blank_byte}
use Rattle.graphql_literals.proofs.BlankLemmas.{same_within}
use Rattle.graphql_literals.proofs.texts.blank_within.Goals as goal

pub returns-clause-each : goal.returns-clause-each
returns-clause-each c = λ k h.
    let b = get_or c.args.bytes.now k 0 in
    c.loop-k.invariant.each k
    ∙ ap (λ (it : Bool). if it then blank_byte b else b)
    (same_within c.args.part.start c.args.part.end k c.loop-k.k c.min-k-end.result (length c.args.bytes.now) h c.min-k-end.ensures (omega arith) c.loop-k.invariant.few)
