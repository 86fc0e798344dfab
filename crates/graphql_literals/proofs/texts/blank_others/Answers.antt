use Rattle.std.proofs.Common.{◌∙◌, ap, arith, subst, sym, All, get_or}
use Rattle.graphql_literals.specs.Literals.{blank_in_any, HasAsciiEnds}
use Rattle.graphql_literals.proofs.BlankLemmas.{own_byte}
use Rattle.graphql_literals.proofs.Utf8Lemmas.{before_keeps_utf8, holes_kept}
use Rattle.graphql_literals.proofs.texts.blank_others.Goals as goal

pub returns-clause-text : goal.returns-clause-text
returns-clause-text c =
    let literal = c.args.literal.now in
    record {
      long = c.blank_holes.ensures.long ∙ c.blank_within.ensures.long ∙ c.requires;
      each = λ k below.
          c.blank_holes.ensures.each k (omega (arith, c.blank_within.ensures.long, c.requires))
          ∙ ap (λ holes. blank_in_any holes k (get_or c.blank_within.new.bytes k 0)) c.deref.ensures.value
          ∙ ap (λ b. blank_in_any literal.holes.items k b) (c.blank_within.ensures.each k (omega (arith, c.requires)))
          ∙ own_byte literal k (get_or c.args.bytes.now k 0);
    }

pub returns-clause-utf8 : goal.returns-clause-utf8
returns-clause-utf8 c = λ u edges.
    let literal = c.args.literal.now in
    let old = c.args.bytes.now in
    let now = c.blank_within.new.bytes in
    let long = c.blank_within.ensures.long in
    let each = c.blank_within.ensures.each in
    c.blank_holes.ensures.utf8 (before_keeps_utf8 old now literal long each edges u)
    (subst (All (HasAsciiEnds now)) (sym c.deref.ensures.value) (holes_kept old now literal long each edges))
