use Rattle.std.proofs.Common.{◌∙◌, ap, subst, sym, length, rules}
use Rattle.std.specs.Str.{IsUtf8}
use Rattle.graphql_literals.specs.Literals.{HasAsciiEdges, IsTextOf}
use Rattle.graphql_literals.proofs.BlankLemmas.{whole}
use Rattle.graphql_literals.proofs.texts.blanked.Goals as goal

pub returns-clause-text : goal.returns-clause-text
returns-clause-text c =
    let literal = c.args.literal.now in
    let old = c.deref_mut.ensures.value ∙ c.in_ok-extend_from_slice.ensures.items ∙ search rules in
    let is = subst (λ text. IsTextOf text literal c.blank_others.new.bytes) old c.blank_others.ensures.text in
    subst (IsTextOf c.args.prefix.now literal)
    (sym (whole _ _ _ (is.long ∙ sym c.requires ∙ ap length (sym (sym c.deref_mut.ensures.value ∙ old))) c.extend_from_slice.new.self.ok.0)) is

pub returns-clause-utf8 : goal.returns-clause-utf8
returns-clause-utf8 c = λ u edges.
    let literal = c.args.literal.now in
    let old = c.deref_mut.ensures.value ∙ c.in_ok-extend_from_slice.ensures.items ∙ search rules in
    let is = subst (λ text. IsTextOf text literal c.blank_others.new.bytes) old c.blank_others.ensures.text in
    subst IsUtf8
    (sym (whole _ _ _ (is.long ∙ sym c.requires ∙ ap length (sym (sym c.deref_mut.ensures.value ∙ old))) c.extend_from_slice.new.self.ok.0))
    (c.blank_others.ensures.utf8 (subst IsUtf8 (sym old) u) (subst (λ text. HasAsciiEdges text literal) (sym old) edges))
