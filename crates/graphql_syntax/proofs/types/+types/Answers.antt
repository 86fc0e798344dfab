use Rattle.std.proofs.Common.{refl, sym, ◌∙◌}
use Rattle.graphql_syntax.specs.Reading.{input}
use Rattle.graphql_syntax.proofs.TypeLemmas.{type_named, type_listed, type_too_deep}
use Rattle.graphql_syntax.proofs.types.+types.Goals as goal

pub type_reference-returns-then-not-sees : goal.type_reference-returns-then-not-sees
type_reference-returns-then-not-sees t c =
    rw (type_named c.args.depth (input c.args.cursor) (sym c.sees.ensures ∙ c.if-not-sees.true)) c.named.ensures

pub type_reference-returns-then-depth-eq0 : goal.type_reference-returns-then-depth-eq0
type_reference-returns-then-depth-eq0 t c =
    rw (c.too_deep.ensures, type_too_deep c.args.depth (input c.args.cursor) (sym c.sees.ensures ∙ c.if-not-sees.false) c.if-depth-eq0.true) refl

pub type_reference-returns : goal.type_reference-returns
type_reference-returns t c =
    rw (type_listed c.args.depth (input c.args.cursor) (sym c.sees.ensures ∙ c.if-not-sees.false) c.if-depth-eq0.false) c.list.ensures
