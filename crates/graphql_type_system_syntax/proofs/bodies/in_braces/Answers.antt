use Rattle.std.proofs.Common.{refl, sym, ◌∙◌}
use Rattle.graphql_syntax.specs.Reading.{input}
use Rattle.graphql_type_system_syntax.proofs.BodyLemmas.{braces_deeper, braces_too_deep, braces_missing}
use Rattle.graphql_type_system_syntax.proofs.bodies.in_braces.Goals as goal

pub returns-then-sees : goal.returns-then-sees
returns-then-sees g c =
    rw (c.too_deep.ensures, braces_too_deep g.P.Part.read_at c.args.depth (input c.args.cursor) c.if-depth-eq0.true (sym c.sees.ensures ∙ c.if-sees.true)) refl

pub returns-then-depth-eq0 : goal.returns-then-depth-eq0
returns-then-depth-eq0 g c =
    rw (c.refusal.ensures, braces_missing g.P.Part.read_at c.args.depth (input c.args.cursor) c.if-depth-eq0.true (sym c.sees.ensures ∙ c.if-sees.false)) refl

pub returns : goal.returns
returns g c =
    rw (braces_deeper g.P.Part.read_at c.args.depth (input c.args.cursor) c.if-depth-eq0.false) c.braced.ensures
