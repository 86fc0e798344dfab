use Rattle.std.proofs.Common.{refl}
use Rattle.graphql_kept_projects.proofs.SchemaLemmas.{source_is_left_out, source_is_made}
use Rattle.graphql_kept_projects.proofs.schema_rounds.add_source.Goals as goal

pub returns-then-has_no_token : goal.returns-then-has_no_token
returns-then-has_no_token c = λ before made.
    source_is_left_out before c.args.sources.now.items c.args.left.now made c.as_str-text.ensures.value (c.has_no_token.ensures.none c.if-has_no_token.true)

pub returns : goal.returns
returns c = λ before made.
    source_is_made before c.args.sources.now.items c.push.new.self.items c.args.left.now _ made c.in_ok-push.ensures.items refl c.as_str-text.ensures.value
