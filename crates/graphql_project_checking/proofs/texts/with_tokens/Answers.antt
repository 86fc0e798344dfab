use Rattle.std.proofs.Common.{rules}
use Rattle.graphql_project_checking.specs.Silence.{no_text}
use Rattle.graphql_project_checking.proofs.TextLemmas.{all_left, texts_more}
use Rattle.graphql_project_checking.proofs.texts.with_tokens.Goals as goal

pub loop-source-init : goal.loop-source-init
loop-source-init c = rw c.new-kept.ensures.items no_text

pub loop-source-preserved : goal.loop-source-preserved
loop-source-preserved c =
    texts_more c.args.sources.now c.loop-source.kept.items c.add_if_token.new.kept.items c.loop-source.source-index _ c.loop-source-test.true (search rules)
    c.in_ok-add_if_token.ensures c.loop-source.invariant

pub returns : goal.returns
returns c = all_left c.args.sources.now c.loop-source.kept.items c.loop-source.source-index c.loop-source-test.false c.loop-source.invariant
