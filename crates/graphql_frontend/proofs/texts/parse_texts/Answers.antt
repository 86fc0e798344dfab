use Rattle.std.proofs.Common.{rules}
use Rattle.graphql_frontend.specs.Texts.{no_texts}
use Rattle.graphql_frontend.proofs.TextLemmas.{all_parsed, parsed_more}
use Rattle.graphql_frontend.proofs.texts.parse_texts.Goals as goal

pub loop-source-init : goal.loop-source-init
loop-source-init c = rw (c.new-documents.ensures.items, c.new-errors.ensures.items) no_texts

pub loop-source-preserved : goal.loop-source-preserved
loop-source-preserved c =
    parsed_more c.args.bounds c.args.sources.now c.loop-source.source-index _ _ _ _ _
    c.loop-source-test.true (search rules) c.loop-source.invariant c.in_ok-parse_text.ensures

pub returns : goal.returns
returns c = all_parsed c.args.bounds c.args.sources.now c.loop-source.source-index _ _ c.loop-source-test.false c.loop-source.invariant
