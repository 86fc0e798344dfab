use Rattle.graphql_nodes.proofs.AsciiLemmas.{name_utf8}
use Rattle.graphql_nodes.proofs.short_names.name_text.Goals as goal

pub from_utf8_unchecked-requires : goal.from_utf8_unchecked-requires
from_utf8_unchecked-requires c = name_utf8 c.args.bytes.now c.requires
