use Rattle.std.proofs.Common.{sym, ◌∙◌}
use Rattle.graphql_syntax.specs.Reading.{input}
use Rattle.graphql_syntax.proofs.StepLemmas.{next_is_name}
use Rattle.graphql_syntax.proofs.cursor.Cursor.name.Goals as goal

pub from_bytes-requires : goal.from_bytes-requires
from_bytes-requires c = rw c.next_text.ensures (next_is_name (input c.args.self) c.args.self.spelled (sym c.sees.ensures ∙ c.if-not-sees.false))
