use Rattle.std.proofs.Common.{refl, rules}
use Rattle.graphql_syntax_helps.specs.SyntaxHelps.{apostrophe, in_number, semicolon, slash}
use Rattle.graphql_syntax_helps.proofs.SlipLemmas.{negative_helps, number_helps}
use Rattle.graphql_syntax_helps.proofs.slips.help_with_first.Goals as goal

pub returns-in-39 : goal.returns-in-39
returns-in-39 c = rw c.in-39.is (apostrophe c.args.behind.now)

pub returns-in-59 : goal.returns-in-59
returns-in-59 c = rw c.in-59.is (semicolon c.args.behind.now)

pub returns-in-47 : goal.returns-in-47
returns-in-47 c = rw c.in-47.is (slash c.args.behind.now)

pub returns-in-45 : goal.returns-in-45
returns-in-45 c = rw c.in-45.is (negative_helps c.args.behind.now _ c.help_in_number.ensures)

pub returns-in-48 : goal.returns-in-48
returns-in-48 c = rw c.in-48.is (number_helps _ _ c.help_with_zero.ensures)

pub returns-in-49-to-57 : goal.returns-in-49-to-57
returns-in-49-to-57 c = in_number _ _ (c.args.first, c.args.behind.now, refl, search rules)
