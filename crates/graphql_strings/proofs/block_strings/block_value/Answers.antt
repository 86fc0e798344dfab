use Rattle.std.proofs.Common.{◌≡◌, true, false, not, sym, ◌∙◌, rules}
use Rattle.std.specs.List.{list_all}
use Rattle.graphql_tokens.specs.Characters.{is_line_byte}
use Rattle.graphql_strings.specs.BlockStrings.{is_blank}
use Rattle.graphql_strings.proofs.ValueLemmas.{blank_line_is, line_is}
use Rattle.graphql_strings.proofs.block_strings.block_value.Goals as goal

pub returns-then-is_blank : goal.returns-then-is_blank
returns-then-is_blank c =
    let one : list_all (λ c. not (is_line_byte c)) c.args.raw.now ≡ true = search rules in
    let blank : is_blank c.args.raw.now ≡ true = search rules in
    c.new.ensures.items ∙ sym (blank_line_is c.args.raw.now one blank)

pub returns-else-is_blank : goal.returns-else-is_blank
returns-else-is_blank c =
    let one : list_all (λ c. not (is_line_byte c)) c.args.raw.now ≡ true = search rules in
    let line : is_blank c.args.raw.now ≡ false = search rules in
    rw (line_is c.args.raw.now one line) c.from_slice.ensures.items
