-- Each escape stands for its character, and any other character for itself.
use Rattle.std.proofs.Common.{string_bytes, encode_utf8, refl, arith}
use Rattle.std.proofs.lemmas.Bool.Decides.{nat_tests}
use Rattle.graphql_introspection.proofs.QuotingLemmas.{added, escape_added, spells_itself}
use Rattle.graphql_introspection.proofs.quoting.push_character.Goals as goal

pub returns-in-34 : goal.returns-in-34
returns-in-34 c = escape_added c.push_str.result (string_bytes c.args.text.now) (string_bytes c.push_str.new.self) 34 34 c.args.c c.push_str.ensures.bytes refl c.in-34.is

pub returns-in-92 : goal.returns-in-92
returns-in-92 c = escape_added c.push_str-in-92.result (string_bytes c.args.text.now) (string_bytes c.push_str-in-92.new.self) 92 92 c.args.c c.push_str-in-92.ensures.bytes refl c.in-92.is

pub returns-in-10 : goal.returns-in-10
returns-in-10 c = escape_added c.push_str-in-10.result (string_bytes c.args.text.now) (string_bytes c.push_str-in-10.new.self) 110 10 c.args.c c.push_str-in-10.ensures.bytes refl c.in-10.is

pub returns-in-13 : goal.returns-in-13
returns-in-13 c = escape_added c.push_str-in-13.result (string_bytes c.args.text.now) (string_bytes c.push_str-in-13.new.self) 114 13 c.args.c c.push_str-in-13.ensures.bytes refl c.in-13.is

pub returns-in-9 : goal.returns-in-9
returns-in-9 c = escape_added c.push_str-in-9.result (string_bytes c.args.text.now) (string_bytes c.push_str-in-9.new.self) 116 9 c.args.c c.push_str-in-9.ensures.bytes refl c.in-9.is

pub returns-in_default-2 : goal.returns-in_default-2
returns-in_default-2 c =
    added c.push.result (string_bytes c.args.text.now) (encode_utf8 c.args.c) (string_bytes c.push.new.self) (encode_utf8 c.args.c) c.push.ensures.bytes
    (spells_itself c.args.c (grind (arith, nat_tests, c.if-c-lt32.false, c.in_default)))
