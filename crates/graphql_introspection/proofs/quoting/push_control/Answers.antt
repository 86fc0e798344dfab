-- The two last digits are the character's number.
use Rattle.std.proofs.Common.{string_bytes, arith}
use Rattle.graphql_introspection.proofs.QuotingLemmas.{low_added, high_added}
use Rattle.graphql_introspection.proofs.quoting.push_control.Goals as goal

pub returns-in_ok-push_str : goal.returns-in_ok-push_str
returns-in_ok-push_str c =
    low_added c.push.result (string_bytes c.args.text.now) (string_bytes c.push_str.new.self) (string_bytes c.push.new.self) c.digit.result c.args.c
    c.in_ok-push_str.ensures.bytes c.push.ensures.bytes c.digit.ensures.ascii c.digit.ensures.digit c.requires

pub returns-in_ok-push_str-2 : goal.returns-in_ok-push_str-2
returns-in_ok-push_str-2 c =
    high_added c.push-else-c-lt16.result (string_bytes c.args.text.now) (string_bytes c.push_str-else-c-lt16.new.self) (string_bytes c.push-else-c-lt16.new.self) c.digit-else-c-lt16.result c.args.c
    c.in_ok-push_str-2.ensures.bytes c.push-else-c-lt16.ensures.bytes c.digit-else-c-lt16.ensures.ascii c.digit-else-c-lt16.ensures.digit (omega (arith, c.if-c-lt16.false)) c.requires
