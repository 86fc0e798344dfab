use Rattle.std.proofs.Common.{◌≡◌, length}
use Rattle.graphql_tokens.specs.Scans.{after_all, past_string_character}
use Rattle.graphql_tokens.proofs.quoted.after_string_characters.Given as goal

abbrev pub invariant-loop-part : goal.invariant-loop-part
invariant-loop-part l = after_all past_string_character l.rest ≡ after_all past_string_character l.text

abbrev pub decreases-loop-part : goal.decreases-loop-part
decreases-loop-part l = length l.rest
