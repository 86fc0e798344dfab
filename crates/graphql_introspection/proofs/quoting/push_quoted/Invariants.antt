-- What is added after the first quote stands for the characters so far.
use Rattle.std.proofs.Common.{encode_utf8_all, string_bytes, ◌++◌, ◌∷◌, []}
use Rattle.graphql_introspection.specs.Quoting.{AppendsCharacters}
use Rattle.graphql_introspection.proofs.quoting.push_quoted.Given as goal

abbrev pub invariant-loop-c : goal.invariant-loop-c
invariant-loop-c l = AppendsCharacters (string_bytes l.fn.text ++ 34 ∷ []) (encode_utf8_all l.yielded) (string_bytes l.text)
