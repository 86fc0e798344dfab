use Rattle.std.proofs.Common.{◌≡◌, ℕ, Option, Some, Vec, Global, refl, subst, sym, ◌∙◌}
use Rattle.graphql_tokens.specs.Scans.{Gives}
use Rattle.graphql_strings.specs.Scans.{string_bytes_at, in_utf8, string_value_at}
use Rattle.graphql_strings.proofs.ValueLemmas.{value_or_none}
use Rattle.graphql_strings.proofs.values.string_value.Goals as goal

pub returns-in-Some-clause-value : goal.returns-in-Some-clause-value
unfolding string_value_at
returns-in-Some-clause-value c =
    let Found : Option (Vec ℕ Global) → Type 0 = λ found. Gives (λ (bytes : Vec ℕ Global). bytes.items) found (string_bytes_at c.args.text.now) in
    let bytes : string_bytes_at c.args.text.now ≡ Some c.in-Some.bytes.items = subst Found c.in-Some.is c.in_ok-string_bytes.ensures in
    let scan : string_value_at c.args.text.now ≡ in_utf8 c.in-Some.bytes.items = rw (bytes, string_value_at) refl in
    λ value. value_or_none c.args.text.now value c.in_utf8.result (c.in_utf8.ensures ∙ sym scan)
