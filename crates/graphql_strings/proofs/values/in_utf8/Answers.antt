use Rattle.std.proofs.Common.{◌≡◌, Some, sym, subst, ◌∙◌, ap}
use Rattle.std.specs.Prelude.{IsUtf8, string_bytes}
use Rattle.std.proofs.lemmas.Str.{IsUtf8-string_bytes}
use Rattle.graphql_strings.proofs.ValueLemmas.{utf8_kept, utf8_refused}
use Rattle.graphql_strings.proofs.values.in_utf8.Goals as goal

pub returns-in-Ok : goal.returns-in-Ok
returns-in-Ok c =
    let same : string_bytes c.in-Ok.text ≡ c.args.bytes.items = ap (λ v. v.items) c.in-Ok.ensures.ok in
    ap Some same ∙ sym (utf8_kept c.args.bytes.items (subst IsUtf8 same (IsUtf8-string_bytes c.in-Ok.text)))

pub returns : goal.returns
returns c = sym (utf8_refused c.args.bytes.items (λ u. let k = c.in-Err.ensures.succeeds u in let h : ⊥ = cc in h))
