-- What messages show of control characters.
use Rattle.std.proofs.Common.{ℕ, ◌≡◌, ◌<◌, ◌^◌, ◌-◌, ◌++◌, true, false, [], codes, arith, refl}
use Rattle.std.proofs.lemmas.Fmt.{hex_byte}
use Rattle.std.specs.Char.{is_control}
use Rattle.std.specs.Fmt.{digits, format_spec, padded_integral}
use Rattle.graphql_syntax_messages.specs.SyntaxMessages.{character_words}

control_is_small : (c : ℕ) → is_control c ≡ true → c < 256
control_is_small c control = grind arith

pub control_words : (c : ℕ) → is_control c ≡ true
    → character_words c ≡ codes "U+00" ++ padded_integral (format_spec 32 0 4 2 (2 ^ 64 - 1)) false [] (digits 16 true c)
control_words c control = rw (control, hex_byte true c (control_is_small c control)) refl
