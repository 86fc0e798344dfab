-- Words of a configuration that are paths.
use Rattle.std.proofs.Common.{◌≡◌, ◌≢◌, ◌∷◌, [], ap, arith, refl}
use Rattle.gqlvalidate_settings.specs.Paths.{Text, from_folder, placed}

-- a word that does not begin with a `!` is a path
pub placed_path : (folder word : Text) → ((rest : Text) → word ≢ 33 ∷ rest) → from_folder folder word ≡ placed folder word
placed_path folder [] differs = refl
placed_path folder (c ∷ rest) differs =
    let d : c ≢ 33 = λ is. differs rest (ap (λ b. b ∷ rest) is) in
    grind arith
