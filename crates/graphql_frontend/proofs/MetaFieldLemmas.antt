-- Three answers together.
use Rattle.std.proofs.Common.{◌≡◌, Bool, true, false, ◌&&◌, refl}

pub all_three : (a b c : Bool) → a ≡ true → b ≡ true → c ≡ true → (a && (b && c)) ≡ true
all_three true true true x y z = refl
all_three false b c x y z = x
all_three true false c x y z = y
all_three true true false x y z = z

pub each_of_three : (a b c : Bool) → (a && (b && c)) ≡ true → (a ≡ true) × (b ≡ true) × (c ≡ true)
each_of_three true true true e = (refl, refl, refl)
each_of_three false b c e = absurd (let no : ⊥ = cc in no)
each_of_three true false c e = absurd (let no : ⊥ = cc in no)
each_of_three true true false e = absurd (let no : ⊥ = cc in no)
