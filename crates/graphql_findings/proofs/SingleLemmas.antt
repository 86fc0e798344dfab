-- Single reports that are added one after another.
use Rattle.std.proofs.Common.{◌≡◌, ◌∙◌, ◌<◌, ◌+◌, ℕ, List, [], ◌∷◌, ◌++◌, ap, append_assoc, get_or, length, map, refl, take}
use Rattle.std.proofs.lemmas.List.{map_push, take_more}
use Rattle.graphql_shown_reports.specs.Shown.{Report}
use Rattle.graphql_findings.specs.Singles.{report_of}
use Rattle.graphql_findings.specs.declared.singles.Single.{Single}

-- the reports of the first i, and of the next one
pub single_more : {X : Type 0} (f : X → Report) (xs : List X) (i : ℕ) (x : X) (s : Single) (old mid new : List Single) → i < length xs → x ≡ get_or xs i x → report_of s ≡ f x →
    map report_of mid ≡ map report_of old ++ map f (take i xs) → new ≡ mid ++ s ∷ [] → map report_of new ≡ map report_of old ++ map f (take (i + 1) xs)
single_more f xs i x s old mid new within is of so pushed =
    rw (take_more xs i x within, ← is, map_push f (take i xs) x)
    (ap (map report_of) pushed ∙ map_push report_of mid s ∙ ap (λ l. l ++ report_of s ∷ []) so
    ∙ append_assoc (map report_of old) (map f (take i xs)) (report_of s ∷ []) ∙ ap (λ r. map report_of old ++ (map f (take i xs) ++ r ∷ [])) of)

-- behind some reports are those, and then these
pub joined : (t u v those these : List Report) → u ≡ t ++ those → v ≡ u ++ these → v ≡ t ++ (those ++ these)
joined t u v those these e f = f ∙ ap (λ l. l ++ these) e ∙ append_assoc t those these
