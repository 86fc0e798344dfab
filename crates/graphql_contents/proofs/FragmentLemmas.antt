-- The numbers of what is in fragments, one after another, and as more contents get numbers.
use Rattle.std.proofs.Common.{◌≡◌, ℕ, zero, suc, List, [], ◌∷◌, Some, Vec, ap, length, refl, subst}
use Rattle.std.specs.Prelude.{slice_get}
use Rattle.std.specs.declared.alloc.Global.{Global}
use Rattle.std.proofs.Math.Logic.{∥∥₁_elim, ∥∥₁_map}
use Rattle.graphql_documents.specs.Selections.{selections_of}
use Rattle.graphql_documents.specs.declared.documents.executables.SelectionSet.{SelectionSet}
use Rattle.graphql_contents.specs.Contents.{AreNumbered, Grows}
use Rattle.graphql_contents.specs.Fragments.{AreSetsNumbered}
use Rattle.graphql_contents.specs.declared.contents.Content.{Content}
use Rattle.graphql_contents.proofs.TableLemmas.{grown_numbers, numbers_prop}

-- they stay as more contents get numbers
pub sets_stay : (old new : List Content) → Grows old new → (sets : List SelectionSet) (ns : List (Vec ℕ Global)) → AreSetsNumbered old sets ns → AreSetsNumbered new sets ns
sets_stay old new grows [] [] are = tt
sets_stay old new grows [] (n ∷ ns) are = absurd are
sets_stay old new grows (s ∷ sets) [] are = absurd are
sets_stay old new grows (s ∷ sets) (n ∷ ns) are = (grown_numbers old new grows (selections_of s) n.items are.0, sets_stay old new grows sets ns are.1)

pub still_numbered : (old new : List Content) → Grows old new → (sets : List SelectionSet) (ns : List (Vec ℕ Global)) →
    ∥ (length ns ≡ length sets → AreSetsNumbered old sets ns) ∥₁ → ∥ (length ns ≡ length sets → AreSetsNumbered new sets ns) ∥₁
still_numbered old new grows sets ns were = ∥∥₁_map were (λ are whole. sets_stay old new grows sets ns (are whole))

pub as_many : (contents : List Content) (sets : List SelectionSet) (ns : List (Vec ℕ Global)) → AreSetsNumbered contents sets ns → length ns ≡ length sets
as_many contents [] [] are = refl
as_many contents [] (n ∷ ns) are = absurd are
as_many contents (s ∷ sets) [] are = absurd are
as_many contents (s ∷ sets) (n ∷ ns) are = ap suc (as_many contents sets ns are.1)

-- the numbers at a place are those of the set there
at_place : (contents : List Content) (sets : List SelectionSet) (ns : List (Vec ℕ Global)) → AreSetsNumbered contents sets ns → (k : ℕ) (s : SelectionSet) (n : Vec ℕ Global) →
    slice_get sets k ≡ Some s → slice_get ns k ≡ Some n → AreNumbered contents (selections_of s) n.items
at_place contents [] ns are k s n at_s at_n = absurd (let no : ⊥ = cc in no)
at_place contents (t ∷ sets) [] are k s n at_s at_n = absurd are
at_place contents (t ∷ sets) (m ∷ ns) are zero s n at_s at_n =
    let set : t ≡ s = cc in
    let own : m ≡ n = cc in
    subst (λ (x : SelectionSet). AreNumbered contents (selections_of x) n.items) set (subst (λ (x : Vec ℕ Global). AreNumbered contents (selections_of t) x.items) own are.0)
at_place contents (t ∷ sets) (m ∷ ns) are (suc k) s n at_s at_n = at_place contents sets ns are.1 k s n at_s at_n

pub numbered_at_place : (contents : List Content) (sets : List SelectionSet) (ns : List (Vec ℕ Global)) →
    ∥ (length ns ≡ length sets → AreSetsNumbered contents sets ns) ∥₁ → length ns ≡ length sets → (k : ℕ) (s : SelectionSet) (n : Vec ℕ Global) →
    slice_get sets k ≡ Some s → slice_get ns k ≡ Some n → AreNumbered contents (selections_of s) n.items
numbered_at_place contents sets ns were whole k s n at_s at_n =
    ∥∥₁_elim were (numbers_prop contents (selections_of s) n.items) (λ are. at_place contents sets ns (are whole) k s n at_s at_n)
