-- Which names of fragments were visited, and how many definitions have names that were not.
use Rattle.std.proofs.Common.{◌≡◌, ℕ, ◌+◌, ◌<◌, ◌≤◌, Bool, true, false, ◌||◌, List, [], ◌∷◌, Some, ◌⊎◌, inl, inr, refl, sym, ◌∙◌, ap, arith}
use Rattle.std.specs.Prelude.{IsTrue, IsFalse}
use Rattle.std.specs.List.{list_any}
use Rattle.std.specs.Map.{lookup}
use Rattle.std.specs.Str.{bytes_eq}
use Rattle.graphql_nodes.specs.Names.{NameText, SameName, DifferentNames, same_name}
use Rattle.graphql_nodes.specs.declared.nodes.Node.{Node}
use Rattle.graphql_documents.specs.declared.documents.executables.Fragment.{Fragment}
use Rattle.graphql_nodes.proofs.NameLemmas.{same_text, same_name_itself, same_name_back}

-- the name was visited, or not
abbrev pub Visited : List NameText → NameText → Type 0
Visited names name = IsTrue (list_any (same_name name) names)

abbrev pub Unvisited : List NameText → NameText → Type 0
Unvisited names name = IsFalse (list_any (same_name name) names)

pub behind_true : (a b : Bool) → b ≡ true → (a || b) ≡ true
behind_true true b e = refl
behind_true false b e = e

pub either_true : (a b : Bool) → (a || b) ≡ true → (a ≡ true) ⊎ (b ≡ true)
either_true true b e = inl refl
either_true false b e = inr e

pub visited_itself : (name : NameText) (names : List NameText) → Visited (name ∷ names) name
visited_itself name names = rw (same_name_itself name) refl

pub visited_behind : (other : NameText) (names : List NameText) (name : NameText) → Visited names name → Visited (other ∷ names) name
visited_behind other names name h = behind_true (same_name name other) (list_any (same_name name) names) h

-- names of one text are visited alike
pub visited_alike : (a b : NameText) → SameName a b → (names : List NameText) → list_any (same_name a) names ≡ list_any (same_name b) names
visited_alike a b same names = ap (λ (text : List ℕ). list_any (λ (key : NameText). bytes_eq text key.text) names) (same_text a b same)

-- a name that was visited differs from one that was not
pub differs : (names : List NameText) (a b : NameText) → Visited names a → Unvisited names b → DifferentNames a b
differs names a b visited unvisited = decided (same_name a b) refl where
  decided : (v : Bool) → same_name a b ≡ v → same_name a b ≡ false
  decided true e = absurd (let same = visited_alike a b e names in let no : ⊥ = cc in no)
  decided false e = e

-- a name that is not visited now was not visited before
pub unvisited_before : (old new : List NameText) (name : NameText) → (Visited old name → Visited new name) → Unvisited new name → Unvisited old name
unvisited_before old new name still unvisited = decided (list_any (same_name name) old) refl where
  decided : (v : Bool) → list_any (same_name name) old ≡ v → list_any (same_name name) old ≡ false
  decided true e = absurd (let now = still e in let no : ⊥ = cc in no)
  decided false e = e

-- how many definitions of fragments have names that are not visited yet
abbrev pub Entries : Type 0
Entries = List (NameText × Node Fragment)

abbrev pub unless : Bool → ℕ
unless true = 0
unless false = 1

abbrev pub left : List NameText → Entries → ℕ
left seen [] = 0
left seen (e ∷ es) = unless (list_any (same_name e.0) seen) + left seen es

fewer : (a b : Bool) → unless (a || b) ≤ unless b
fewer true true = omega arith
fewer true false = omega arith
fewer false b = omega arith

pub left_stays : (name : NameText) (seen : List NameText) (es : Entries) → left (name ∷ seen) es ≤ left seen es
left_stays name seen [] = omega arith
left_stays name seen (e ∷ es) = omega (arith, fewer (same_name e.0 name) (list_any (same_name e.0) seen), left_stays name seen es)

pub left_falls : (name : NameText) (seen : List NameText) (es : Entries) (d : Node Fragment) → lookup (same_name name) es ≡ Some d →
    IsFalse (list_any (same_name name) seen) → left (name ∷ seen) es < left seen es
left_falls name seen [] d found new = absurd (let no : ⊥ = cc in no)
left_falls name seen (e ∷ es) d found new = at_first (same_name name e.0) refl (λ later. left_falls name seen es d later new) where
  at_first : (b : Bool) → same_name name e.0 ≡ b → (lookup (same_name name) es ≡ Some d → left (name ∷ seen) es < left seen es) →
      left (name ∷ seen) (e ∷ es) < left seen (e ∷ es)
  at_first true is falls =
      let back : same_name e.0 name ≡ true = same_name_back name e.0 is in
      let unvisited : list_any (same_name e.0) seen ≡ false = sym (visited_alike name e.0 is seen) ∙ new in
      rw (back, unvisited) (omega (arith, left_stays name seen es))
  at_first false is falls =
      let later : left (name ∷ seen) es < left seen es = falls (rw is at found) in
      omega (arith, fewer (same_name e.0 name) (list_any (same_name e.0) seen))
