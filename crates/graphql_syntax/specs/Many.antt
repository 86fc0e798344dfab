-- What is repeated, and what may be left out, in the grammar. Specification: Appendix A.3 Grammar Notation,
-- Optionality and Lists.
use Rattle.std.specs.Prelude.{List, [], ◌∷◌, Option, None, Some}
use Rattle.graphql_syntax.specs.Inputs.{Input}

-- as many as there are
pub data Many {A : Type 0} (R : Input → A → Input → Type 0) : Input → List A → Input → Type 0 where
  nothing : (i : Input) → Many R i [] i
  more : (i m j : Input) (x : A) (xs : List A) → R i x m → Many R m xs j → Many R i (x ∷ xs) j

-- at least one
pub data Some1 {A : Type 0} (R : Input → A → Input → Type 0) : Input → List A → Input → Type 0 where
  some : (i m j : Input) (x : A) (xs : List A) → R i x m → Many R m xs j → Some1 R i (x ∷ xs) j

-- one, or none
pub data Perhaps {A : Type 0} (R : Input → A → Input → Type 0) : Input → Option A → Input → Type 0 where
  absent : (i : Input) → Perhaps R i None i
  present : (i j : Input) (x : A) → R i x j → Perhaps R i (Some x) j

-- a list, or none
pub data PerhapsList {A : Type 0} (R : Input → List A → Input → Type 0) : Input → List A → Input → Type 0 where
  absent : (i : Input) → PerhapsList R i [] i
  present : (i j : Input) (xs : List A) → R i xs j → PerhapsList R i xs j
