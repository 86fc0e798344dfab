-- For which paths patterns stand. A path is a list of characters.
use Rattle.std.specs.Prelude.{◌≡◌, ◌≢◌, ◌≤◌, ◌⊎◌, ◌++◌, ℕ, List, [], ◌∷◌, All, Any, IsFalse, Vec}
use Rattle.std.specs.declared.alloc.Global.{Global}
use Rattle.gqlvalidate_patterns.specs.declared.patterns.CharacterRange.{CharacterRange}
use Rattle.gqlvalidate_patterns.specs.declared.patterns.CharacterSet.{CharacterSet}
use Rattle.gqlvalidate_patterns.specs.declared.patterns.CharacterSet.TheVariants.{Every, NoneOf, OfNames, OneOf, Only}
use Rattle.gqlvalidate_patterns.specs.declared.patterns.Part.{Part}
use Rattle.gqlvalidate_patterns.specs.declared.patterns.Part.TheVariants as part
use Rattle.gqlvalidate_patterns.specs.declared.patterns.Pattern.{Pattern}
use Rattle.gqlvalidate_patterns.specs.declared.patterns.Piece.{Piece}
use Rattle.gqlvalidate_patterns.specs.declared.patterns.Piece.TheVariants as piece

-- the character between the names of a path
abbrev pub slash : ℕ
slash = 47

-- the character is one of the range
abbrev pub IsWithin : CharacterRange → ℕ → Type 0
IsWithin range c = (range.first ≤ c) × (c ≤ range.last)

-- the character is one of the set
abbrev pub IsIn : CharacterSet → ℕ → Type 0
IsIn (Only only) c = c ≡ only
IsIn OfNames c = c ≢ slash
IsIn Every c = Unit {0}
IsIn (OneOf ranges) c = (c ≢ slash) × Any (λ range. IsWithin range c) ranges.items
IsIn (NoneOf ranges) c = (c ≢ slash) × ¬ Any (λ range. IsWithin range c) ranges.items

-- the text is one character of the set
abbrev pub OneMatches : CharacterSet → List ℕ → Type 0
OneMatches set text = (c : ℕ) × (text ≡ c ∷ []) × IsIn set c

-- the text is characters of the set, or none
abbrev pub ManyMatch : CharacterSet → List ℕ → Type 0
ManyMatch set text = All (IsIn set) text

-- the text is folders, each with its `/`, or none
abbrev pub FoldersMatch : List ℕ → Type 0
FoldersMatch text = (text ≡ []) ⊎ ((names : List ℕ) × (text ≡ names ++ slash ∷ []))

-- the piece stands for the text
abbrev pub PieceMatches : Piece → List ℕ → Type 0
PieceMatches (piece.One set) text = OneMatches set text
PieceMatches (piece.Many set) text = ManyMatch set text
PieceMatches piece.Folders text = FoldersMatch text

-- the text is one text behind another, one for each of these
abbrev pub MatchInTurn : {X : Type 0} → (X → List ℕ → Type 0) → List X → List ℕ → Type 0
MatchInTurn Match [] text = text ≡ []
MatchInTurn Match (x ∷ xs) text = (first : List ℕ) × (rest : List ℕ) × (text ≡ first ++ rest) × Match x first × MatchInTurn Match xs rest

-- the pieces stand for the text in turn
abbrev pub PiecesMatch : List Piece → List ℕ → Type 0
PiecesMatch pieces text = MatchInTurn PieceMatches pieces text

-- one of these does
abbrev pub EitherMatches : List (Vec Piece Global) → List ℕ → Type 0
EitherMatches alternatives text = Any (λ pieces. PiecesMatch pieces.items text) alternatives

-- the part stands for the text
abbrev pub PartMatches : Part → List ℕ → Type 0
PartMatches (part.One piece) text = PieceMatches piece text
PartMatches (part.Either alternatives) text = EitherMatches alternatives.items text

-- the pattern stands for the path: its parts do in turn
abbrev pub Matches : Pattern → List ℕ → Type 0
Matches pattern path = MatchInTurn PartMatches pattern.parts.items path

-- the patterns select the path: the last of them that stands for it does not take it out
pub record Selects (patterns : List Pattern) (path : List ℕ) : Type 0 where
  pub before : List Pattern
  pub last : Pattern
  pub after : List Pattern
  pub are : patterns ≡ before ++ last ∷ after
  pub matches : Matches last path
  pub none_after : All (λ pattern. ¬ Matches pattern path) after
  pub kept : IsFalse last.takes_out
