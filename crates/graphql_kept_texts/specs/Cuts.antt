-- Texts without some of their parts. Specification: 2.1.2 White Space, 2.1.3 Line Terminators
use Rattle.std.specs.Prelude.{◌≡◌, ◌++◌, ◌∷◌, ℕ, [], Bool, List, codes, drop, false, map, string_bytes, true}
use Rattle.std.specs.List.{list_any, slice_range}
use Rattle.graphql_blanks.specs.Blanks.{blank_byte}
use Rattle.graphql_kept_texts.specs.declared.cuts.Cut.{Cut}
use Rattle.graphql_kept_texts.specs.declared.cuts.Fill.{Fill}
use Rattle.graphql_kept_texts.specs.declared.cuts.Fill.TheVariants as fill
use Rattle.graphql_kept_texts.specs.declared.kept.Kept.{Kept}

-- `__typename`. Specification: 4.4 Type Name Introspection
abbrev pub type_name : List ℕ
type_name = codes "__typename"

-- what comes in the place of these bytes
abbrev pub put : Fill → List ℕ → List ℕ
put fill.Blank own = map blank_byte own
put fill.TypeName own = type_name

-- the text from a byte on, in which the cuts are made one after another
abbrev pub kept_from : List ℕ → ℕ → List Cut → List ℕ
kept_from text at [] = drop at text
kept_from text at (c ∷ cs) = slice_range text at c.part.start ++ (put c.fill (slice_range text c.part.start c.part.end) ++ kept_from text c.part.end cs)

-- the text in which the cuts are made
abbrev pub kept_bytes : List ℕ → List Cut → List ℕ
kept_bytes text cuts = kept_from text 0 cuts

-- `__typename` comes in the place of the part
abbrev pub is_filled : Fill → Bool
is_filled fill.Blank = false
is_filled fill.TypeName = true

abbrev pub is_type_name : Cut → Bool
is_type_name cut = is_filled cut.fill

-- it is the text in which some cuts are made, and says whether one of them is filled
pub record IsKeptOf (text : List ℕ) (kept : Kept) : Type 0 where
  pub cuts : List Cut
  pub text_is : string_bytes kept.text ≡ kept_bytes text cuts
  pub filled : kept.has_type_name ≡ list_any is_type_name cuts
