-- Paths of references from definition to definition, and cycles. Specification: 5.5.2.2 Fragment
-- Spreads Must Not Form Cycles, 3.10 Input Objects and 3.13 Directives, on references to themselves.
use Rattle.std.specs.Prelude.{◌≡◌, ℕ, List, [], ◌∷◌, ◌++◌, Option, Some, map}
use Rattle.graphql_nodes.specs.Names.{NameText, HasDifferentNames}

-- how definitions refer to one another
module _ {Definition Reference : Type 0} (RefersBy : Definition → Reference → Type 0) (target : Reference → Option Definition) where
  -- the first reference is written in the definition, and each next one in the definition to which
  -- the one before refers
  pub data Path : Definition → List Reference → Type 0 where
    path_of_one : {d : Definition} {r : Reference} → RefersBy d r → Path d (r ∷ [])
    path_of_more : {d next : Definition} {r : Reference} {rs : List Reference} →
        RefersBy d r → target r ≡ Some next → Path next rs → Path d (r ∷ rs)

  -- the path is a cycle: its last reference is one back to the definition where it begins
  pub record IsCycle (IsBack : Definition → Reference → Type 0) (d : Definition) (path : List Reference) : Type 0 where
    pub before : List Reference
    pub last : Reference
    pub ends : path ≡ before ++ last ∷ []
    pub is_path : Path d path
    pub is_back : IsBack d last

  -- no path from the definition is a cycle
  abbrev pub HasNoCycle : (Definition → Reference → Type 0) → Definition → Type 0
  HasNoCycle IsBack d = (path : List Reference) → ¬ IsCycle IsBack d path

  -- a path from the definition has this many different names, or more, its own counted
  abbrev pub HasLongPath : (Reference → NameText) → NameText → Definition → ℕ → Type 0
  HasLongPath name_of own d count =
      (path : List Reference) × Path d path × HasDifferentNames count (own ∷ map name_of path)
