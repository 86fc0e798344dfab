-- Searches for cycles that go from reference to reference, with a path whose length is bounded and the
-- names that were seen, for the contracts of private functions.
use Rattle.std.specs.Prelude.{◌≡◌, ℕ, ◌+◌, ◌≤◌, ◌⊎◌, ⊤, List, [], ◌∷◌, ◌++◌, Option, Some, length, map, reverse, IsTrue, Result, MatchResult}
use Rattle.std.specs.Borrow.{Bor}
use Rattle.std.specs.List.{AllZip}
use Rattle.graphql_nodes.specs.Names.{AreDistinct, HasDifferentNames, NameText, SameName, stands_on}
use Rattle.graphql_nodes.specs.Nodes.{SameNode}
use Rattle.graphql_documents.specs.Paths.{Path}
use Rattle.graphql_nodes.specs.declared.nodes.Node.{Node}
use Rattle.graphql_guards.specs.declared.recursion.CycleError.{CycleError}
use Rattle.graphql_guards.specs.declared.recursion.CycleError.TheVariants.{Recursed, Limit, Memory}

-- how definitions refer to one another
module _ {Definition Reference : Type 0} (RefersBy : Definition → Reference → Type 0) (target : Reference → Option Definition) where
  -- the second reference is written in the definition to which the first one leads
  pub record Next (r s : Reference) : Type 0 where
    pub definition : Definition
    pub leads : target r ≡ Some definition
    pub refers : RefersBy definition s

  -- a way begins with one of these references, and each next one is written in the definition to which
  -- the one before leads
  pub data Way (begins : Reference → Type 0) : List Reference → Type 0 where
    way_of_one : {r : Reference} → begins r → Way begins (r ∷ [])
    way_of_more : {r : Reference} {next : Definition} {rs : List Reference} →
        begins r → target r ≡ Some next → Path RefersBy target next rs → Way begins (r ∷ rs)

  -- a search that began with these has seen their keys, and with each newly seen key those of all that
  -- come next; and no reference of a newly seen key leads back
  pub record Closes {Key : Type 0} (key_of : Reference → Key) (IsBack begins : Reference → Type 0) (old new : Key → Type 0) : Type 0 where
    pub grows : (key : Key) → old key → new key
    pub begun : (r : Reference) → begins r → new (key_of r)
    pub closed : (r : Reference) → new (key_of r) → old (key_of r) ⊎ ((s : Reference) → Next r s → new (key_of s))
    pub apart : (r : Reference) → new (key_of r) → old (key_of r) ⊎ (¬ IsBack r)

  -- a way that begins with one of these leads back, and this shows it
  pub record LeadsBack (IsBack begins : Reference → Type 0) (Shows : List Reference → Type 0) : Type 0 where
    pub before : List Reference
    pub last : Reference
    pub is_way : Way begins (before ++ last ∷ [])
    pub is_back : IsBack last
    pub shows : Shows (before ++ last ∷ [])

  -- a way that begins with one of these is so long
  pub record GoesFar (begins : Reference → Type 0) (IsLong : List Reference → Type 0) : Type 0 where
    pub way : List Reference
    pub is_way : Way begins way
    pub is_long : IsLong way

-- a set of references to names has the name
abbrev pub IsSeen : List (Bor NameText) → NameText → Type 0
IsSeen seen name = IsTrue (stands_on (map (λ b. b.now) seen) name)

-- the names of a path differ, are no more than its limit, and were all seen, the root apart
pub record StandsOn (root : NameText) (path : List NameText) (limit : ℕ) (seen : List (Bor NameText)) : Type 0 where
  pub distinct : AreDistinct path
  pub fits : length path ≤ limit
  pub known : (name : NameText) → IsTrue (stands_on path name) → SameName name root ⊎ IsSeen seen name

-- the trace shows a way of nodes, the last first
pub record Traces {T : Type 0} (trace way : List (Node T)) : Type 0 where
  pub copies : AllZip SameNode (reverse way) trace

-- searches over references that are nodes
module _ {Definition T : Type 0} (RefersBy : Definition → Node T → Type 0) (target : Node T → Option Definition) (name_of : Node T → NameText) where
  -- why a search that began with these stopped: a way leads back, which the trace shows, or has more
  -- different names than the path may hold, its own counted
  abbrev pub StopsBy : (root : NameText) (begins : Node T → Type 0) (path : List NameText) (limit : ℕ) → CycleError T → Type 0
  StopsBy root begins path limit (Recursed trace) =
      LeadsBack RefersBy target (λ r. SameName (name_of r) root) begins (Traces trace.items)
  StopsBy root begins path limit Limit =
      GoesFar RefersBy target begins (λ way. HasDifferentNames (limit + 1) (path ++ map name_of way))
  StopsBy root begins path limit Memory = ⊤

  -- what a search that began with these has done
  abbrev pub Searches : {X : Type 0} (root : NameText) (begins : Node T → Type 0) (path : List NameText) (limit : ℕ)
      (old new : List (Bor NameText)) → Result X (CycleError T) → Type 0
  Searches root begins path limit old new result =
      MatchResult result
      (λ _. Closes RefersBy target name_of (λ r. SameName (name_of r) root) begins (IsSeen old) (IsSeen new))
      (StopsBy root begins path limit)

module _ {T : Type 0} where
  -- memory was refused
  abbrev pub IsMemory : CycleError T → Type 0
  IsMemory (Recursed trace) = ⊥
  IsMemory Limit = ⊥
  IsMemory Memory = ⊤

  -- an error of a search goes on to the step before: the trace has a copy of the step behind it, unless
  -- memory is refused
  abbrev pub GoesOn : Node T → CycleError T → CycleError T → Type 0
  GoesOn step (Recursed before) (Recursed after) =
      (copy : Node T) × (after.items ≡ before.items ++ copy ∷ []) × SameNode step copy
  GoesOn step (Recursed before) Limit = ⊥
  GoesOn step (Recursed before) Memory = ⊤
  GoesOn step Limit (Recursed after) = ⊥
  GoesOn step Limit Limit = ⊤
  GoesOn step Limit Memory = ⊤
  GoesOn step Memory (Recursed after) = ⊥
  GoesOn step Memory Limit = ⊥
  GoesOn step Memory Memory = ⊤
