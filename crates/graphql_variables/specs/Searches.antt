-- Searches that go on from what they find, and remember what they have seen.
use Rattle.std.specs.Prelude.{◌⊎◌}

-- steps lead from one to the other
pub data Leads {X : Type 0} (Step : X → X → Type 0) : X → X → Type 0 where
  leads_to_itself : {x : X} → Leads Step x x
  leads_by : {x y z : X} → Step x y → Leads Step y z → Leads Step x z

-- a search that begins with some has seen more, and each that it has newly seen is one to which one of
-- these leads
pub record Finds {X : Type 0} (Step : X → X → Type 0) (begins old new : X → Type 0) : Type 0 where
  pub grows : (x : X) → old x → new x
  pub reachable : (x : X) → new x → old x ⊎ ((start : X) × begins start × Leads Step start x)

-- it has seen these, and with each newly seen one all to which a step leads from it
pub record Searched {X : Type 0} (Step : X → X → Type 0) (begins old new : X → Type 0) : Type 0 where
  pub finds : Finds Step begins old new
  pub begun : (x : X) → begins x → new x
  pub closed : (x : X) → new x → old x ⊎ ((y : X) → Step x y → new y)
