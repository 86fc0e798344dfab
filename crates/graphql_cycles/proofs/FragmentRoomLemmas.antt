-- How much deeper a search of fragments can go: as often as its path has room, into a set of any depth
-- that a fragment has.
use Rattle.std.proofs.Common.{◌≡◌, ℕ, ◌+◌, ◌-◌, ◌*◌, ◌<◌, ◌≤◌, Bool, true, false, List, [], ◌∷◌, ◌++◌, Some, length, refl, sym, ap, ◌∙◌, subst, arith, length-append}
use Rattle.std.specs.Map.{lookup}
use Rattle.std.proofs.Math.Nat.{add-mul, one-mul}
use Rattle.std.proofs.lemmas.Option.{same_Some}
use Rattle.graphql_nodes.specs.Names.{NameText, same_name}
use Rattle.graphql_documents.specs.Selections.{fragments_of}
use Rattle.graphql_documents.specs.declared.documents.executables.ExecutableDocument.{ExecutableDocument}
use Rattle.graphql_documents.specs.declared.documents.executables.Fragment.{Fragment}
use Rattle.graphql_documents.specs.declared.documents.executables.Selection.TheViews.{size-SelectionSet}
use Rattle.graphql_nodes.specs.declared.nodes.Node.{Node}
use Rattle.graphql_guards.specs.Guards.{HasRoom, path_limit, path_of}
use Rattle.graphql_guards.specs.declared.recursion.RecursionStack.{RecursionStack}

-- how deep the sets of these fragments are, together
abbrev pub depths : List (NameText × Node Fragment) → ℕ
depths [] = 0
depths (entry ∷ entries) = size-SelectionSet entry.1.value.value.selection_set + depths entries

-- how much a path has left: as many fragments as it has room for, each of any depth
abbrev pub room : ExecutableDocument → RecursionStack → ℕ
room document path = (path_limit path - length (path_of path)) * (depths document.fragments.entries + 1)

-- what a name finds is no deeper
found_within : (name : NameText) (entries : List (NameText × Node Fragment)) (d : Node Fragment) → lookup (same_name name) entries ≡ Some d →
    size-SelectionSet d.value.value.selection_set ≤ depths entries
found_within name [] d found = absurd (let no : ⊥ = cc in no)
found_within name (e ∷ es) d found = at_first (same_name name e.0) refl (λ later. found_within name es d later) where
  at_first : (b : Bool) → same_name name e.0 ≡ b → (lookup (same_name name) es ≡ Some d → size-SelectionSet d.value.value.selection_set ≤ depths es) →
      size-SelectionSet d.value.value.selection_set ≤ depths (e ∷ es)
  at_first true is later =
      let here : e.1 ≡ d = same_Some e.1 d (rw is at found) in
      subst (λ (x : Node Fragment). size-SelectionSet x.value.value.selection_set ≤ depths (e ∷ es)) here (omega arith)
  at_first false is later =
      let rest : size-SelectionSet d.value.value.selection_set ≤ depths es = later (rw is at found) in
      omega (arith, rest)

falls : (limit bound count longer most depth : ℕ) → count < limit → bound ≡ limit → longer ≡ count + 1 → depth ≤ most →
    2 * ((bound - longer) * (most + 1) + depth) + 1 < 2 * ((limit - count) * (most + 1))
falls limit bound count longer most depth room same is within =
    let e : limit - count ≡ (bound - longer) + 1 = omega arith in
    rw e (omega (arith, add-mul (bound - longer) 1 (most + 1), one-mul (most + 1)))

-- so a fragment that is visited leaves less
pub room_falls : (document : ExecutableDocument) (name : NameText) (d : Node Fragment) (held : Fragment) (before after : RecursionStack) (measure : ℕ) →
    held ≡ d.value.value → fragments_of document name ≡ Some d → HasRoom before → path_limit after ≡ path_limit before →
    path_of after ≡ path_of before ++ name ∷ [] → 2 * room document before ≡ measure →
    2 * (room document after + size-SelectionSet held.selection_set) + 1 < measure
room_falls document name d held before after measure is found has_room limit longer now =
    let within : size-SelectionSet held.selection_set ≤ depths document.fragments.entries =
    subst (λ (f : Fragment). size-SelectionSet f.selection_set ≤ depths document.fragments.entries) (sym is)
    (found_within name document.fragments.entries d found) in
    subst (λ n. 2 * (room document after + size-SelectionSet held.selection_set) + 1 < n) now
    (falls (path_limit before) (path_limit after) (length (path_of before)) (length (path_of after)) (depths document.fragments.entries) (size-SelectionSet held.selection_set)
    has_room limit (ap length longer ∙ length-append (path_of before) (name ∷ [])) within)
