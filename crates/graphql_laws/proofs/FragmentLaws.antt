-- Which fragments are on a cycle.
use Rattle.std.proofs.Common.{◌≡◌, List, [], ◌∷◌, ◌++◌, Some, refl, subst, All}
use Rattle.std.proofs.lemmas.List.Elements.{All-nil, All-cons, All-head}
use Rattle.graphql_nodes.specs.Names.{NameText, SameName, DifferentNames}
use Rattle.graphql_documents.specs.Selections.{Fragments, Written}
use Rattle.graphql_documents.specs.Paths.{Path, path_of_one, path_of_more}
use Rattle.graphql_specification.specs.Fragments.{SpreadsBy, fragment_of, IsFragmentCycle, FragmentHasNoCycle}
use Rattle.graphql_nodes.specs.declared.nodes.Node.{Node}
use Rattle.graphql_documents.specs.declared.documents.executables.Selection.TheVariants as kind
use Rattle.graphql_documents.specs.declared.documents.executables.Fragment.{Fragment}
use Rattle.graphql_documents.specs.declared.documents.executables.FragmentSpread.{FragmentSpread}
use Rattle.graphql_nodes.proofs.NameLemmas.{same_name_back, same_name_then, not_both}
use Rattle.graphql_documents.proofs.ListLemmas.{All-append_right}

pub spreads_itself : (fragments : Fragments) (d : Node Fragment) (p : Node FragmentSpread) →
    Written d.value.value.selection_set (kind.FragmentSpread p) → SameName p.value.value.fragment_name d.value.value.name →
    ¬ FragmentHasNoCycle fragments d
spreads_itself fragments d p written back none =
    none (p ∷ []) (record { before = []; last = p; ends = refl; is_path = path_of_one written; is_back = back })

-- the spread has the fragment's name; each spread in a fragment has it
abbrev Names : Node Fragment → Node FragmentSpread → Type 0
Names e p = SameName p.value.value.fragment_name e.value.value.name

abbrev OnlyNames : Node Fragment → Node Fragment → Type 0
OnlyNames e d = (p : Node FragmentSpread) → Written d.value.value.selection_set (kind.FragmentSpread p) → Names e p

-- so does each spread on a path
all_name : (fragments : Fragments) (e : Node Fragment) →
    ((name : NameText) → SameName name e.value.value.name → fragments name ≡ Some e) → OnlyNames e e →
    {d : Node Fragment} {path : List (Node FragmentSpread)} → Path SpreadsBy (fragment_of fragments) d path →
    OnlyNames e d → All (Names e) path
all_name fragments e found itself (path_of_one {r = p} written) only = All-cons (Names e) p [] (only p written) (All-nil (Names e))
all_name fragments e found itself (path_of_more {next = next} {r = p} {rs = rs} written is more) only =
    let here : fragments p.value.value.fragment_name ≡ Some e = found p.value.value.fragment_name (only p written) in
    let same : e ≡ next = cc in
    All-cons (Names e) p rs (only p written) (all_name fragments e found itself more (subst (OnlyNames e) same itself))

pub reaches_only_another : (fragments : Fragments) (d e : Node Fragment) (path : List (Node FragmentSpread)) →
    ((p : Node FragmentSpread) → Written d.value.value.selection_set (kind.FragmentSpread p) → SameName p.value.value.fragment_name e.value.value.name) →
    ((p : Node FragmentSpread) → Written e.value.value.selection_set (kind.FragmentSpread p) → SameName p.value.value.fragment_name e.value.value.name) →
    ((name : NameText) → SameName name e.value.value.name → fragments name ≡ Some e) →
    DifferentNames d.value.value.name e.value.value.name → ¬ IsFragmentCycle fragments d path
reaches_only_another fragments d e path only itself found other leads =
    let all : All (Names e) (leads.before ++ leads.last ∷ []) = subst (All (Names e)) leads.ends (all_name fragments e found itself leads.is_path only) in
    let last : Names e leads.last = All-head (Names e) leads.last [] (All-append_right (Names e) leads.before (leads.last ∷ []) all) in
    let named = leads.last.value.value.fragment_name in
    let own = d.value.value.name in
    not_both own e.value.value.name (same_name_then own named e.value.value.name (same_name_back named own leads.is_back) last) other

pub no_spread_no_cycle : (fragments : Fragments) (d : Node Fragment) →
    ((p : Node FragmentSpread) → ¬ Written d.value.value.selection_set (kind.FragmentSpread p)) → FragmentHasNoCycle fragments d
no_spread_no_cycle fragments d none path leads = begins leads.is_path none where
  begins : {d : Node Fragment} {path : List (Node FragmentSpread)} → Path SpreadsBy (fragment_of fragments) d path →
      ¬ ((p : Node FragmentSpread) → ¬ Written d.value.value.selection_set (kind.FragmentSpread p))
  begins (path_of_one {r = p} written) none = none p written
  begins (path_of_more {r = p} written is more) none = none p written
