-- What one more fragment adds to what is reported of uses.
use Rattle.std.proofs.Common.{◌≡◌, ◌∙◌, ℕ, ◌+◌, ◌<◌, List, [], ◌∷◌, ◌++◌, length, get_or, take, subst, sym}
use Rattle.std.specs.Prelude.{All, IsFalse, IsTrue}
use Rattle.std.proofs.lemmas.List.Elements.{All-append, All-cons, All-nil}
use Rattle.graphql_diagnostics.specs.declared.lists.DiagnosticEntry.{DiagnosticEntry}
use Rattle.graphql_frontend.specs.RuleSets.{NamesRuleIn, RuleSet}
use Rattle.graphql_frontend.specs.declared.reports.Reports.{Reports}
use Rattle.graphql_nodes.specs.Names.{NameText}
use Rattle.graphql_document_checking.specs.Trees.{fragments_in}
use Rattle.graphql_projects.specs.OperationTrees.{Pool, fragments_among}
use Rattle.graphql_trees.specs.declared.documents.Definition.{Definition}
use Rattle.graphql_trees.specs.declared.documents.Document.{Document}
use Rattle.graphql_trees.specs.declared.executable.FragmentDefinition.{FragmentDefinition}
use Rattle.graphql_variables.specs.Uses.{IsNamedIn}
use Rattle.graphql_project_checking.proofs.BuildingLemmas.{flat_more, fragments_more}
use Rattle.graphql_project_checking.proofs.SilenceLemmas.{not_nil, quiet_then}
use Rattle.graphql_project_checking.specs.Silence.{QuietOnlyIf, ReportsUnused}
use Rattle.graphql_project_checking.specs.Truth.{IsUnnamedEntry}

abbrev pub IsUsed : List NameText → NameText × FragmentDefinition → Type 0
IsUsed used p = IsNamedIn used p.0

-- each of these fragments is used, unless the rule is off
abbrev pub UsedUnlessOff : List NameText → Pool → RuleSet → Type 0
UsedUnlessOff used fragments off = IsFalse off.unused_fragments → All (IsUsed used) fragments

-- of an unused fragment is reported what is not off
pub unused_is_not_off : (off : RuleSet) → IsFalse off.unused_fragments → (used : List NameText) (fragments : Pool) (e : DiagnosticEntry) → IsUnnamedEntry used fragments e →
    ¬ NamesRuleIn off e.details
unused_is_not_off off on used fragments e (p, stands, unnamed, is) named =
    let named' : IsTrue off.unused_fragments = subst (λ (x : DiagnosticEntry). NamesRuleIn off x.details) is named in
    let no : ⊥ = cc in
    no

pub unused_none : (used : List NameText) (old : List DiagnosticEntry) → ReportsUnused used [] old old
unused_none used old none = (none, All-nil (IsUsed used))

pub unused_then : (used : List NameText) (xs ys : Pool) (old mid new : List DiagnosticEntry) → ReportsUnused used xs old mid → ReportsUnused used ys mid new →
    ReportsUnused used (xs ++ ys) old new
unused_then used xs ys old mid new first rest none =
    let b = rest none in
    let a = first b.0 in
    (a.0, All-append (IsUsed used) xs ys a.1 b.1)

pub unused_known : (used : List NameText) (p : NameText × FragmentDefinition) (old : List DiagnosticEntry) → IsNamedIn used p.0 → ReportsUnused used (p ∷ []) old old
unused_known used p old known none = (none, All-cons (IsUsed used) p [] known (All-nil (IsUsed used)))

pub unused_reported : (used : List NameText) (xs : Pool) (old new : List DiagnosticEntry) (e : DiagnosticEntry) → new ≡ old ++ e ∷ [] → ReportsUnused used xs old new
unused_reported used xs old new e grown none = absurd (not_nil old e (sym grown ∙ none))

pub unused_more : (used : List NameText) (ds : List Definition) (i : ℕ) (d : Definition) (old mid new : List DiagnosticEntry) → i < length ds → d ≡ get_or ds i d →
    ReportsUnused used (fragments_in (take i ds)) old mid → ReportsUnused used (fragments_in (d ∷ [])) mid new → ReportsUnused used (fragments_in (take (i + 1) ds)) old new
unused_more used ds i d old mid new within is first rest =
    subst (λ l. ReportsUnused used l old new) (sym (fragments_more ds i d within is)) (unused_then used (fragments_in (take i ds)) (fragments_in (d ∷ [])) old mid new first rest)

pub used_more : (used : List NameText) (documents : List Document) (i : ℕ) (document : Document) (old mid new : List Reports) → i < length documents →
    document ≡ get_or documents i document → QuietOnlyIf old mid (UsedUnlessOff used (fragments_among (take i documents))) →
    QuietOnlyIf mid new (UsedUnlessOff used (fragments_in document.definitions)) → QuietOnlyIf old new (UsedUnlessOff used (fragments_among (take (i + 1) documents)))
used_more used documents i document old mid new within is first rest =
    quiet_then old mid new (UsedUnlessOff used (fragments_among (take i documents))) (UsedUnlessOff used (fragments_in document.definitions))
    (UsedUnlessOff used (fragments_among (take (i + 1) documents)))
    (λ off a b on. subst (All (IsUsed used)) (sym (flat_more (λ (t : Document). fragments_in t.definitions) documents i document within is))
    (All-append (IsUsed used) (fragments_among (take i documents)) (fragments_in document.definitions) (a on) (b on))) first rest
