use Rattle.std.proofs.Common.{◌≡◌, [], List, ap, map, subst}
use Rattle.std.specs.Prelude.{◌⊎◌, Contains}
use Rattle.std.specs.Borrow.{Bor}
use mathlib.Core.Logic.{inl, inr}
use Rattle.graphql_nodes.specs.declared.nodes.Node.{Node}
use Rattle.graphql_documents.proofs.ListLemmas.{none_stands}
use Rattle.graphql_documents.specs.Selections.{fragments_of}
use Rattle.graphql_documents.specs.declared.documents.values.Value.{Value}
use Rattle.graphql_reach.specs.Reached.{names_at}
use Rattle.graphql_usage_rules.specs.Scopes.{Adds, InFragments, SetHasVariable, values_at}
use Rattle.graphql_usage_rules.specs.UndefinedVariables.{VariableInDirectives, VariableInScope}
use Rattle.graphql_usage_rules.proofs.AddLemmas.{adds_then, adds_words}
use Rattle.graphql_usage_rules.proofs.VariableLemmas.{Parts, scope_words}
use Rattle.graphql_usage_rules.proofs.scopes.variables_in_scope.Goals as goal

-- what was added to no elements is all
alone : {X : Type 0} (P : X → Type 0) (old new : List X) → old ≡ [] → Adds P old new → (x : X) → (Contains new x → P x) × (P x → Contains new x)
alone P old new none a x = (λ there. forth ((a x).0 there), λ p. (a x).1 (inr p)) where
  forth : Contains old x ⊎ P x → P x
  forth (inl there) = absurd (none_stands x (subst (λ l. Contains l x) none there))
  forth (inr p) = p

abbrev now_of : Bor (Node Value) → Node Value
now_of v = v.now

pub returns : goal.returns
returns c =
    let d = c.args.document.now in
    let o = c.args.operation.now in
    let names = names_at c.in_ok-reached.reached.keys in
    let old = values_at c.new-variables.result.items in
    let first = values_at c.add_in_directives.new.variables.items in
    let second = values_at c.add_in_selection_set.new.variables.items in
    let new = values_at c.add_in_fragments.new.variables.items in
    let Directives = VariableInDirectives o.directives.items in
    let Below = SetHasVariable o.selection_set in
    let Fragments = InFragments (fragments_of d) names in
    let directives = subst (λ l. Adds (VariableInDirectives l) old first) c.deref.ensures.value c.in_ok-add_in_directives.ensures in
    let later = adds_then Below Fragments first second new c.in_ok-add_in_selection_set.ensures c.in_ok-add_in_fragments.ensures in
    let all = adds_then Directives (λ v. Below v ⊎ Fragments v) old first new directives later in
    alone (VariableInScope (fragments_of d) o) old new (ap (map now_of) c.new-variables.ensures.items)
    (adds_words (Parts d o names c.in_ok-reached.ensures) (VariableInScope (fragments_of d) o) old new (scope_words d o names c.in_ok-reached.ensures) all)
