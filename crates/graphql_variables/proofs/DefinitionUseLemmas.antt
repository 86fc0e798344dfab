-- The variables in the directives of fragments, of which each is entered once.
use Rattle.std.proofs.Common.{◌≡◌, ◌↔◌, ◌∙◌, Bool, List, None, Some, [], arith, false, not, refl, sym, subst, true}
use Rattle.std.specs.Prelude.{◌⊎◌}
use Rattle.std.proofs.lemmas.Option.{none-some, same_Some}
use Rattle.std.specs.Borrow.{Bor}
use Rattle.std.specs.List.{list_any}
use Rattle.indexmap.specs.IndexSet.{insert_key}
use mathlib.Core.Logic.{inl, inr}
use Rattle.graphql_nodes.specs.Names.{NameText, SameName}
use Rattle.graphql_documents.specs.Selections.{fragments_of}
use Rattle.graphql_documents.specs.VariableUses.{StandsInDirectives}
use Rattle.graphql_documents.specs.declared.documents.executables.ExecutableDocument.{ExecutableDocument}
use Rattle.graphql_documents.specs.declared.documents.executables.Fragment.{Fragment}
use Rattle.graphql_nodes.specs.declared.nodes.Node.{Node}
use Rattle.graphql_documents.proofs.SelectionLemmas.{one_fragment_found}
use Rattle.graphql_variables.specs.Uses.{IsNamedIn, NamesAlso, NamesDefinitions, UsedInDefinition, names_of}
use Rattle.graphql_variables.proofs.NameSetLemmas.{has_name, named_key, same_key}

-- what is not new is known
pub known_before : (known new : Bool) → new ≡ not known → new ≡ false → known ≡ true
known_before true new e is = refl
known_before false new e is = let no : ⊥ = cc in absurd no

module _ (document : ExecutableDocument) where
  -- no fragment was entered
  pub no_definitions : (none names : List (Bor NameText)) → none ≡ [] → NamesDefinitions (fragments_of document) none names
  no_definitions none names e fragment name there used =
      let (u, (k, within, is), same) = subst (λ l. IsNamedIn (names_of l) fragment) e there in
      absurd (let no : ⊥ = omega (arith, within) in no)

  -- names that were added take none away
  pub definitions_stay : (Used : NameText → Type 0) (entered old new : List (Bor NameText)) → NamesDefinitions (fragments_of document) entered old →
      NamesAlso Used old new → NamesDefinitions (fragments_of document) entered new
  definitions_stay Used entered old new definitions also fragment name there used = (also name).1 (inl (definitions fragment name there used))

  -- the variables of a fragment that was entered are named
  pub named_before : (entered names : List (Bor NameText)) (k : Bor NameText) → NamesDefinitions (fragments_of document) entered names →
      list_any (same_key k) entered ≡ true → NamesAlso (UsedInDefinition (fragments_of document) k.now) names names
  named_before entered names k definitions known name = (λ there. inl there, back) where
    back : IsNamedIn (names_of names) name ⊎ UsedInDefinition (fragments_of document) k.now name → IsNamedIn (names_of names) name
    back (inl there) = there
    back (inr used) = definitions k.now name (has_name entered k known) used

  -- one fragment more was entered
  pub one_more_definition : (entered old new : List (Bor NameText)) (k : Bor NameText) → NamesDefinitions (fragments_of document) entered old →
      NamesAlso (UsedInDefinition (fragments_of document) k.now) old new →
      NamesDefinitions (fragments_of document) (insert_key same_key entered k) new
  one_more_definition entered old new k definitions also fragment name there (d, found, used) = by ((named_key entered k fragment).0 there) where
    by : IsNamedIn (names_of entered) fragment ⊎ SameName k.now fragment → IsNamedIn (names_of new) name
    by (inl before) = (also name).1 (inl (definitions fragment name before (d, found, used)))
    by (inr same) = (also name).1 (inr (d, one_fragment_found document k.now fragment same ∙ found, used))

  -- the variables in the directives of the fragment that is found, or of none
  pub used_where_defined : (fragment : NameText) (d : Node Fragment) → fragments_of document fragment ≡ Some d → (name : NameText) →
      StandsInDirectives name d.value.value.directives.items ↔ UsedInDefinition (fragments_of document) fragment name
  used_where_defined fragment d found name = (λ used. (d, found, used), back) where
    back : UsedInDefinition (fragments_of document) fragment name → StandsInDirectives name d.value.value.directives.items
    back (e, found', used) = subst (λ (x : Node Fragment). StandsInDirectives name x.value.value.directives.items) (same_Some e d (sym found' ∙ found)) used

  pub undefined_uses_none : (fragment : NameText) (names : List (Bor NameText)) → fragments_of document fragment ≡ None →
      NamesAlso (UsedInDefinition (fragments_of document) fragment) names names
  undefined_uses_none fragment names missing name = (λ there. inl there, back) where
    back : IsNamedIn (names_of names) name ⊎ UsedInDefinition (fragments_of document) fragment name → IsNamedIn (names_of names) name
    back (inl there) = there
    back (inr (d, found, used)) = absurd (none-some d (sym missing ∙ found))
