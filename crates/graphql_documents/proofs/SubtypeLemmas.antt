-- What a set of listed names is asked, as the definitions say it.
use Rattle.std.proofs.Common.{◌≡◌, ◌||◌, List, [], ◌∷◌, refl, sym, ap, subst, ◌∙◌}
use Rattle.std.proofs.lemmas.List.Folds.{Any-from_list_any, list_any-from_Any}
use Rattle.std.specs.Prelude.{◌↔◌, IsTrue}
use Rattle.std.specs.List.{list_any}
use Rattle.graphql_nodes.specs.Names.{NameText, same_name}
use Rattle.graphql_documents.specs.Schemas.{IsListed}
use Rattle.graphql_documents.specs.declared.documents.components.ComponentName.{ComponentName}
use Rattle.graphql_documents.proofs.ImplementerLemmas.{same_swapped}

any_swapped : (names : List ComponentName) (name : NameText) →
    list_any (λ (c : ComponentName). same_name name c.name) names ≡ list_any (λ (c : ComponentName). same_name c.name name) names
any_swapped [] name = refl
any_swapped (c ∷ cs) name =
    ap (λ b. b || list_any (λ (d : ComponentName). same_name name d.name) cs) (same_swapped name c.name) ∙
    ap (λ b. same_name c.name name || b) (any_swapped cs name)

-- a name is listed where a set of listed names has it
pub listed_asked : (names : List ComponentName) (name : NameText) →
    IsTrue (list_any (λ (c : ComponentName). same_name name c.name) names) ↔ IsListed name names
listed_asked names name = (
  λ asked. Any-from_list_any (λ (c : ComponentName). same_name c.name name) names (subst IsTrue (any_swapped names name) asked),
  λ listed. subst IsTrue (sym (any_swapped names name)) (list_any-from_Any (λ (c : ComponentName). same_name c.name name) names listed),
)
