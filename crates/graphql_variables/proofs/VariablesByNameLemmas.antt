-- The first variable of each name.
use Rattle.std.proofs.Common.{◌≡◌, List, [], ◌∷◌, ◌++◌, Bor, Some, None, cond, sym, ap, ◌∙◌}
use Rattle.std.specs.HashMap.{HashMap, get_by}
use Rattle.std.specs.Option.{option_copied, option_or}
use Rattle.std.proofs.lemmas.List.Folds.{find-append}
use Rattle.graphql_nodes.specs.Names.{NameText, same_name}
use Rattle.graphql_documents.specs.declared.documents.definitions.VariableDefinition.{VariableDefinition}
use Rattle.graphql_nodes.specs.declared.nodes.Node.{Node}
use Rattle.graphql_variables.specs.VariablesByName.{FindsFirst}

-- one more is found where none of its name was
pub finds_more : {S : Type 0} {first new : HashMap (Bor NameText) (Bor (Node VariableDefinition)) S} {before : List (Node VariableDefinition)} (x : Node VariableDefinition) →
    ((name : NameText) → option_copied (get_by (λ b. same_name name b.now) new) ≡
    option_or (option_copied (get_by (λ b. same_name name b.now) first)) (cond (same_name x.value.value.name name) (Some x) None)) →
    FindsFirst first before → FindsFirst new (before ++ x ∷ [])
finds_more {before} x more finds = record {
  look_up = λ name.
      more name ∙ ap (λ o. option_or o (cond (same_name x.value.value.name name) (Some x) None)) (finds.look_up name) ∙
      sym (find-append (λ (v : Node VariableDefinition). same_name v.value.value.name name) before (x ∷ []));
}
